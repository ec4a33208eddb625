-- What search doesn't prove of `push_counts`: its parts, one behind the other.
use Rattle.status_page.specs.Metrics.{answers_text, clients_text, others_text, process_text, threads_text, times_text}
use Rattle.status_page.specs.Metrics.{traffic_text}
use Rattle.status_page.proofs.Written.{counts_added}
use Rattle.status_page.proofs.metrics.push_counts.Goals as goal

pub returns : goal.returns
returns c =
    let k = c.args.counts.now in
    counts_added c.push_process.result _ _ _ _ _ _ _ (answers_text k) (threads_text k) (clients_text k.clients)
    (traffic_text k.clients) (others_text k.peers) (times_text k.times) (process_text k.process)
    c.in_ok-push_answers.ensures c.in_ok-push_threads.ensures c.in_ok-push_clients.ensures c.in_ok-push_peers.ensures
    c.in_ok-push_times.ensures c.push_process.ensures
