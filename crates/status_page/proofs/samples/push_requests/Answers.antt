-- What search doesn't prove of `push_requests`: three histograms, one behind the other.
use Rattle.std.proofs.Common.{codes}
use Rattle.status_page.specs.Samples.{histogram_samples}
use Rattle.status_page.proofs.Written.{added_by_three}
use Rattle.status_page.proofs.samples.push_requests.Goals as goal

pub returns : goal.returns
returns c =
    added_by_three c.push_times-3.result _ _ _ _
    (histogram_samples (codes "dird_request_seconds") (codes "kind=\"search\",") (codes "{kind=\"search\"}")
    c.args.times.now.searches)
    (histogram_samples (codes "dird_request_seconds") (codes "kind=\"compare\",") (codes "{kind=\"compare\"}")
    c.args.times.now.compares)
    (histogram_samples (codes "dird_request_seconds") (codes "kind=\"update\",") (codes "{kind=\"update\"}")
    c.args.times.now.updates)
    c.in_ok-push_times.ensures c.in_ok-push_times-2.ensures c.push_times-3.ensures
