-- What a replica counts: its counts come in, their figures in the text form of Prometheus go out, each once.
use Rattle.std.specs.Prelude.{ℕ, List, [], ◌++◌, codes}
use Rattle.status_page.specs.declared.figures.Histograms.{Histograms}
use Rattle.status_page.specs.declared.figures.ClientCounts.{ClientCounts}
use Rattle.status_page.specs.declared.figures.Counts.{Counts}
use Rattle.status_page.specs.declared.figures.PeerCounts.{PeerCounts}
use Rattle.status_page.specs.declared.figures.ProcessCounts.{ProcessCounts}
use Rattle.status_page.specs.Samples.{figure, sample, optional_sample, optional_scaled_sample, labelled_figure}
use Rattle.status_page.specs.Samples.{histogram_samples}

-- the searches that were answered, by result code
abbrev pub searches_text : Counts → List ℕ
searches_text k =
    labelled_figure (codes "dird_searches_total") (codes "Searches that were answered, by result code.")
    (codes "counter") (codes "code") k.searches.items

-- the compares, by result code
abbrev pub compares_text : Counts → List ℕ
compares_text k =
    labelled_figure (codes "dird_compares_total") (codes "Compares that were answered, by result code.")
    (codes "counter") (codes "code") k.compares.items

-- the updates, by result code
abbrev pub updates_text : Counts → List ℕ
updates_text k =
    labelled_figure (codes "dird_updates_total")
    (codes "Updates that were asked of this replica and answered, by result code; 10 is a referral.")
    (codes "counter") (codes "code") k.updates.items

-- the binds, by result code
abbrev pub binds_text : Counts → List ℕ
binds_text k =
    labelled_figure (codes "dird_binds_total")
    (codes "Binds that were answered, by result code; 0 is one that was accepted.")
    (codes "counter") (codes "code") k.binds.items

-- what searches cost
abbrev pub effort_text : Counts → List ℕ
effort_text k =
    figure (codes "dird_evaluated_entries_total") (codes "Entries on which searches evaluated their filters.")
    (codes "counter")
    (sample (codes "dird_evaluated_entries_total") k.evaluated)
    ++ figure (codes "dird_slow_searches_total") (codes "Searches that did so on more entries than --slow.")
    (codes "counter")
    (sample (codes "dird_slow_searches_total") k.slow)

-- what a replica has answered since its start
abbrev pub answers_text : Counts → List ℕ
answers_text k =
    searches_text k
    ++ compares_text k
    ++ updates_text k
    ++ binds_text k
    ++ effort_text k

-- what its threads do
abbrev pub threads_text : Counts → List ℕ
threads_text k =
    figure (codes "dird_reads_in_flight") (codes "How many searches and compares are being answered.") (codes "gauge")
    (sample (codes "dird_reads_in_flight") k.reads)
    ++ figure (codes "dird_read_threads") (codes "How many threads answer searches and compares.") (codes "gauge")
    (sample (codes "dird_read_threads") k.read_threads)
    ++ figure (codes "dird_updates_in_flight") (codes "How many updates are being made.") (codes "gauge")
    (sample (codes "dird_updates_in_flight") k.updating)
    ++ figure (codes "dird_update_threads") (codes "How many threads wait for updates.") (codes "gauge")
    (sample (codes "dird_update_threads") k.update_threads)

-- what its clients take, and who was sent away
abbrev pub clients_text : ClientCounts → List ℕ
clients_text k =
    figure (codes "dird_client_memory_bytes") (codes "Octets of memory that the sessions of clients hold.")
    (codes "gauge")
    (sample (codes "dird_client_memory_bytes") k.memory)
    ++ figure (codes "dird_client_memory_limit_bytes") (codes "Octets of memory that they may hold together.")
    (codes "gauge")
    (sample (codes "dird_client_memory_limit_bytes") k.memory_limit)
    ++ figure (codes "dird_sessions_ended_for_memory_total")
    (codes "Sessions that were ended since all held more than they may.") (codes "counter")
    (sample (codes "dird_sessions_ended_for_memory_total") k.ended)
    ++ figure (codes "dird_session_limit") (codes "How many sessions there may be.") (codes "gauge")
    (sample (codes "dird_session_limit") k.session_limit)
    ++ figure (codes "dird_sessions_evicted_total")
    (codes "Sessions that were ended, or not begun, since there was no room.") (codes "counter")
    (sample (codes "dird_sessions_evicted_total") k.evicted)

-- what passes between it and its clients
abbrev pub traffic_text : ClientCounts → List ℕ
traffic_text k =
    figure (codes "dird_client_read_bytes_total") (codes "Octets that were read of clients.") (codes "counter")
    (sample (codes "dird_client_read_bytes_total") k.octets_read)
    ++ figure (codes "dird_client_written_bytes_total") (codes "Octets that were written to clients.") (codes "counter")
    (sample (codes "dird_client_written_bytes_total") k.octets_written)

-- what its threads do, what its clients take, and what passes between it and them
abbrev pub load_text : Counts → List ℕ
load_text k =
    threads_text k
    ++ clients_text k.clients
    ++ traffic_text k.clients

-- the messages for each other replica, by its index
abbrev pub queued_text : PeerCounts → List ℕ
queued_text k =
    labelled_figure (codes "dird_peer_messages_queued_total") (codes "Messages that were queued for another replica.")
    (codes "counter") (codes "peer") k.queued.items

-- those of them that were taken from the queue
abbrev pub sent_text : PeerCounts → List ℕ
sent_text k =
    labelled_figure (codes "dird_peer_messages_sent_total")
    (codes "Messages that were taken from the queue to be sent to it.")
    (codes "counter") (codes "peer") k.sent.items

-- the last log entry that each other replica has acknowledged
abbrev pub acknowledged_text : PeerCounts → List ℕ
acknowledged_text k =
    labelled_figure (codes "dird_peer_acknowledged")
    (codes "The last log entry that it has acknowledged to this replica, by its number.")
    (codes "gauge") (codes "peer") k.acknowledged.items

-- the starts of each other replica that were refused
abbrev pub refused_text : PeerCounts → List ℕ
refused_text k =
    labelled_figure (codes "dird_peer_starts_refused_total")
    (codes "Starts of it that were refused, since their files are older than what it said.")
    (codes "counter") (codes "peer") k.refused.items

-- the other replicas that are heard
abbrev pub connected_text : PeerCounts → List ℕ
connected_text k =
    labelled_figure (codes "dird_peer_connected") (codes "1 where it is heard, else 0.")
    (codes "gauge") (codes "peer") k.connected.items

-- when each was heard last
abbrev pub heard_text : PeerCounts → List ℕ
heard_text k =
    labelled_figure (codes "dird_peer_last_heard_timestamp_seconds")
    (codes "When it was heard last, in seconds since 1970; 0 for never.")
    (codes "gauge") (codes "peer") k.heard.items

-- the octets that went to each
abbrev pub octets_sent_text : PeerCounts → List ℕ
octets_sent_text k =
    labelled_figure (codes "dird_peer_sent_bytes_total") (codes "Octets of messages that were made to be sent to it.")
    (codes "counter") (codes "peer") k.octets_sent.items

-- the octets that came from each
abbrev pub octets_received_text : PeerCounts → List ℕ
octets_received_text k =
    labelled_figure (codes "dird_peer_received_bytes_total") (codes "Octets of messages that came from it.")
    (codes "counter") (codes "peer") k.octets_received.items

-- the messages between replicas
abbrev pub messages_text : PeerCounts → List ℕ
messages_text k =
    queued_text k
    ++ sent_text k
    ++ acknowledged_text k
    ++ refused_text k

-- the links between replicas
abbrev pub links_text : PeerCounts → List ℕ
links_text k =
    connected_text k
    ++ heard_text k
    ++ octets_sent_text k
    ++ octets_received_text k

-- what it knows of the other replicas
abbrev pub others_text : PeerCounts → List ℕ
others_text k =
    messages_text k
    ++ links_text k

-- the seconds of requests, by kind
abbrev pub request_samples : Histograms → List ℕ
request_samples k =
    histogram_samples (codes "dird_request_seconds") (codes "kind=\"search\",") (codes "{kind=\"search\"}") k.searches
    ++ histogram_samples (codes "dird_request_seconds") (codes "kind=\"compare\",") (codes "{kind=\"compare\"}")
    k.compares
    ++ histogram_samples (codes "dird_request_seconds") (codes "kind=\"update\",") (codes "{kind=\"update\"}") k.updates

-- how long requests took
abbrev pub requests_text : Histograms → List ℕ
requests_text k =
    figure (codes "dird_request_seconds")
    (codes "How long requests took, in seconds; an update until it was committed.")
    (codes "histogram")
    (request_samples k)

-- how long batches of events took
abbrev pub batches_text : Histograms → List ℕ
batches_text k =
    figure (codes "dird_batch_seconds")
    (codes "How long batches of events took with a journal, in seconds: their steps, a write and a sync.")
    (codes "histogram")
    (histogram_samples (codes "dird_batch_seconds") [] [] k.batches)

-- how long all took
abbrev pub times_text : Histograms → List ℕ
times_text k =
    requests_text k
    ++ batches_text k

-- what the system tells of the process
abbrev pub resources_text : ProcessCounts → List ℕ
resources_text k =
    figure (codes "process_resident_memory_bytes") (codes "Octets of memory that the process has.") (codes "gauge")
    (optional_sample (codes "process_resident_memory_bytes") k.memory)
    ++ figure (codes "process_cpu_seconds_total") (codes "Seconds of processors that the process took.")
    (codes "counter")
    (optional_scaled_sample (codes "process_cpu_seconds_total") k.processors (codes "e-2"))
    ++ figure (codes "process_open_fds") (codes "How many descriptors the process has open.") (codes "gauge")
    (optional_sample (codes "process_open_fds") k.descriptors)
    ++ figure (codes "process_max_fds") (codes "How many descriptors the process may have open.") (codes "gauge")
    (optional_sample (codes "process_max_fds") k.descriptor_limit)

-- when the process began, and what it keeps
abbrev pub kept_text : ProcessCounts → List ℕ
kept_text k =
    figure (codes "process_start_time_seconds") (codes "When the process began, in seconds since 1970.") (codes "gauge")
    (sample (codes "process_start_time_seconds") k.began)
    ++ figure (codes "dird_journal_bytes") (codes "Octets of the file of the journal.") (codes "gauge")
    (optional_sample (codes "dird_journal_bytes") k.journal)
    ++ figure (codes "dird_log_lines_dropped_total")
    (codes "Lines that were not written on standard error, since nobody read it.") (codes "counter")
    (sample (codes "dird_log_lines_dropped_total") k.dropped_lines)

-- the process
abbrev pub process_text : ProcessCounts → List ℕ
process_text k =
    resources_text k
    ++ kept_text k

-- all that a replica counts
abbrev pub counts_text : Counts → List ℕ
counts_text k = answers_text k ++ load_text k ++ others_text k.peers ++ times_text k.times ++ process_text k.process
