use Rattle.std.proofs.Common.{◌≡◌, ◌++◌, drop, flat_map, string_bytes}
use Rattle.status_page.specs.private.Rows.{metric_text}
use Rattle.status_page.proofs.samples.push_metrics.Given as goal

abbrev pub invariant-loop-metric : goal.invariant-loop-metric
invariant-loop-metric l =
    string_bytes l.text ++ flat_map metric_text (drop l.metric-index l.metrics) ≡
    string_bytes l.fn.text ++ flat_map metric_text l.metrics
