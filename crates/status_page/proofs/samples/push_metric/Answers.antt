-- What search doesn't prove of `push_metric`: two lines, and the samples behind them.
use Rattle.std.proofs.Common.{codes}
use Rattle.status_page.specs.private.Rows.{kind_word, samples_text}
use Rattle.status_page.proofs.Written.{appended_behind, metric_lines}
use Rattle.status_page.proofs.samples.push_metric.Goals as goal

pub returns : goal.returns
returns c =
    appended_behind c.push_samples.result _ _ _ _ _ _ c.in_ok-writeln.ensures.bytes
    (metric_lines (codes "# HELP ") c.args.metric.name.now (codes " ") c.args.metric.help.now (codes "\n# TYPE ")
    c.word-kind.result.now (kind_word c.args.metric.kind) (codes "\n")
    (samples_text c.args.metric.name.now c.args.metric.samples)
    c.word-kind.ensures)
    c.push_samples.ensures
