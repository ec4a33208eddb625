-- What search doesn't prove of `push_times`: its rows, one behind the other.
use Rattle.status_page.proofs.Rows.{row, ◌▸◌, added}
use Rattle.status_page.proofs.metrics.push_times.Goals as goal

pub returns : goal.returns
returns c =
    added c.push_metrics.result _ _
    (row c.histogram.result _ c.histogram.ensures
    ▸ row c.histogram-2.result _ c.histogram-2.ensures)
    c.push_metrics.ensures
