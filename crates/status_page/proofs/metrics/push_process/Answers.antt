-- What search doesn't prove of `push_process`: its rows, one behind the other.
use Rattle.status_page.proofs.Rows.{row, ◌▸◌, added}
use Rattle.status_page.proofs.metrics.push_process.Goals as goal

pub returns : goal.returns
returns c =
    added c.push_metrics.result _ _
    ((row c.gauge.result _ c.gauge.ensures
    ▸ row c.counter.result _ c.counter.ensures
    ▸ row c.gauge-2.result _ c.gauge-2.ensures
    ▸ row c.gauge-3.result _ c.gauge-3.ensures)
    ▸ (row c.gauge-4.result _ c.gauge-4.ensures
    ▸ row c.gauge-5.result _ c.gauge-5.ensures
    ▸ row c.counter-2.result _ c.counter-2.ensures))
    c.push_metrics.ensures
