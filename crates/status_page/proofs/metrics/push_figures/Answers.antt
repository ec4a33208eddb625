-- What search doesn't prove of `push_figures`: its rows, one behind the other.
use Rattle.std.proofs.Common.{ℕ, List, codes, ap, ◌∙◌}
use Rattle.status_page.specs.Samples.{figure, sample}
use Rattle.status_page.proofs.Rows.{row, ◌▸◌, added}
use Rattle.status_page.proofs.metrics.push_figures.Goals as goal

pub returns : goal.returns
returns c =
    let of_number : ℕ → List ℕ = λ n. figure (codes "dird_quorum")
    (codes "0 where the replica is the primary and hears from no majority, else 1.") (codes "gauge")
    (sample (codes "dird_quorum") n) in
    added c.push_metrics.result _ _
    ((row c.gauge.result _ c.gauge.ensures
    ▸ row c.gauge-2.result _ (c.gauge-2.ensures ∙ ap of_number c.quorum.ensures))
    ▸ (row c.gauge-3.result _ c.gauge-3.ensures
    ▸ row c.gauge-4.result _ c.gauge-4.ensures
    ▸ row c.gauge-5.result _ c.gauge-5.ensures
    ▸ row c.gauge-6.result _ c.gauge-6.ensures)
    ▸ (row c.gauge-7.result _ c.gauge-7.ensures
    ▸ row c.gauge-8.result _ c.gauge-8.ensures))
    c.push_metrics.ensures
