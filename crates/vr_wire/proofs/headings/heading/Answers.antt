-- Frames: what the first octets say is refused only where no frame begins so.
use Rattle.std.proofs.Common.{◌≡◌, ℕ, sym, ap, ◌∙◌}
use Rattle.vr_wire.proofs.Begin.{tells_nothing, tells_another, first_octets}
use Rattle.vr_wire.proofs.headings.heading.Goals as goal

pub returns-in-None : goal.returns-in-None
returns-in-None c = tells_nothing c.args.first (sym c.in-None.ensures.told)

pub returns-then-other-number : goal.returns-then-other-number
returns-then-other-number c =
    let same : c.in-Some.other ≡ c.args.cluster = c.if-other-number.true ∙ c.number.ensures.same in
    let says = c.in-Some.ensures.says in
    (says.0 ∙ ap (λ (n : ℕ). first_octets n c.in-Some.said.0 c.in-Some.said.1) same, says.1)

pub returns-else-other-number : goal.returns-else-other-number
returns-else-other-number c = tells_another c.args.first (c.in-Some.other, c.in-Some.said) c.args.cluster
    (sym c.in-Some.ensures.told) (λ e. c.if-other-number.false (e ∙ sym c.number.ensures.same))
