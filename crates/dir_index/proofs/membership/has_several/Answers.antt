-- What search doesn't prove of `has_several`: `loop-attribute-preserved`, by lemmas of `Marking` and `Changed`.
use Rattle.std.proofs.Common.{◌≡◌, ℕ, Bool, false, nat_eq, sym, ap, ◌∙◌}
use Rattle.std.specs.Prelude.{◌&&◌}
use Rattle.dir_index.specs.private.Marked.{makes_several}
use Rattle.dir_index.proofs.Marking.{off}
use Rattle.dir_index.proofs.Changed.{several_less}
use Rattle.dir_index.proofs.membership.has_several.Goals as goal
use Rattle.dir_index.proofs.membership.has_several.Goals.{else-eq-via-then-eq+else-may_have_several, else-eq-via-else-eq}

pub loop-attribute-preserved : goal.loop-attribute-preserved
loop-attribute-preserved c =
    let t : ℕ = c.args.type_id in
    let kind : c.eq.result ≡ nat_eq c.in-Some.attribute.now.kind t = c.eq.ensures ∙ ap (λ (n : ℕ). nat_eq n t)
    c.type_id.ensures in
    let none : (nat_eq c.in-Some.attribute.now.kind t && makes_several c.in-Some.attribute.now c.in-Some.others.now) ≡
    false = elim c.else-eq.branch [
      | else-eq-via-then-eq+else-may_have_several w ↦
          ap (λ (b : Bool). nat_eq c.in-Some.attribute.now.kind t && b) (sym w.may_have_several.ensures
          ∙ w.if-may_have_several.false) ∙ off (nat_eq c.in-Some.attribute.now.kind t)
      | else-eq-via-else-eq w ↦ ap (λ (b : Bool). b && makes_several c.in-Some.attribute.now c.in-Some.others.now)
          (sym kind ∙ w.if-eq.false)
    ] in
    several_less t c.loop-attribute.rest.now c.in-Some.others.now c.in-Some.attribute.now c.in-Some.ensures.cases.0
    none ∙ c.loop-attribute.invariant
