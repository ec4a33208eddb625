-- What search doesn't prove of `note_news`: `loop-number-smaller`, `loop-number-preserved` and what it returns, by
-- lemmas of `Reaching`.
use Rattle.std.proofs.Common.{◌≡◌, ◌<◌, ℕ, List, Option, None, length, ap, sym, subst, ◌∙◌}
use Rattle.schema_meaning.specs.declared.inheriting.Effect.{Effect}
use Rattle.schema_meaning.specs.private.Settling.{new_effect}
use Rattle.schema_meaning.proofs.Reaching.{knows_news, fewer, has_all}
use Rattle.schema_meaning.proofs.effects.note_news.Goals as goal

pub loop-number-smaller : goal.loop-number-smaller
loop-number-smaller c =
    let v = c.as_slice.ensures.value in
    fewer c.args.types.now c.loop-number.table.items c.in-Some.number c.in-Some.effect
    (subst (λ (os : List (Option Effect)). c.in-Some.number < length os) v c.in-Some.ensures.0)
    (ap (λ (os : List (Option Effect)). new_effect c.args.types.now os c.in-Some.number) (sym v) ∙ c.in-Some.ensures.1)

pub loop-number-preserved : goal.loop-number-preserved
loop-number-preserved c =
    knows_news c.args.types.now c.loop-number.table.items c.in-Some.number c.in-Some.effect c.loop-number.invariant
    (ap (λ (os : List (Option Effect)). new_effect c.args.types.now os c.in-Some.number)
    (sym c.as_slice.ensures.value) ∙ c.in-Some.ensures.1)

pub returns : goal.returns
returns c =
    has_all c.args.types.now c.loop-number.table.items c.loop-number.invariant
    (subst (λ (os : List (Option Effect)). (t : ℕ) → t < length os → new_effect c.args.types.now os t ≡ None)
    c.as_slice.ensures.value c.in_default.ensures)
