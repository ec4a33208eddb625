-- What search doesn't prove of `note`: what it returns, by lemmas of `Reaching`.
use Rattle.std.proofs.Common.{List, Option, ap, ◌∙◌}
use Rattle.schema_meaning.specs.declared.inheriting.Effect.{Effect}
use Rattle.schema_meaning.specs.private.Settling.{effect_by}
use Rattle.schema_meaning.proofs.Reaching.{knows_told}
use Rattle.schema_meaning.proofs.effects.note.Goals as goal

pub returns-then-number-len : goal.returns-then-number-len
returns-then-number-len c =
    knows_told c.args.types.now c.args.table.now.items c.args.number c.effect_by-effect.result c.requires.known
    (c.effect_by-effect.ensures ∙ ap (λ (os : List (Option Effect)). effect_by c.args.types.now os c.args.number)
    c.as_slice.ensures.value)
