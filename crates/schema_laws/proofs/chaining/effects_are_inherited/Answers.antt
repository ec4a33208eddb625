-- What search doesn't prove of `effects_are_inherited`: the clause `effects` and the clause `types`, by lemmas of
-- `InEffect`.
use Rattle.schema_laws.proofs.InEffect.{effects_are_inherited, types_have_what_is_in_effect}
use Rattle.schema_laws.proofs.chaining.effects_are_inherited.Goals as goal

pub returns-clause-effects : goal.returns-clause-effects
returns-clause-effects c = effects_are_inherited

pub returns-clause-types : goal.returns-clause-types
returns-clause-types c = types_have_what_is_in_effect
