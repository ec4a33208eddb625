-- What search doesn't prove of `looping_types`: what it returns, by lemmas of `LoopingTypes`.
use Rattle.std.proofs.Common.{ℕ, List, Option, length, replicate, false, ap, ◌∙◌}
use Rattle.schema_reader.specs.private.Looping.{all_marked}
use Rattle.schema_reader.proofs.LoopingTypes.{marks_are}
use Rattle.schema_reader.proofs.type_loops.looping_types.Goals as goal

pub returns : goal.returns
returns c =
    marks_are c.args.types.now c.in_ok-steps.steps.items c.in_ok-marks.marks.items c.in_ok-steps.ensures
    (c.in_ok-marks.ensures ∙ ap (λ (os : List (Option ℕ)). all_marked (replicate (length os) false) os)
    c.as_slice.ensures.value)
