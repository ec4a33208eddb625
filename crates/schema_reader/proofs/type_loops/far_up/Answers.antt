-- What search doesn't prove of `far_up`: `loop-left-preserved`, by lemmas of `LoopingTypes`.
use Rattle.std.proofs.Common.{ap, ◌∙◌}
use Rattle.schema_reader.specs.private.Looping.{doubled}
use Rattle.schema_reader.proofs.LoopingTypes.{twice_up}
use Rattle.schema_reader.proofs.type_loops.far_up.Goals as goal

pub loop-left-preserved : goal.loop-left-preserved
loop-left-preserved c =
    twice_up c.args.types.now c.loop-left.left c.loop-left.steps.items c.in_ok-steps-2.steps.items
    (c.in_ok-steps-2.ensures ∙ ap doubled c.as_slice.ensures.value) c.loop-left.invariant
