use Rattle.std.proofs.Common.{◌≡◌, drop, map}
use Rattle.schema_faults.specs.private.Reaching.{with_called}
use Rattle.schema_faults.proofs.loops.add_called.Given as goal

abbrev pub invariant-loop-word : goal.invariant-loop-word
invariant-loop-word l =
    with_called l.classes l.from l.reached (map (λ v. v.items) (drop l.word-index l.words)) ≡ with_called l.classes
    l.from l.fn.reached (map (λ v. v.items) l.words)
