use Rattle.std.proofs.Common.{◌≡◌, drop, map}
use Rattle.text_faults.specs.Names.{first_wrong}
use Rattle.text_faults.proofs.names.first_wrong.Given as goal

abbrev pub invariant-loop-part : goal.invariant-loop-part
invariant-loop-part l =
    first_wrong l.schema (map (λ x. x.now) (drop l.part-index l.parts)) ≡ first_wrong l.schema
    (map (λ x. x.now) l.parts)
