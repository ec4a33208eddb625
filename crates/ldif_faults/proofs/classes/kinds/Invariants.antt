use Rattle.std.proofs.Common.{◌≡◌, ◌++◌, drop, map}
use Rattle.ldif_faults.proofs.classes.kinds.Given as goal

abbrev pub invariant-loop-part : goal.invariant-loop-part
invariant-loop-part l = l.types.items ++ map (λ x. x.kind) (drop l.part-index l.parts) ≡ map (λ x. x.kind) l.parts
