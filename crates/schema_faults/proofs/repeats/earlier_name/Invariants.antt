use Rattle.std.proofs.Common.{◌≡◌, drop, map}
use Rattle.schema_faults.specs.Repeats.{earlier_name}
use Rattle.schema_faults.proofs.repeats.earlier_name.Given as goal

abbrev pub invariant-loop-name : goal.invariant-loop-name
invariant-loop-name l =
    earlier_name l.text l.line (map (λ v. v.items) (drop l.name-index l.names)) ≡ earlier_name l.text l.line
    (map (λ v. v.items) l.names)
