use Rattle.std.proofs.Common.{◌≡◌, drop}
use Rattle.schema_meaning.specs.Faults.{first_of_types, is_bad_type}
use Rattle.schema_meaning.proofs.faults.bad_type.Given as goal

abbrev pub invariant-loop-number : goal.invariant-loop-number
invariant-loop-number l = first_of_types (is_bad_type l.text) l.number (drop l.number l.types) ≡ first_of_types
    (is_bad_type l.text) 0 l.types
