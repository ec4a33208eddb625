use Rattle.std.proofs.Common.{◌≡◌, drop, slice_get}
use Rattle.schema_meaning.specs.Faults.{first_of_types}
use Rattle.schema_reader.specs.Reading.{has_no_equality}
use Rattle.schema_reader.proofs.looping.no_equality.Given as goal

abbrev pub invariant-loop-number : goal.invariant-loop-number
invariant-loop-number l = first_of_types (λ t d. has_no_equality (slice_get l.types t)) l.number
    (drop l.number l.descriptions) ≡ first_of_types (λ t d. has_no_equality (slice_get l.types t)) 0 l.descriptions
