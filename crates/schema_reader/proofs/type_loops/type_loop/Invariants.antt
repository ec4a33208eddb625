use Rattle.std.proofs.Common.{◌≡◌, drop}
use Rattle.schema_meaning.specs.Faults.{first_of_types}
use Rattle.schema_reader.specs.Reading.{is_type_looping}
use Rattle.schema_reader.proofs.type_loops.type_loop.Given as goal

abbrev pub invariant-loop-number : goal.invariant-loop-number
invariant-loop-number l = first_of_types (λ t d. is_type_looping l.types t) l.number (drop l.number l.descriptions) ≡
    first_of_types (λ t d. is_type_looping l.types t) 0 l.descriptions
