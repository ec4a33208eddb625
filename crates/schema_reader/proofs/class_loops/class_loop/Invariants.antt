use Rattle.std.proofs.Common.{◌≡◌, drop}
use Rattle.schema_meaning.specs.Faults.{first_of_types}
use Rattle.schema_reader.specs.Reading.{is_class_looping}
use Rattle.schema_reader.proofs.class_loops.class_loop.Given as goal

abbrev pub invariant-loop-number : goal.invariant-loop-number
invariant-loop-number l = first_of_types (λ c d. is_class_looping l.classes c) l.number
    (drop l.number l.descriptions) ≡ first_of_types (λ c d. is_class_looping l.classes c) 0 l.descriptions
