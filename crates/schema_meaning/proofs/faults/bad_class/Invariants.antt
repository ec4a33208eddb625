use Rattle.std.proofs.Common.{◌≡◌, drop}
use Rattle.schema_meaning.specs.Naming.{is_repeated}
use Rattle.schema_meaning.specs.Faults.{first_of_all}
use Rattle.schema_meaning.proofs.faults.bad_class.Given as goal

abbrev pub invariant-loop-description : goal.invariant-loop-description
invariant-loop-description l = first_of_all (is_repeated l.text.types l.text.classes)
    (drop l.description-index l.classes) ≡ first_of_all (is_repeated l.text.types l.text.classes) l.classes
