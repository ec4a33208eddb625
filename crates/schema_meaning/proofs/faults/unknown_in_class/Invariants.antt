use Rattle.std.proofs.Common.{◌≡◌, not, drop}
use Rattle.schema_meaning.specs.Faults.{first_of_all, names_known_class}
use Rattle.schema_meaning.proofs.faults.unknown_in_class.Given as goal

abbrev pub invariant-loop-description : goal.invariant-loop-description
invariant-loop-description l = first_of_all (λ d. not (names_known_class l.text d))
    (drop l.description-index l.classes) ≡ first_of_all (λ d. not (names_known_class l.text d)) l.classes
