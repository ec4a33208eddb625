use Rattle.std.proofs.Common.{◌≡◌, ◌++◌, map, drop}
use Rattle.schema_reader.specs.Described.{class_of}
use Rattle.schema_reader.proofs.described.classes_of.Given as goal

abbrev pub invariant-loop-description : goal.invariant-loop-description
invariant-loop-description l = l.found.items ++ map (class_of l.text) (drop l.description-index l.classes) ≡
    map (class_of l.text) l.classes
