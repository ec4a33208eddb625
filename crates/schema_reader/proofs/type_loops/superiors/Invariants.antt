use Rattle.std.proofs.Common.{◌≡◌, ◌++◌, map, drop}
use Rattle.schema_reader.proofs.type_loops.superiors.Given as goal

abbrev pub invariant-loop-attribute_type : goal.invariant-loop-attribute_type
invariant-loop-attribute_type l = l.found.items ++ map (λ t. t.superior) (drop l.attribute_type-index l.types) ≡
    map (λ t. t.superior) l.types
