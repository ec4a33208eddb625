use Rattle.std.proofs.Common.{◌≡◌, ◌++◌, drop, map}
use Rattle.schema_meaning.specs.Naming.{superior_text}
use Rattle.schema_meaning.specs.Inheriting.{way_by}
use Rattle.schema_meaning.specs.private.Inheriting.{ways_of}
use Rattle.schema_meaning.proofs.inheriting.ways_of.Given as goal

-- what is looked up so far, and what is left
abbrev pub invariant-loop-description : goal.invariant-loop-description
invariant-loop-description l = l.ways.items ++ map (λ d. way_by l.types (superior_text d))
    (drop l.description-index l.types) ≡ ways_of l.types
