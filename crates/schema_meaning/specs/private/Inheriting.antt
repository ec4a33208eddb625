-- The chain of SUPs, and the rules and the syntax that are in effect for a type: what contracts that aren't public say
-- of it. What public contracts say is in specs/Inheriting.
use Rattle.std.specs.Prelude.{List, map}
use Rattle.schema_text.specs.Descriptions.{DescriptionModel}
use Rattle.schema_meaning.specs.Naming.{superior_text}
use Rattle.schema_meaning.specs.declared.inheriting.Way.{Way}
use Rattle.schema_meaning.specs.Inheriting.{way_by}

-- where the SUP of each type leads
abbrev pub ways_of : List DescriptionModel → List Way
ways_of types = map (λ d. way_by types (superior_text d)) types
