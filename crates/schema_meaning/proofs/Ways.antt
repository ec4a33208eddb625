-- Where the SUP of a type leads, in a list of all ways.
use Rattle.std.proofs.Common.{◌≡◌, ℕ, zero, suc, List, [], ◌∷◌, Option, None, Some, map, slice_get, refl}
use Rattle.schema_text.specs.Descriptions.{DescriptionModel}
use Rattle.schema_meaning.specs.Naming.{superior_text}
use Rattle.schema_meaning.specs.declared.inheriting.Way.{Way}
use Rattle.schema_meaning.specs.declared.inheriting.Way.TheVariants.{IsLost}
use Rattle.schema_meaning.specs.Inheriting.{way_by, way_of, way_from}
use Rattle.schema_meaning.specs.private.Inheriting.{ways_of}

-- the way at a place; to no type, where the place is behind the list
abbrev pub way_in : Option Way → Way
way_in None = IsLost
way_in (Some w) = w

of_rest : (types rest : List DescriptionModel) (t : ℕ) →
    way_in (slice_get (map (λ d. way_by types (superior_text d)) rest) t) ≡ way_of types (slice_get rest t)
of_rest types [] t = refl
of_rest types (d ∷ ds) zero = refl
of_rest types (d ∷ ds) (suc t) = of_rest types ds t

pub way_at : (types : List DescriptionModel) (t : ℕ) → way_in (slice_get (ways_of types) t) ≡ way_from types t
way_at types t = of_rest types types t
