-- The types of an entry's first attributes, as they stand together.
use Rattle.std.specs.Prelude.{◌≡◌, ℕ, ◌<◌, List, Some, slice_get}
use Rattle.std.specs.Option.{option_map}
use Rattle.dir_entry.specs.Entry.{KeyedAttribute}

-- Where a place tells a type, the attribute at that place is of it. A number that is no smaller than 65535 tells
-- nothing.
abbrev pub AreTypesOf : List ℕ → List KeyedAttribute → Type 0
AreTypesOf types attributes =
    (i t : ℕ) → slice_get types i ≡ Some t → t < 65535 → option_map (λ a. a.kind) (slice_get attributes i) ≡ Some t
