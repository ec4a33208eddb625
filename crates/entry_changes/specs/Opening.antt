-- Attributes whose values are changed one by one: every value that was ever there stays in its place, and an index says
-- since which place values of some octets are held. No contract above names it.
use Rattle.std.specs.Prelude.{ℕ, ◌+◌, List, [], ◌∷◌, Bool, false, Option, None, Some}
use Rattle.std.specs.Bool.{nat_le}
use Rattle.dir_entry.specs.Entry.{KeyedAttribute}
use Rattle.dir_entry.specs.Picked.{picked}
use Rattle.entry_changes.specs.declared.index.Index.{Index}
pub use Rattle.dir_entry.specs.Compared.{octets_by}
pub use Rattle.dir_entry.specs.ldap_words.NameOrder.{number_at as since}

-- whether values are held at a place: they are held from a place on that isn't behind it
abbrev pub is_since : Option ℕ → ℕ → Bool
is_since None place = false
is_since (Some first) place = nat_le first place

-- of each value, by its octets and from a place on, whether it is held
abbrev pub marks_from : (List ℕ → Option ℕ) → ℕ → List (List ℕ) → List Bool
marks_from f i [] = []
marks_from f i (x ∷ xs) = is_since (f x) i ∷ marks_from f (i + 1) xs

-- of each value of an attribute, whether it is held
abbrev pub marks_in : Bool → (List ℕ → Option ℕ) → KeyedAttribute → List Bool
marks_in by f a = marks_from f 0 (octets_by by a)

-- the attribute with the values that are held
abbrev pub held_in : Bool → (List ℕ → Option ℕ) → KeyedAttribute → KeyedAttribute
held_in by f a = record {
  kind = a.kind;
  values = picked (marks_in by f a) a.values;
  keys = picked (marks_in by f a)
      a.keys;
}

-- an attribute as it is seen; one without an index holds all its values
abbrev pub seen : KeyedAttribute → Option Index → KeyedAttribute
seen a None = a
seen a (Some i) = held_in i.by_keys (since i.held.entries) a
