-- Attributes whose values are changed one by one: what contracts that aren't public say of it.
-- What public contracts say is in specs/Opening.
use Rattle.std.specs.Prelude.{◌≡◌, ℕ, List, Bool, is_some, length, Option, None, Some}
use Rattle.std.specs.List.{list_any}
use Rattle.std.specs.Str.{bytes_eq}
use Rattle.dir_entry.specs.Entry.{KeyedAttribute}
use Rattle.entry_changes.specs.declared.index.Index.{Index}
use Rattle.entry_changes.specs.declared.index.Indexed.{Indexed}
use Rattle.entry_changes.specs.Opening.{octets_by, held_in, since}

-- the index has the octets of the values that are held, and no others
pub record Fits (by : Bool) (f : List ℕ → Option ℕ) (a : KeyedAttribute) : Type 0 where
  pub long : length (octets_by by a) ≡ length a.values
  pub has : (q : List ℕ) → is_some (f q) ≡ list_any (bytes_eq q) (octets_by by (held_in by f a))

-- the index of an attribute has what it holds, where there is an index
abbrev pub FitsIn : KeyedAttribute → Option Index → Type 0
FitsIn a None = Unit {0}
FitsIn a (Some i) = Fits i.by_keys (since i.held.entries) a

-- an attribute with an index, as it is seen
abbrev pub held_of : Indexed → KeyedAttribute
held_of x = held_in x.index.by_keys (since x.index.held.entries) x.attribute

-- an attribute with an index: its values are seen as before
pub record IsIndexed (by : Bool) (a : KeyedAttribute) (x : Indexed) : Type 0 where
  pub kind : x.attribute.kind ≡ a.kind
  pub values : (held_of x).values ≡ a.values
  pub octets : octets_by by (held_of x) ≡ octets_by by a
  pub by_keys : x.index.by_keys ≡ by
  pub fits : Fits x.index.by_keys (since x.index.held.entries) x.attribute
