-- The posting lists of entries.
use Rattle.std.specs.Prelude.{ℕ, List, [], ◌∷◌, Bool, true, ◌&&◌, ◌||◌, map, filter, length, nat_eq, nat_lt, false, Option, None, Some}
use Rattle.std.specs.List.{list_any}
use Rattle.index_choice.specs.dir_entry.ldap_match.Keyed.{is_same_key, is_key_at_least, is_key_at_most}
use Rattle.index_choice.specs.dir_entry.ldap_match.Parts.{is_at_start, tails}
use Rattle.index_choice.specs.dir_entry.Entry.{KeyedAttribute}
use Rattle.index_choice.specs.declared.kinds.Kinds.{Kinds}
use Rattle.index_choice.specs.Choice.{kinds_of}
use Rattle.dir_index.specs.declared.posting.Posting.{Posting}
use Rattle.dir_index.specs.declared.posting.Posting.TheVariants.{Present, Several, Equal, Run}
use Rattle.dir_index.specs.declared.posting.Range.{Range}
pub use Rattle.index_choice.specs.dir_entry.shared_map.Sets.{has_number, IsRising}

-- an entry as indexes see it: its number, and its attributes with their keys
pub record Indexed : Type 0 where
  pub number : ℕ
  pub entry : List KeyedAttribute

-- whether an attribute is of a type
abbrev pub is_of : ℕ → KeyedAttribute → Bool
is_of t a = nat_eq a.kind t

-- whether an attribute of the type is there
abbrev pub has_type : ℕ → List KeyedAttribute → Bool
has_type t e = list_any (is_of t) e

-- whether an entry may have several values of a type: an attribute of it has several, or there are several such
-- attributes
abbrev pub has_several : ℕ → List KeyedAttribute → Bool
has_several t [] = false
has_several t (a ∷ e) = (is_of t a && (nat_lt 1 (length a.keys) || has_type t e)) || has_several t e

-- whether the key of some value of the type passes
abbrev pub some_key : ℕ → (List ℕ → Bool) → List KeyedAttribute → Bool
some_key t p e = list_any (λ a. is_of t a && list_any p a.keys) e

-- whether octets stand in a key, one after the other
abbrev pub stands_in : List ℕ → List ℕ → Bool
stands_in g x = list_any (is_at_start g) (tails x)

-- whether an entry stands in a posting list
abbrev pub is_listed : Posting → List KeyedAttribute → Bool
is_listed (Present t) e = has_type t e
is_listed (Several t) e = has_several t e
is_listed (Equal t k) e = some_key t (is_same_key k) e
is_listed (Run t g) e = some_key t (stands_in g) e

-- Whether the index choice has a posting's index. An index of values in order has the entries with each value too, and
-- those that may have several; a run has three octets.
abbrev pub is_kept : List Kinds → Posting → Bool
is_kept ix (Present t) = (kinds_of ix t).presence
is_kept ix (Several t) = (kinds_of ix t).ordering
is_kept ix (Equal t k) = (kinds_of ix t).equality || (kinds_of ix t).ordering
is_kept ix (Run t g) = (kinds_of ix t).substrings && nat_eq (length g) 3

-- whether a key isn't below the lower end of a range, where it has one
abbrev pub is_from : Option (List ℕ) → List ℕ → Bool
is_from None x = true
is_from (Some k) x = is_key_at_least k x

-- whether a key isn't above the upper end of a range, where it has one
abbrev pub is_upto : Option (List ℕ) → List ℕ → Bool
is_upto None x = true
is_upto (Some k) x = is_key_at_most k x

-- whether a key stands in a range, its ends included
abbrev pub in_range : Range → List ℕ → Bool
in_range r x = is_from r.from x && is_upto r.upto x

-- whether an entry has a value in a range
abbrev pub has_in_range : Range → List KeyedAttribute → Bool
has_in_range r e = some_key r.type_id (in_range r) e

-- the numbers of the entries that pass, in order
abbrev pub numbers_where : (List KeyedAttribute → Bool) → List Indexed → List ℕ
numbers_where p es = map (λ e. e.number) (filter (λ e. p e.entry) es)

-- what is kept: each posting's numbers, and those of a range's postings together
pub record Lists : Type 0 where
  pub posting : Posting → List ℕ
  pub range : Range → List ℕ

-- The posting lists of entries under an index choice: what has no index has no list.
abbrev pub postings_of : List Kinds → List Indexed → Lists
postings_of ix es = record {
  posting = λ p. numbers_where (λ e. is_kept ix p && is_listed p e) es;
  range = λ r. numbers_where (λ e. (kinds_of ix r.type_id).ordering && has_in_range r e) es;
}
