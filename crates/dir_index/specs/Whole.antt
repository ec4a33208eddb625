-- What is kept as a whole, and which entries it is of.
use Rattle.std.specs.Prelude.{◌≡◌, ℕ, ◌<◌, List, [], ◌∷◌, Bool, false, cond, map, filter, not, nat_eq, ◌⊎◌}
use Rattle.std.specs.List.{AllByRecursion, list_any}
use Rattle.index_choice.specs.dir_entry.Entry.{KeyedAttribute}
use Rattle.index_choice.specs.declared.kinds.Kinds.{Kinds}
use Rattle.dir_index.specs.declared.posting.Posting.{Posting}
use Rattle.dir_index.specs.Postings.{Indexed, IsRising, is_of, has_type, some_key, postings_of}
use Rattle.dir_index.specs.ListKeys.{key_of}
use Rattle.dir_index.specs.Stored.{ListRows, list_at}

-- posting lists without their memory: the index choice, and each list by its key
pub record PostingsModel : Type 0 where
  pub indexes : List Kinds
  pub lists : ListRows

-- the list of a posting; one that isn't there is empty
abbrev pub list_of : PostingsModel → Posting → List ℕ
list_of m p = list_at m.lists (key_of p)

-- The lists are those of numbered entries under their own index choice.
pub record AreOf (m : PostingsModel) (es : List Indexed) : Type 0 where
  pub numbered : IsRising (map (λ e. e.number) es)
  pub postings : (p : Posting) → list_of m p ≡ (postings_of m.indexes es).posting p

-- the number is above all
abbrev pub AllBelow : ℕ → List Indexed → Type 0
AllBelow n es = AllByRecursion (λ e. e.number < n) es

-- the entry of the number
abbrev pub HasEntry : List Indexed → ℕ → List KeyedAttribute → Type 0
HasEntry [] n a = ⊥
HasEntry (e ∷ es) n a = ((e.number ≡ n) × (e.entry ≡ a)) ⊎ HasEntry es n a

-- the entries without that of a number
abbrev pub without : ℕ → List Indexed → List Indexed
without n es = filter (λ e. not (nat_eq e.number n)) es

-- the entries with other attributes for a number
abbrev pub with_attributes : ℕ → List KeyedAttribute → List Indexed → List Indexed
with_attributes n a es = map (λ e. cond (nat_eq e.number n) (record { number = n; entry = a }) e) es

-- the attributes of a type
abbrev pub of_type : ℕ → List KeyedAttribute → List KeyedAttribute
of_type t e = filter (is_of t) e

-- whether a type is one of these
abbrev pub is_one_of : List ℕ → ℕ → Bool
is_one_of types t = list_any (nat_eq t) types

-- Two entries have the same attributes of each type but these and those of some named values. Of a type of the latter
-- alone they may differ in the named values: a test that no key of these passes is passed by keys of both or of neither.
pub record AreSameBut (types : List ℕ) (named before after : List KeyedAttribute) : Type 0 where
  pub attributes : (t : ℕ) → is_one_of types t ≡ false → has_type t named ≡ false → of_type t before ≡ of_type t after
  pub keys : (t : ℕ) (f : List ℕ → Bool) → is_one_of types t ≡ false → some_key t f named ≡ false →
      some_key t f before ≡ some_key t f after
