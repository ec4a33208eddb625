-- A directory, as the list of its entries in rising order of number, and what is asked of it: RFC 4512 2.1 to 2.3.
use Rattle.std.specs.Prelude.{◌≡◌, ℕ, zero, suc, ◌+◌, ◌-◌, ◌<◌, Bool, true, false, cond, ◌&&◌, ◌||◌, List, [], ◌∷◌, ◌++◌, length, take, drop, map, nat_eq, nat_lt, Option, None, Some, is_some}
use Rattle.std.specs.List.{list_any}
use Rattle.dir_entry.specs.ldap_dn.Names.{TypeAndKey, RdnModel, rdns, are_same_keys}
use Rattle.dir_entry.specs.Entry.{KeyedAttribute}
pub use Rattle.dir_entry.specs.ldap_dn.Names.{name_eq}

-- a name whatever its spelling, root first: what `rdns` gives (RFC 4512 2.3.2)
abbrev pub NameKey : Type 0
NameKey = List (List TypeAndKey)

-- an entry where it stands: its number, its name as it is spelled, and its attributes
pub record Entered : Type 0 where
  pub number : ℕ
  pub name : List RdnModel
  pub entry : List KeyedAttribute

-- a directory: the name of its root, and its entries
pub record TreeModel : Type 0 where
  pub suffix : List RdnModel
  pub entries : List Entered

-- whether the first name is the front of the second, its own whole included
abbrev pub begins : NameKey → NameKey → Bool
begins [] ys = true
begins (x ∷ xs) [] = false
begins (x ∷ xs) (y ∷ ys) = are_same_keys x y && begins xs ys

-- whether the second name is right under the first (RFC 4512 2.1, immediate subordinate)
abbrev pub is_child : NameKey → NameKey → Bool
is_child q n = begins q n && nat_eq (length n) (length q + 1)

-- whether an entry's name is right under a name
abbrev pub is_right_under : NameKey → Entered → Bool
is_right_under q e = is_child q (rdns e.name)

-- whether an entry's name is this one or below it (RFC 4512 2.1, subordinate)
abbrev pub is_at_or_below : NameKey → Entered → Bool
is_at_or_below q e = begins q (rdns e.name)

-- whether an entry's name is strictly below a name
abbrev pub is_below : NameKey → Entered → Bool
is_below q e = begins q (rdns e.name) && nat_lt (length q) (length (rdns e.name))

-- the entry of a name
abbrev pub find : NameKey → List Entered → Option Entered
find q [] = None
find q (e ∷ es) = cond (name_eq q (rdns e.name)) (Some e) (find q es)

-- the entry of a number
abbrev pub entry_at : ℕ → List Entered → Option Entered
entry_at k [] = None
entry_at k (e ∷ es) = cond (nat_eq k e.number) (Some e) (entry_at k es)

-- the numbers of the entries that pass, in their order
abbrev pub numbers : (Entered → Bool) → List Entered → List ℕ
numbers p [] = []
numbers p (e ∷ es) = cond (p e) (e.number ∷ numbers p es) (numbers p es)

-- the number of the entry that was found, as a list
abbrev pub number_found : Option Entered → List ℕ
number_found None = []
number_found (Some e) = e.number ∷ []

-- whether an entry stands strictly below a name
abbrev pub has_below : NameKey → List Entered → Bool
has_below q d = list_any (is_below q) d

-- the length of the longest of the first i fronts of a name that is an entry's name
abbrev pub front_from : ℕ → NameKey → List Entered → ℕ
front_from zero q d = 0
front_from (suc i) q d = cond (is_some (find (take (suc i) q) d)) (suc i) (front_from i q d)

-- the length of the longest front of a name that is an entry's name; 0, if there is none (RFC 4511 4.1.9, matchedDN)
abbrev pub front : NameKey → List Entered → ℕ
front q d = front_from (length q) q d

-- the directory without the entry of a number
abbrev pub unnumbered : ℕ → List Entered → List Entered
unnumbered k [] = []
unnumbered k (e ∷ es) = cond (nat_eq k e.number) es (e ∷ unnumbered k es)

-- the directory with other attributes in the entry of a number
abbrev pub replaced : ℕ → List KeyedAttribute → List Entered → List Entered
replaced k entry [] = []
replaced k entry (e ∷ es) = cond (nat_eq k e.number) (record { number = e.number; name = e.name; entry = entry } ∷ es)
    (e ∷ replaced k entry es)

-- a name once the entries at or below a name stand at or below another: the new name, and behind it what stood behind
-- the old
abbrev pub name_after : NameKey → List RdnModel → List RdnModel → List RdnModel
name_after old new name = cond (begins old (rdns name)) (new ++ drop (length old) name) name

-- The directory once an entry has another name and other attributes: each name that begins with the old one begins with
-- the new one in its place, and all else stays (RFC 4511 4.9).
abbrev pub moved : NameKey → List RdnModel → List KeyedAttribute → List Entered → List Entered
moved old new entry d = map (λ e. record {
  number = e.number;
  name = name_after old new e.name;
  entry =
      cond (name_eq old (rdns e.name)) entry e.entry;
}) d

-- the name right above a name
abbrev pub above : NameKey → NameKey
above q = take (length q - 1) q

-- whether an entry may stand at a name: it is the suffix, or an entry stands right above it (RFC 4512 2.1)
abbrev pub has_footing : NameKey → NameKey → List Entered → Bool
has_footing suffix q d = name_eq q suffix || is_some (find (above q) d)

-- each number is below k
abbrev pub AllBelow : ℕ → List Entered → Type 0
AllBelow k [] = Unit {0}
AllBelow k (e ∷ es) = (e.number < k) × AllBelow k es

-- each number is above k
abbrev pub AllAbove : ℕ → List Entered → Type 0
AllAbove k [] = Unit {0}
AllAbove k (e ∷ es) = (k < e.number) × AllAbove k es

-- numbers rise
abbrev pub NumbersRise : List Entered → Type 0
NumbersRise [] = Unit {0}
NumbersRise (e ∷ es) = AllAbove e.number es × NumbersRise es

-- no two entries have one name
abbrev pub NamesDiffer : List Entered → Type 0
NamesDiffer [] = Unit {0}
NamesDiffer (e ∷ es) = (find (rdns e.name) es ≡ None) × NamesDiffer es

-- What every directory keeps: numbers rise, names differ, each name begins with the suffix, and each entry but the
-- suffix's has an entry right above it (RFC 4512 2.1).
pub record IsDirectory (suffix : NameKey) (d : List Entered) : Type 0 where
  pub rise : NumbersRise d
  pub differ : NamesDiffer d
  pub within : (q : NameKey) → is_some (find q d) ≡ true → begins suffix q ≡ true
  pub parents : (q : NameKey) → is_some (find q d) ≡ true → name_eq q suffix ≡ false → is_some (find (above q) d) ≡ true
