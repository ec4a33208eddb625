-- Entries that know their superior: what contracts that aren't public say of it.
-- What public contracts say is in specs/Superiors.
use Rattle.std.specs.Prelude.{◌≡◌, ℕ, zero, suc, Bool, true, false, cond, ◌&&◌, ◌||◌, List, [], ◌∷◌, length, drop, nat_eq, Option, None, Some, is_some}
use Rattle.std.specs.Option.{option_map_or, option_and_then}
use Rattle.std.specs.Ordering.{nat_cmp}
use Rattle.std.specs.Map.{lookup}
use Rattle.std.specs.BTreeMap.{is_at}
use Rattle.dir_entry.specs.ldap_dn.Names.{TypeAndKey, RdnModel, rdns, are_same_keys}
use Rattle.dir_tree.specs.Directory.{NameKey, begins}
use Rattle.dir_tree.specs.declared.place.Place.{Place}
use Rattle.dir_tree.specs.declared.place.Place.TheVariants.{Root, Under}
use Rattle.dir_tree.specs.declared.place.Standing.{Standing}
use Rattle.dir_tree.specs.declared.place.Below.{Below}
use Rattle.dir_tree.specs.Superiors.{Places, has_number}

-- the number right under a number by a relative name, if an entry stands there
abbrev pub Steps : Type 0
Steps = ℕ → List TypeAndKey → Option ℕ

-- the number right above a place
abbrev pub above_in : Option Place → Option ℕ
above_in None = None
above_in (Some (Root name)) = None
above_in (Some (Under above rdn)) = Some above

-- whether this is the root's place
abbrev pub is_root : Option Place → Bool
is_root None = false
is_root (Some (Root name)) = true
is_root (Some (Under above rdn)) = false

-- whether a place is right under a number
abbrev pub stands_under : ℕ → Option Place → Bool
stands_under a None = false
stands_under a (Some (Root name)) = false
stands_under a (Some (Under above rdn)) = nat_eq a above

-- whether a place is right under a number, by this relative name
abbrev pub stands_at : ℕ → List TypeAndKey → Option Place → Bool
stands_at a x None = false
stands_at a x (Some (Root name)) = false
stands_at a x (Some (Under above rdn)) = nat_eq a above && are_same_keys x rdn.keys

-- ---- going up, over at most i numbers

-- the end is reached
abbrev pub ends : ℕ → Places → ℕ → Bool
ends zero p k = false
ends (suc i) p k = option_map_or (ends i p) (above_in (p k)) true

-- number k stands at or below number a
abbrev pub is_over : ℕ → Places → ℕ → ℕ → Bool
is_over zero p a k = false
is_over (suc i) p a k = nat_eq a k || option_map_or (is_over i p a) (above_in (p k)) false

-- ---- going down

-- the number at these relative names below a number
abbrev pub down : Steps → NameKey → ℕ → Option ℕ
down n [] a = Some a
down n (x ∷ xs) a = option_and_then (down n xs) (n a x)

-- the number of a name, from the root's
abbrev pub number_at : Steps → NameKey → Option ℕ → NameKey → Option ℕ
number_at n suffix root q = cond (begins suffix q) (option_and_then (down n (drop (length suffix) q)) root) None

-- how many relative names the steps down from a number don't reach
abbrev pub unreached : Steps → NameKey → ℕ → ℕ
unreached n [] a = 0
unreached n (x ∷ xs) a = option_map_or (unreached n xs) (n a x) (length (x ∷ xs))

-- ---- what is kept

-- what is kept of an entry that nothing stands below
abbrev pub alone : ℕ → Below
alone a = record { names = []; children = []; within = a ∷ [] }

-- what is kept of the entries below a number
abbrev pub below_at : List (ℕ × Below) → ℕ → Below
below_at bs a = option_map_or (λ (b : Below). b) (lookup (is_at (nat_cmp a)) bs) (alone a)

-- the number of a relative name
abbrev pub number_among : List TypeAndKey → List (RdnModel × ℕ) → Option ℕ
number_among x names = lookup (λ (r : RdnModel). are_same_keys x r.keys) names

-- the step from a number down to the one that a relative name has right under it
abbrev pub step_at : List (ℕ × Below) → Steps
step_at bs a x = number_among x (below_at bs a).names

-- Each way up ends within i numbers, over entries; one entry is the root's, and it has the suffix's name; and the steps
-- down are those up.
pub record IsHung (suffix : NameKey) (root : Option ℕ) (i : ℕ) (p : Places) (n : Steps) : Type 0 where
  pub ends : (k : ℕ) → ends i p k ≡ true
  pub over : (k a : ℕ) → above_in (p k) ≡ Some a → is_some (p a) ≡ true
  pub topped : (k : ℕ) (name : List RdnModel) → p k ≡ Some (Root name) → (root ≡ Some k) × (rdns name ≡ suffix)
  pub rooted : (k : ℕ) → root ≡ Some k → is_root (p k) ≡ true
  pub named : (k a : ℕ) (x : List TypeAndKey) → stands_at a x (p k) ≡ true → n a x ≡ Some k
  pub led : (k a : ℕ) (x : List TypeAndKey) → n a x ≡ Some k → stands_at a x (p k) ≡ true

-- The sets of each number: what stands right under it, and what stands at or below it.
pub record IsListed (i : ℕ) (p : Places) (b : ℕ → Below) : Type 0 where
  pub children : (a k : ℕ) → has_number k (b a).children ≡ stands_under a (p k)
  pub within : (a k : ℕ) → has_number k (b a).within ≡ is_over i p a k

-- the set of an entry alone is its number
abbrev pub AreOwn : List (ℕ × Standing) → Type 0
AreOwn es = (k : ℕ) (s : Standing) → lookup (is_at (nat_cmp k)) es ≡ Some s → s.own ≡ k ∷ []
