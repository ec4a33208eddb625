-- What is kept of the entries once one of them has come, gone, or gone to another place with all that stands below it.
-- What a directory is then is in `Directory`.
use Rattle.std.specs.Prelude.{◌≡◌, ℕ, ◌-◌, Bool, false, cond, ◌&&◌, ◌||◌, not, List, [], ◌∷◌, length, drop, Option, None, Some, nat_eq}
use Rattle.std.specs.Option.{option_map_or}
use Rattle.std.specs.Ordering.{nat_cmp}
use Rattle.std.specs.BTreeMap.{insert_entry}
use Rattle.std.specs.BTreeSet.{insert_key}
use Rattle.dir_entry.specs.ldap_dn.Names.{TypeAndKey, RdnModel}
use Rattle.dir_tree.specs.declared.place.Place.{Place}
use Rattle.dir_tree.specs.declared.place.Place.TheVariants.{Root, Under}
use Rattle.dir_tree.specs.declared.place.Below.{Below}
use Rattle.dir_tree.specs.Superiors.{Places, has_number}
use Rattle.dir_tree.specs.Digests.{digested_order}
use Rattle.dir_tree.specs.private.Superiors.{Steps, above_in, stands_under, stands_at, is_over, alone}

-- places, with another one for a number
abbrev pub put : Places → ℕ → Option Place → Places
put p k o j = cond (nat_eq j k) o (p j)

-- whether number x is over another one, if there is one
abbrev pub over_any : ℕ → Places → ℕ → Option ℕ → Bool
over_any i p x o = option_map_or (is_over i p x) o false

-- whether a number is over a place, the place's own number left out
abbrev pub is_above : ℕ → Places → ℕ → Option Place → Bool
is_above i p x o = over_any i p x (above_in o)

-- whether number x has another one, if there is one, at or below it
abbrev pub holds : (ℕ → Below) → ℕ → Option ℕ → Bool
holds b x o = option_map_or (λ k. has_number k (b x).within) o false

-- the steps down, once number k has gone from one place to another
abbrev pub steps_after : ℕ → Option Place → Option Place → Steps → Steps
steps_after k old new n b x = cond (stands_at b x new) (Some k) (cond (stands_at b x old) None (n b x))

-- whether number x has j right under it, once k has gone
abbrev pub child_after : ℕ → Option Place → Option Place → ℕ → ℕ → Bool → Bool
child_after k old new x j was = (stands_under x new && nat_eq j k) || (not (stands_under x old && nat_eq j k) && was)

-- whether x has j at or below it, once k has gone with what is below it: from under the ones over its old place to
-- those over its new one
abbrev pub over_after : Bool → Bool → Bool → Bool → Bool
over_after up up' moves was = (up' && not up && moves) || (not (up && not up' && moves) && was)

-- what is kept below number a, as it is where nothing was kept
abbrev pub kept_or : Option Below → ℕ → Below
kept_or o a = option_map_or (λ (b : Below). b) o (alone a)

-- the same with number k right under it by a relative name
abbrev pub child_put : Below → RdnModel → ℕ → Below
child_put b r k = record {
  names = insert_entry digested_order b.names r k;
  children = insert_key nat_cmp b.children k;
  within = b.within;
}

-- the same with number k at or below it
abbrev pub within_put : Below → ℕ → Below
within_put b k = record { names = b.names; children = b.children; within = insert_key nat_cmp b.within k }

-- what is kept below numbers, once k has gone from one place to another
pub record IsAfter (k : ℕ) (old new : Option Place) (i : ℕ) (p : Places) (n n' : Steps) (b b' : ℕ → Below) :
    Type 0 where
  pub steps : (a : ℕ) (x : List TypeAndKey) → n' a x ≡ steps_after k old new n a x
  pub children : (x j : ℕ) → has_number j (b' x).children ≡ child_after k old new x j (has_number j (b x).children)
  pub within : (x j : ℕ) → has_number j (b' x).within ≡ over_after (is_above i p x old) (is_above i p x new)
      (is_over i p k j) (has_number j (b x).within)

-- The sets of some numbers, where they didn't hold a certain number before, have some numbers more.
pub record IsJoined (up : ℕ → Bool) (before : ℕ → Below) (except : Option ℕ) (ks : List ℕ) (b b' : ℕ → Below) :
    Type 0 where
  pub names : (x : ℕ) → (b' x).names ≡ (b x).names
  pub children : (x : ℕ) → (b' x).children ≡ (b x).children
  pub within : (x j : ℕ) → has_number j (b' x).within ≡ ((up x && not (holds before x except) && has_number j ks) ||
      has_number j (b x).within)

-- The same with some numbers fewer.
pub record IsParted (up : ℕ → Bool) (before : ℕ → Below) (except : Option ℕ) (ks : List ℕ) (b b' : ℕ → Below) :
    Type 0 where
  pub names : (x : ℕ) → (b' x).names ≡ (b x).names
  pub children : (x : ℕ) → (b' x).children ≡ (b x).children
  pub within : (x j : ℕ) → has_number j (b' x).within ≡ (not (up x && not (holds before x except) && has_number j ks)
      && has_number j (b x).within)

-- what is kept below numbers with the steps to number k by its place, or without them
pub record IsLinked (k : ℕ) (place : Option Place) (n n' : Steps) (b b' : ℕ → Below) : Type 0 where
  pub steps : (a : ℕ) (x : List TypeAndKey) → n' a x ≡ cond (stands_at a x place) (Some k) (n a x)
  pub children : (a j : ℕ) → has_number j (b' a).children ≡ ((stands_under a place && nat_eq j k) || has_number j
      (b a).children)
  pub within : (a : ℕ) → (b' a).within ≡ (b a).within

-- what is kept below numbers without the steps to number k from its place
pub record IsUnlinked (k : ℕ) (place : Option Place) (n n' : Steps) (b b' : ℕ → Below) : Type 0 where
  pub steps : (a : ℕ) (x : List TypeAndKey) → n' a x ≡ cond (stands_at a x place) None (n a x)
  pub children : (a j : ℕ) → has_number j (b' a).children ≡ (not (stands_under a place && nat_eq j k)
      && has_number j (b a).children)
  pub within : (a : ℕ) → (b' a).within ≡ (b a).within

-- the last of a name, under a number
abbrev pub under_last : ℕ → List RdnModel → Place
under_last a [] = Root []
under_last a (r ∷ rs) = Under a r

-- the place of a name: the root's, or right under a number by its last relative name
abbrev pub place_of : Option ℕ → List RdnModel → Place
place_of None name = Root name
place_of (Some a) name = under_last a (drop (length name - 1) name)
