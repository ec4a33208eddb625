-- What a tree keeps: what contracts that aren't public say of it.
-- What public contracts say is in specs/Kept.
use Rattle.std.specs.Prelude.{◌≡◌, ℕ, cond, [], Option, Some, None, nat_eq}
use Rattle.std.specs.Map.{remove_entry}
use Rattle.std.specs.BTreeMap.{insert_entry, is_at}
use Rattle.std.specs.Ordering.{nat_cmp}
use Rattle.dir_entry.specs.shared_map.Entries.{Rises}
use Rattle.dir_entry.specs.ldap_dn.Names.{rdns}
use Rattle.dir_tree.specs.Superiors.{place_at}
use Rattle.dir_tree.specs.private.Superiors.{step_at, below_at, IsHung, IsListed, AreOwn}
use Rattle.dir_tree.specs.private.Changes.{IsAfter}
use Rattle.dir_tree.specs.declared.place.Standing.{Standing}
use Rattle.dir_tree.specs.declared.roots.Roots.{Roots}

-- what a tree keeps: numbers rise; names and numbers lead to one another; and sets are those of what stands below
pub record IsTree (r : Roots) : Type 0 where
  pub rises : Rises nat_cmp r.entries
  pub hung : IsHung (rdns r.suffix) r.root r.reach (place_at r.entries) (step_at r.levels)
  pub listed : IsListed r.reach (place_at r.entries) (below_at r.levels)
  pub own : AreOwn r.entries
  pub none : r.none ≡ []

-- the maps with an entry put at a place
pub record IsPlaced (old : Roots) (k : ℕ) (v : Standing) (root : Option ℕ) (reach : ℕ) (r : Roots) : Type 0 where
  pub suffix : r.suffix ≡ old.suffix
  pub top : r.root ≡ root
  pub bound : r.reach ≡ reach
  pub entries : r.entries ≡ insert_entry nat_cmp old.entries k v
  pub rises : Rises nat_cmp r.entries
  pub after : IsAfter k (place_at old.entries k) (Some v.place) old.reach (place_at old.entries) (step_at old.levels)
      (step_at r.levels) (below_at old.levels) (below_at r.levels)
  pub none : r.none ≡ []

-- the number of the root's entry, unless it is this one
abbrev pub root_but : ℕ → Option ℕ → Option ℕ
root_but k None = None
root_but k (Some r) = cond (nat_eq r k) None (Some r)

-- the maps without an entry that nothing stands below
pub record IsRemoved (old : Roots) (k : ℕ) (r : Roots) : Type 0 where
  pub suffix : r.suffix ≡ old.suffix
  pub top : r.root ≡ root_but k old.root
  pub bound : r.reach ≡ old.reach
  pub entries : r.entries ≡ remove_entry (is_at (nat_cmp k)) old.entries
  pub rises : Rises nat_cmp r.entries
  pub after : IsAfter k (place_at old.entries k) None old.reach (place_at old.entries) (step_at old.levels)
      (step_at r.levels) (below_at old.levels) (below_at r.levels)
  pub none : r.none ≡ []
