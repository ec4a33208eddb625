-- What a visit of a tree reads off the entries that it keeps.
use Rattle.std.specs.Prelude.{◌≡◌, ℕ, ◌+◌, ◌<◌, min, List, [], ◌∷◌, ◌++◌, Option, None, Some, is_some, option_copied, slice_get, true}
use Rattle.std.specs.Borrow.{Bor}
use Rattle.std.specs.Option.{option_map}
use Rattle.std.specs.Ordering.{nat_cmp}
use Rattle.std.specs.Map.{lookup}
use Rattle.std.specs.BTreeMap.{is_at}
use Rattle.dir_entry.specs.ldap_dn.Names.{RdnModel}
use Rattle.dir_tree.specs.Directory.{TreeModel, entry_at}
use Rattle.dir_tree.specs.Superiors.{place_at}
use Rattle.dir_tree.specs.declared.place.Place.TheVariants.{Under}
use Rattle.dir_tree.specs.declared.place.Standing.{Standing}
use Rattle.dir_tree.specs.declared.visit.Row.{Row}

-- the entries are those of the tree, and where one stands under another one, its name is the other's and its relative
-- name behind it
pub record IsVisit (d : TreeModel) (es : List (ℕ × Standing)) : Type 0 where
  pub entries : (k : ℕ) → option_map (λ (s : Standing). s.entry) (lookup (is_at (nat_cmp k)) es) ≡
      option_map (λ e. e.entry) (entry_at k d.entries)
  pub names : (k a : ℕ) (r : RdnModel) → place_at es k ≡ Some (Under a r)
      → (is_some (entry_at k d.entries) ≡ true) × (option_map (λ e. e.name) (entry_at k d.entries) ≡
      option_map (λ e. e.name ++ r ∷ []) (entry_at a d.entries))

-- a row has what stands at its numbers, of which none is above the greatest that there is
abbrev pub IsRow : Row → List (ℕ × Standing) → Type 0
IsRow row es =
    (i : ℕ) (o : Option (Bor Standing)) → slice_get row.found i ≡ Some o → i < 16
    → option_copied o ≡ lookup (is_at (nat_cmp (min (row.from + i) 18446744073709551615))) es

-- so has a row, where there is one
abbrev pub HasRow : Option Row → List (ℕ × Standing) → Type 0
HasRow None es = Unit {0}
HasRow (Some row) es = IsRow row es
