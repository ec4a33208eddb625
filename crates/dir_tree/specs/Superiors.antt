-- Entries that know their superior: where each stands, and what is read off by going up. RFC 4512 2.1, 2.3.2.
use Rattle.std.specs.Prelude.{ℕ, zero, suc, List, [], ◌∷◌, ◌++◌, map, Option, None, Some}
use Rattle.std.specs.Option.{option_map}
use Rattle.std.specs.Ordering.{nat_cmp}
use Rattle.std.specs.Map.{lookup}
use Rattle.std.specs.BTreeMap.{is_at}
pub use Rattle.dir_entry.specs.shared_map.Sets.{has_number}
use Rattle.dir_entry.specs.ldap_dn.Names.{RdnModel}
use Rattle.dir_tree.specs.Directory.{Entered}
use Rattle.dir_tree.specs.declared.place.Place.{Place}
use Rattle.dir_tree.specs.declared.place.Place.TheVariants.{Root, Under}
use Rattle.dir_tree.specs.declared.place.Standing.{Standing}

-- where the entry of each number stands, if there is one
abbrev pub Places : Type 0
Places = ℕ → Option Place

-- ---- going up, over at most i numbers

-- the name of a place: the root's own, or its relative name behind the name above
abbrev pub name_in : (ℕ → List RdnModel) → Option Place → List RdnModel
name_in up None = []
name_in up (Some (Root name)) = name
name_in up (Some (Under above rdn)) = up above ++ rdn ∷ []

-- the name of a number's entry
abbrev pub name_up : ℕ → Places → ℕ → List RdnModel
name_up zero p k = []
name_up (suc i) p k = name_in (name_up i p) (p k)

-- ---- what is kept

-- the place of a number
abbrev pub place_at : List (ℕ × Standing) → Places
place_at es k = option_map (λ (s : Standing). s.place) (lookup (is_at (nat_cmp k)) es)

-- the entry of a number, with its name
abbrev pub entered : ℕ → Places → ℕ × Standing → Entered
entered i p e = record { number = e.0; name = name_up i p e.0; entry = e.1.entry }

-- the directory of the entries
abbrev pub directory_of : ℕ → List (ℕ × Standing) → List Entered
directory_of i es = map (entered i (place_at es)) es
