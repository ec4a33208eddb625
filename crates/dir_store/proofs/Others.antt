-- Whether another entry has a name.
use Rattle.std.proofs.Common.{◌≡◌, ℕ, List, map, refl, ap, ◌∙◌, false, not, Option, None, Some, nat_eq}
use Rattle.std.specs.Option.{option_map}
use Rattle.indexed_tree.specs.dir_tree.Directory.{NameKey, Entered, find}
use Rattle.indexed_tree.proofs.Shown.{entry_shown}
use Rattle.indexed_tree.specs.Places.{entry_named}
use Rattle.indexed_tree.specs.Stored.{named}
use Rattle.dir_store.specs.Updates.{is_other_than}

-- whether another entry has a name, by the number that is found
pub other_none : (k : ℕ) (q : NameKey) (d : List Entered) → option_map (λ (e : Entered). e.number) (find q d) ≡ None →
    is_other_than k (entry_named q (map named d)) ≡ false
other_none k q d h = ap (is_other_than k) (entry_shown q d) ∙ by (find q d) h
  where
    by : (o : Option Entered) → option_map (λ (e : Entered). e.number) o ≡ None →
        is_other_than k (option_map named o) ≡ false
    by None h = refl
    by (Some e) h = absurd (cc h)

pub other_some : (k n : ℕ) (q : NameKey) (d : List Entered) → option_map (λ (e : Entered). e.number) (find q d) ≡
    Some n → is_other_than k (entry_named q (map named d)) ≡ not (nat_eq k n)
other_some k n q d h = ap (is_other_than k) (entry_shown q d) ∙ by (find q d) h
  where
    by : (o : Option Entered) → option_map (λ (e : Entered). e.number) o ≡ Some n →
        is_other_than k (option_map named o) ≡ not (nat_eq k n)
    by None h = absurd (cc h)
    by (Some e) h = let same : e.number ≡ n = cc h in ap (λ (m : ℕ). not (nat_eq k m)) same
