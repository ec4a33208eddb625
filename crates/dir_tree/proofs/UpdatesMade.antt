-- Adds, deletes and renames, said of what the code found and made in the place of what is computed from the tree.
use Rattle.std.proofs.Common.{◌≡◌, ℕ, ◌+◌, true, false, List, [], ◌∷◌, ◌++◌, length, refl, sym, ap, ◌∙◌, subst, Option, Some, None}
use Rattle.std.specs.Prelude.{is_some}
use Rattle.std.specs.Option.{option_map}
use Rattle.dir_entry.specs.ldap_dn.Names.{RdnModel, rdns}
use Rattle.dir_entry.specs.Entry.{KeyedAttribute}
use Rattle.dir_tree.specs.Directory.{NameKey, Entered, AllBelow, name_eq, begins, above, find, has_below, has_footing, unnumbered, moved}
use Rattle.dir_tree.specs.declared.place.Place.{Place}
use Rattle.dir_tree.specs.declared.place.Standing.{Standing}
use Rattle.dir_tree.specs.declared.roots.Roots.{Roots}
use Rattle.dir_tree.specs.Superiors.{place_at}
use Rattle.dir_tree.specs.private.Superiors.{above_in, number_at, step_at}
use Rattle.dir_tree.specs.private.Changes.{place_of}
use Rattle.dir_tree.specs.Kept.{shown}
use Rattle.dir_tree.specs.private.Kept.{IsTree, IsPlaced, IsRemoved}
use Rattle.dir_tree.specs.Placed.{name_placed}
use Rattle.dir_tree.proofs.Kept.{under}
use Rattle.dir_tree.proofs.Hung.{number-key}
use Rattle.dir_tree.proofs.Found.{find-is, some-is}
use Rattle.dir_tree.proofs.Updates.{superior, root_after, added, renamed, deleted, leaf-is}

pub added_as : (r r' : Roots) (t : IsTree r) (k : ℕ) (name : List RdnModel) (place : Place)
    (entry : List KeyedAttribute) (v : Standing) (up root : Option ℕ) (reach : ℕ) → AllBelow k (shown r) →
    is_some (find (rdns name) (shown r)) ≡ false
    → has_footing (rdns r.suffix) (rdns name) (shown r) ≡ true → up ≡ superior r t name → root ≡ root_after r t k up →
    reach ≡ r.reach + 1 → place ≡ place_of up name → v ≡ record { place = place; own = k ∷ []; entry = entry } →
    IsPlaced r k v root reach r'
    → IsTree r' × (shown r' ≡ shown r ++ record {
      number = k;
      name = name_placed (rdns r.suffix) name (shown r);
      entry = entry;
    } ∷ [])
added_as r r' t k name place entry v up root reach b gone foot e g h at is d =
    added r t r' k name entry up root b gone foot e g
    (subst (λ (x : Place). IsPlaced r k (record { place = x; own = k ∷ []; entry = entry }) root (r.reach + 1) r') at
    (subst (λ (m : ℕ). IsPlaced r k (record { place = place; own = k ∷ []; entry = entry }) root m r') h
    (subst (λ (y : Standing). IsPlaced r k y root reach r') is d)))

pub renamed_as : (r r' : Roots) (t : IsTree r) (k : ℕ) (q : NameKey) (name : List RdnModel) (place : Place)
    (entry : List KeyedAttribute) (v : Standing) (up : Option ℕ) (first reach : ℕ) →
    option_map (λ (e : Entered). e.number) (find q (shown r)) ≡ Some k
    → name_eq q (rdns r.suffix) ≡ false → is_some (find (above (rdns name)) (shown r)) ≡ true →
    begins q (above (rdns name)) ≡ false → (is_some (find (rdns name) (shown r)) ≡ true → name_eq q (rdns name) ≡
    true)
    → up ≡ number_at (step_at r.levels) (rdns r.suffix) r.root (above (rdns name)) → first ≡ r.reach + 1 →
    reach ≡ first + length name → place ≡ place_of up name → v ≡ record {
      place = place;
      own = k ∷ [];
      entry =
          entry;
    } → IsPlaced r k v r.root reach r'
    → IsTree r' × (shown r' ≡ moved q (name_placed (rdns r.suffix) name (shown r)) entry (shown r))
renamed_as r r' t k q name place entry v up first reach here root parent apart free e g h at is d =
    by up refl (under k r.entries) refl
  where
    number : number_at (step_at r.levels) (rdns r.suffix) r.root q ≡ Some k
    number = sym (find-is (rdns r.suffix) r.root r.reach r.entries (step_at r.levels) t.hung q) ∙ here

    stands : is_some (place_at r.entries k) ≡ true
    stands = (number-key (rdns r.suffix) r.root r.reach (place_at r.entries) (step_at r.levels) t.hung q k number).1

    found-above : is_some up ≡ true
    found-above = ap (λ (o : Option ℕ). is_some o) e ∙ sym (some-is (rdns r.suffix) r.root r.reach r.entries
        (step_at r.levels) t.hung (above (rdns name))) ∙ parent

    by : (o : Option ℕ) → up ≡ o → (w : Option Standing) → under k r.entries ≡ w → IsTree r'
        × (shown r' ≡ moved q (name_placed (rdns r.suffix) name (shown r)) entry (shown r))
    by None f w u = absurd (cc (found-above, ap (λ (o : Option ℕ). is_some o) f))
    by (Some a) f None u = absurd
        (cc (stands, ap (λ (o : Option Standing). is_some (option_map (λ (s : Standing). s.place) o)) u))
    by (Some a) f (Some w) u =
        renamed r t k q name a (record { here = number; root = root; parent = sym e ∙ f; apart = apart; free = free })
        r' entry w u
        (subst (λ (o : Option ℕ). IsPlaced r k (record { place = place_of o name; own = k ∷ []; entry = entry })
        r.root (r.reach + 1 + length name) r') f
        (subst (λ (x : Place). IsPlaced r k (record { place = x; own = k ∷ []; entry = entry }) r.root
        (r.reach + 1 + length name) r') at
        (subst (λ (m : ℕ). IsPlaced r k (record { place = place; own = k ∷ []; entry = entry }) r.root m r')
        (h ∙ ap (λ (m : ℕ). m + length name) g)
        (subst (λ (y : Standing). IsPlaced r k y r.root reach r') is d))))

pub deleted_as : (r r' : Roots) (t : IsTree r) (q : NameKey) (k : ℕ) → option_map (λ (e : Entered). e.number)
    (find q (shown r)) ≡ Some k → has_below q (shown r) ≡ false → IsRemoved r k r' → IsTree r'
    × (shown r' ≡ unnumbered k (shown r))
deleted_as r r' t q k here none d = deleted r t r' q k
    (sym (find-is (rdns r.suffix) r.root r.reach r.entries (step_at r.levels) t.hung q) ∙ here) none d

pub leaf_as : (r : Roots) (t : IsTree r) (q : NameKey) (k : ℕ) → option_map (λ (e : Entered). e.number)
    (find q (shown r)) ≡ Some k → has_below q (shown r) ≡ false → (j : ℕ) → above_in (place_at r.entries j) ≡ Some k → ⊥
leaf_as r t q k here none = leaf-is r t q k (sym (find-is (rdns r.suffix) r.root r.reach r.entries (step_at r.levels)
    t.hung q) ∙ here) none
