-- New names are placed as they are spelled.
use Rattle.std.proofs.Common.{◌≡◌, ◌-◌, ℕ, suc, List, [], ◌∷◌, ◌++◌, length, drop, map, refl, sym, ap, ◌∙◌, subst, arith, Bool, true, false, cond, Option, None, Some}
use Rattle.std.specs.Option.{option_map}
use Rattle.indexed_tree.specs.ldap_dn.Names.{RdnModel, rdns}
use Rattle.indexed_tree.specs.dir_entry.Entry.{KeyedAttribute, attributes_of}
use Rattle.indexed_tree.specs.dir_tree.Directory as tree
use Rattle.indexed_tree.specs.dir_tree.Directory.{NameKey, Entered, name_eq, find, above}
use Rattle.indexed_tree.specs.dir_tree.Placed.{name_placed, name_under, IsSpelled, IsPlacedAsSpelled}
use Rattle.indexed_tree.proofs.Lookups.{found_same}
use Rattle.indexed_tree.proofs.Shown.{moved_shown}
use Rattle.indexed_tree.specs.Places.{parent_of, last_of, moved}
use Rattle.indexed_tree.specs.Stored.{named}
use Rattle.dir_store.proofs.Moves.{above_of, without_last}

-- the root's name is placed as it stands
pub placed_root : (suffix : NameKey) (name : List RdnModel) (d : List Entered) → name_eq (rdns name) suffix ≡ true →
    name_placed suffix name d ≡ name
placed_root suffix name d h = ap (λ (b : Bool). cond b name (name_under (find (above (rdns name)) d) name)) h

one_less : (n : ℕ) → suc n - 1 ≡ n
one_less n = omega arith

last_one : (r : RdnModel) (rs : List RdnModel) → (y : RdnModel) × (last_of (r ∷ rs) ≡ y ∷ [])
last_one r [] = (r, ap (λ (k : ℕ). drop k (r ∷ [])) (one_less 0))
last_one r (s ∷ rs) =
    let p = last_one s rs in (
      p.0,
      ap (λ (k : ℕ). drop k (r ∷ s ∷ rs)) (one_less (suc (length rs))) ∙ ap (λ (k : ℕ). drop k (s ∷ rs)) (sym
          (one_less (length rs))) ∙ p.1,
    )

no_rdns : (name : List RdnModel) → rdns name ≡ [] → name ≡ []
no_rdns [] h = refl
no_rdns (r ∷ rs) h = absurd (cc h)

-- the empty name is placed as it stands
placed_none : (suffix : NameKey) (d : List Entered) → name_placed suffix [] d ≡ []
placed_none suffix d = by (name_eq [] suffix) (find [] d) refl
  where
    by : (b : Bool) (o : Option Entered) → find [] d ≡ o → cond b [] (name_under o []) ≡ []
    by true o f = refl
    by false None f = refl
    by false (Some e) f = ap (λ (n : List RdnModel). n ++ []) (no_rdns e.name (found_same [] d e f))

-- so is a name's own relative name behind its superior's name
pub placed_behind : (suffix : NameKey) (d : List Entered) (name : List RdnModel) (x : Entered)
    (whole : List RdnModel) → IsPlacedAsSpelled suffix d → find (rdns (parent_of name)) d ≡ Some x →
    whole ≡ x.name ++ last_of name → name_placed suffix whole d ≡ whole
placed_behind suffix d [] x whole law h w =
    let none : whole ≡ [] = w ∙ ap (λ (n : List RdnModel). n ++ []) (no_rdns x.name (found_same [] d x h)) in
    ap (λ (n : List RdnModel). name_placed suffix n d) none ∙ placed_none suffix d ∙ sym none
placed_behind suffix d (r ∷ rs) x whole law h w =
    let l = last_one r rs in
    let is : whole ≡ x.name ++ l.0 ∷ [] = w ∙ ap (λ (n : List RdnModel). x.name ++ n) l.1 in
    ap (λ (n : List RdnModel). name_placed suffix n d) is ∙ law (rdns (parent_of (r ∷ rs))) x l.0 h ∙ sym is

-- above an entry's name stands its superior's as that is spelled
pub parent_spelled : (suffix : NameKey) (d : List Entered) (e : Entered) → IsSpelled suffix d → find (rdns e.name) d ≡
    Some e → name_eq (rdns e.name) suffix ≡ false
    → option_map (λ (x : Entered). x.name) (find (rdns (parent_of e.name)) d) ≡ Some (parent_of e.name)
parent_spelled suffix d e law h r =
    let s = law (rdns e.name) e h r in
    let own : parent_of e.name ≡ s.0.name = ap parent_of s.3 ∙ without_last s.0.name s.1 in
    ap (λ (q : NameKey). option_map (λ (x : Entered). x.name) (find q d)) (above_of e.name)
    ∙ ap (λ (o : Option Entered). option_map (λ (x : Entered). x.name) o) s.2 ∙ ap (λ (n : List RdnModel). Some n)
    (sym own)

-- one relative name behind an entry's name is placed as it stands
pub spelled_placed : (suffix : NameKey) (d : List Entered) (n : List RdnModel) (r : RdnModel) →
    IsPlacedAsSpelled suffix d → option_map (λ (e : Entered). e.name) (find (rdns n) d) ≡ Some n →
    name_placed suffix (n ++ r ∷ []) d ≡ n ++ r ∷ []
spelled_placed suffix d n r law h = by (find (rdns n) d) refl h
  where
    by : (o : Option Entered) → find (rdns n) d ≡ o → option_map (λ (e : Entered). e.name) o ≡ Some n →
        name_placed suffix (n ++ r ∷ []) d ≡ n ++ r ∷ []
    by None f g = absurd (cc g)
    by (Some e) f g = let same : e.name ≡ n = cc g in subst (λ (m : List RdnModel). name_placed suffix (m ++ r ∷ [])
        d ≡ m ++ r ∷ []) same (law (rdns n) e r f)

-- entries that moved below a name that is placed as it stands
pub moved_placed : (old : NameKey) (new at : List RdnModel) (a : List KeyedAttribute) (d es : List Entered) →
    es ≡ tree.moved old at a d → at ≡ new → map named es ≡ moved old new (attributes_of a) (map named d)
moved_placed old new at a d es h w = ap (λ (l : List Entered). map named l) h ∙ moved_shown old at a d
    ∙ ap (λ (n : List RdnModel). moved old n (attributes_of a) (map named d)) w
