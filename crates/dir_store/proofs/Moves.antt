-- Where an entry may move to.
use Rattle.std.proofs.Common.{◌≡◌, ◌-◌, ℕ, suc, List, [], ◌∷◌, ◌++◌, map, length, take, refl, sym, ap, ◌∙◌, subst, arith, Bool, true, false, not, ◌&&◌, ◌||◌, Option, None, Some, nat_eq, is_some}
use Rattle.std.specs.Option.{option_map}
use Rattle.indexed_tree.specs.ldap_dn.Names.{TypeAndKey, RdnModel, rdns, are_same_keys}
use Rattle.indexed_tree.specs.dir_tree.Directory.{NameKey, Entered, name_eq, begins, find, above, has_footing, NumbersRise, IsDirectory}
use Rattle.indexed_tree.proofs.Lookups.{found_at, found_name, names_same, placed_same, rdns_take, length_rdns}
use Rattle.indexed_tree.proofs.Shown.{entry_shown}
use Rattle.indexed_tree.specs.Places.{entry_named, parent_of, last_of}
use Rattle.indexed_tree.specs.Stored.{named}
use Rattle.dir_store.specs.Updates.{is_other_than}

-- the name above a name is the name of what is above it
pub above_of : (a : List RdnModel) → rdns (parent_of a) ≡ above (rdns a)
above_of a = rdns_take (length a - 1) a ∙ ap (λ (k : ℕ). take (k - 1) (rdns a)) (sym (length_rdns a))

one_less : (n : ℕ) → suc n - 1 ≡ n
one_less n = omega arith

pub without_last : (a : List RdnModel) (x : RdnModel) → parent_of (a ++ x ∷ []) ≡ a
without_last a x = ap (λ (k : ℕ). take (k - 1) (a ++ x ∷ [])) (grows a) ∙ ap (λ (k : ℕ). take k (a ++ x ∷ []))
    (one_less (length a)) ∙ front a
  where
    grows : (b : List RdnModel) → length (b ++ x ∷ []) ≡ suc (length b)
    grows [] = refl
    grows (y ∷ b) = ap (λ (k : ℕ). suc k) (grows b)

    front : (b : List RdnModel) → take (length b) (b ++ x ∷ []) ≡ b
    front [] = refl
    front (y ∷ b) = ap (λ (l : List RdnModel). y ∷ l) (front b)

-- above a name with one relative name more stands that name
pub above_last : (a : List RdnModel) (x : RdnModel) → above (rdns (a ++ x ∷ [])) ≡ rdns a
above_last a x = sym (above_of (a ++ x ∷ [])) ∙ ap rdns (without_last a x)

-- a name is no front of what is above it
pub not_above : (x : List TypeAndKey) (q : NameKey) → begins (x ∷ q) (above (x ∷ q)) ≡ false
not_above x [] = refl
not_above x (y ∷ q) =
    ap (λ (k : ℕ). begins (x ∷ y ∷ q) (take k (x ∷ y ∷ q))) (one_less (suc (length q)))
    ∙ by (are_same_keys x x) (ap (λ (k : ℕ). begins (y ∷ q) (take k (y ∷ q))) (sym (one_less (length q)))
    ∙ not_above y q)
  where
    by : (b : Bool) → begins (y ∷ q) (take (length q) (y ∷ q)) ≡ false →
        (b && begins (y ∷ q) (take (length q) (y ∷ q))) ≡ false
    by true ih = ih
    by false ih = refl

-- an entry that is not the root's is no front of what is above it, and something stands there
pub stands_above : (suffix q : NameKey) (d : List Entered) → IsDirectory suffix d → is_some (find q d) ≡ true →
    name_eq q suffix ≡ false → (is_some (find (above q) d) ≡ true) × (begins q (above q) ≡ false)
stands_above suffix [] d w h r = (w.parents [] h r, absurd (by suffix (w.within [] h) r))
  where
    by : (s : NameKey) → begins s [] ≡ true → name_eq [] s ≡ false → ⊥
    by [] b f = cc f
    by (x ∷ s) b f = cc b
stands_above suffix (x ∷ q) d w h r = (w.parents (x ∷ q) h r, not_above x q)

-- a name that no other entry has is its own
pub free_of : (d : List Entered) (k : ℕ) (p q : NameKey) → NumbersRise d → option_map (λ (e : Entered). e.number)
    (find p d) ≡ Some k → is_other_than k (entry_named q (map named d)) ≡ false → is_some (find q d) ≡ true →
    name_eq p q ≡ true
free_of d k p q r h o there = by (find p d) (find q d) refl refl h (sym (ap (is_other_than k) (entry_shown q d)) ∙ o)
    there
  where
    by : (a b : Option Entered) → find p d ≡ a → find q d ≡ b → option_map (λ (e : Entered). e.number) a ≡ Some k →
        is_other_than k (option_map named b) ≡ false → is_some b ≡ true → name_eq p q ≡ true
    by None b f g h o t = absurd (cc h)
    by (Some x) None f g h o t = absurd (cc t)
    by (Some x) (Some y) f g h o t =
        let own : nat_eq k y.number ≡ true = turned (nat_eq k y.number) o in
        let number : y.number ≡ k = grind (arith, own) in
        let first = found_at p d k r (ap (λ (z : Option Entered). option_map (λ (e : Entered). e.number) z) f ∙ h) in
        let second = found_at q d k r (ap (λ (z : Option Entered). option_map (λ (e : Entered). e.number) z) g
        ∙ ap (λ (n : ℕ). Some n) number) in
        let one : x ≡ y = cc (sym f ∙ sym first ∙ second ∙ g) in
        let p_is = names_same p (rdns x.name) (found_name p d x f) in
        let q_is = names_same q (rdns y.name) (found_name q d y g) in
        same p q (p_is ∙ ap (λ (z : Entered). rdns z.name) one ∙ sym q_is) (found_name p d x f) p_is
      where
        turned : (b : Bool) → not b ≡ false → b ≡ true
        turned true h = refl
        turned false h = absurd (cc h)

        same : (a b : NameKey) → a ≡ b → {c : NameKey} → name_eq a c ≡ true → a ≡ c → name_eq a b ≡ true
        same a b e n m = subst (λ (z : NameKey). name_eq a z ≡ true) (sym m ∙ e) n

-- a name has a footing where it is the root's, or where an entry stands above it
pub footing_root : (suffix q : NameKey) (d : List Entered) → true ≡ name_eq q suffix → has_footing suffix q d ≡ true
footing_root suffix q d h = ap (λ (b : Bool). b || is_some (find (above q) d)) (sym h)

pub footing_above : (suffix : NameKey) (name : List RdnModel) (d : List Entered) (x : Entered) →
    find (rdns (parent_of name)) d ≡ Some x → has_footing suffix (rdns name) d ≡ true
footing_above suffix name d x h = ap (λ (o : Option Entered). name_eq (rdns name) suffix || is_some o)
    (ap (λ (q : NameKey). find q d) (sym (above_of name)) ∙ h) ∙ whole (name_eq (rdns name) suffix)
  where
    whole : (b : Bool) → (b || true) ≡ true
    whole true = refl
    whole false = refl

-- a name behind its superior's as that is spelled is the same name
pub place_whole : (name above whole : List RdnModel) → rdns above ≡ rdns (parent_of name) →
    whole ≡ above ++ last_of name → rdns whole ≡ rdns name
place_whole name above whole h w = ap rdns w ∙ placed_same (length name - 1) name above h
