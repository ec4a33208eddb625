-- A tree after each of its changes is a tree, and its directory is the one that the change is to make.
use Rattle.std.proofs.Common.{◌≡◌, ℕ, Bool, true, false, cond, List, [], ◌∷◌, ◌||◌, refl, sym, ap, ◌∙◌, subst, nat_eq, Option, Some, None}
use Rattle.std.specs.Prelude.{◌&&◌, not}
use Rattle.std.specs.Option.{option_map, option_map_or}
use Rattle.std.specs.Ordering.{nat_cmp}
use Rattle.std.specs.BTreeMap.{insert_entry}
use Rattle.dir_entry.specs.shared_map.Entries.{Rises}
use Rattle.dir_entry.specs.shared_map.Sets.{has_number}
use Rattle.dir_entry.specs.ldap_dn.Names.{RdnModel, rdns, TypeAndKey}
use Rattle.dir_tree.specs.Directory.{NameKey, Entered, replaced}
use Rattle.dir_tree.specs.declared.place.Place.{Place}
use Rattle.dir_tree.specs.declared.place.Place.TheVariants.{Root, Under}
use Rattle.dir_tree.specs.declared.place.Standing.{Standing}
use Rattle.dir_tree.specs.declared.place.Below.{Below}
use Rattle.dir_tree.specs.declared.roots.Roots.{Roots}
use Rattle.dir_tree.specs.Superiors.{Places, name_up, place_at, entered, directory_of}
use Rattle.dir_tree.specs.private.Superiors.{Steps, above_in, stands_at, stands_under, is_over, step_at, below_at, number_among, alone, IsHung, IsListed, AreOwn}
use Rattle.dir_tree.specs.private.Changes.{put, is_above, over_after, child_after, steps_after, IsAfter}
use Rattle.dir_tree.specs.Kept.{shown}
use Rattle.dir_tree.specs.private.Kept.{IsTree, IsPlaced}
use Rattle.dir_tree.proofs.Kept.{own_eq, same_number, turned_eq, apart_eq, under, under-put}
use Rattle.dir_tree.proofs.Hung.{over-not, at-stands}
use Rattle.dir_tree.proofs.Found.{listed}
use Rattle.dir_tree.proofs.Changing.{IsChange, hung-after, listed-after, over-leaf}
use Rattle.dir_tree.proofs.Shown.{places-put, put-same, shown-set, replaced-map}

-- ---- what is kept of a number that is gone

pub gone_after : (s : NameKey) (root : Option ℕ) (k i : ℕ) (p : Places) (n n2 : Steps) (b b2 b' : ℕ → Below) →
    IsHung s root i p n → IsListed i p b → ((j : ℕ) → above_in (p j) ≡ Some k → ⊥)
    → IsAfter k (p k) None i p n n2 b b2 → ((a : ℕ) → b' a ≡ cond (nat_eq a k) (alone k) (b2 a)) →
    ((a : ℕ) (x : List TypeAndKey) → n2 a x ≡ number_among x (b2 a).names)
    → IsAfter k (p k) None i p n (λ a x. number_among x (b' a).names) b b'
gone_after s root k i p n n2 b b2 b' t l leaf d e f = record { steps = steps; children = children; within = within }
  where
    no-step : (x : List TypeAndKey) → n k x ≡ None
    no-step x = by (n k x) refl
      where
        by : (o : Option ℕ) → n k x ≡ o → o ≡ None
        by None g = refl
        by (Some j) g = let at = at-stands (p j) k x (t.led j k x g) in absurd
            (leaf j (ap (λ (o : Option Place). above_in o) at.is))

    none : Option ℕ
    none = None

    flat : (c : Bool) → none ≡ cond c none none
    flat true = refl
    flat false = refl

    steps : (a : ℕ) (x : List TypeAndKey) → number_among x (b' a).names ≡ steps_after k (p k) None n a x
    steps a x = ap (λ (v : Below). number_among x v.names) (e a) ∙ by (nat_eq a k) refl
      where
        by : (c : Bool) → nat_eq a k ≡ c → number_among x (cond c (alone k) (b2 a)).names ≡ steps_after k (p k) None n
            a x
        by true g = flat (stands_at a x (p k)) ∙ ap (λ (o : Option ℕ). cond (stands_at a x (p k)) None o)
            (sym (ap (λ (m : ℕ). n m x) (same_number a k g) ∙ no-step x))
        by false g = sym (f a x) ∙ d.steps a x

    and-false : (c : Bool) → (c && false) ≡ false
    and-false true = refl
    and-false false = refl

    no-child : (j : ℕ) → stands_under k (p j) ≡ false
    no-child j = by (p j) refl
      where
        by : (o : Option Place) → p j ≡ o → stands_under k o ≡ false
        by None g = refl
        by (Some (Root name)) g = refl
        by (Some (Under a r)) g = apart_eq k a (λ same. leaf j (ap (λ (o : Option Place). above_in o) g
            ∙ ap (λ (m : ℕ). Some m) (sym same)))

    children : (x j : ℕ) → has_number j (b' x).children ≡ child_after k (p k) None x j (has_number j (b x).children)
    children x j = ap (λ (v : Below). has_number j v.children) (e x) ∙ by (nat_eq x k) refl
      where
        by : (c : Bool) → nat_eq x k ≡ c → has_number j (cond c (alone k) (b2 x)).children ≡ child_after k (p k) None
            x j (has_number j (b x).children)
        by true g =
            let none : has_number j (b x).children ≡ false = l.children x j ∙ ap (λ (m : ℕ). stands_under m (p j))
            (same_number x k g) ∙ no-child j in
            sym (ap (λ (c : Bool). not (stands_under x (p k) && nat_eq j k) && c) none
            ∙ and-false (not (stands_under x (p k) && nat_eq j k)))
        by false g = d.children x j

    within : (x j : ℕ) → has_number j (b' x).within ≡ over_after (is_above i p x (p k)) false (is_over i p k j)
        (has_number j (b x).within)
    within x j = ap (λ (v : Below). has_number j v.within) (e x) ∙ by (nat_eq x k) refl
      where
        or-false : (c : Bool) → (c || false) ≡ c
        or-false true = refl
        or-false false = refl

        no-above : is_above i p k (p k) ≡ false
        no-above = up (above_in (p k)) refl
          where
            up : (o : Option ℕ) → above_in (p k) ≡ o → option_map_or (is_over i p k) o false ≡ false
            up None g = refl
            up (Some a) g = over-not s root i p n t k a g

        own : over_after (is_above i p k (p k)) false (is_over i p k j) (has_number j (b k).within) ≡
            (nat_eq j k || false)
        own =
            ap (λ (c : Bool). over_after c false (is_over i p k j) (has_number j (b k).within)) no-above
            ∙ l.within k j ∙ over-leaf s root i p k None n t leaf j ∙ turned_eq k j ∙ sym (or-false (nat_eq j k))

        by : (c : Bool) → nat_eq x k ≡ c → has_number j (cond c (alone k) (b2 x)).within ≡
            over_after (is_above i p x (p k)) false (is_over i p k j) (has_number j (b x).within)
        by true g = sym (ap (λ (m : ℕ). over_after (is_above i p m (p k)) false (is_over i p k j)
            (has_number j (b m).within)) (same_number x k g) ∙ own)
        by false g = d.within x j

-- ---- other attributes

at-place : (es : List (ℕ × Standing)) (k : ℕ) (w : Standing) → under k es ≡ Some w → place_at es k ≡ Some w.place
at-place es k w h = ap (λ (o : Option Standing). option_map (λ (s : Standing). s.place) o) h

own-put : (es : List (ℕ × Standing)) (k : ℕ) (v : Standing) → AreOwn es → v.own ≡ k ∷ [] →
    AreOwn (insert_entry nat_cmp es k v)
own-put es k v h e j x g = by (nat_eq j k) refl (sym (under-put j k v es) ∙ g)
  where
    by : (c : Bool) → nat_eq j k ≡ c → cond c (Some v) (under j es) ≡ Some x → x.own ≡ j ∷ []
    by true f u = let same : v ≡ x = cc u in ap (λ (y : Standing). y.own) (sym same) ∙ e
        ∙ ap (λ (m : ℕ). m ∷ []) (sym (same_number j k f))
    by false f u = h j x u

pub replaced_tree : (r : Roots) (k : ℕ) (w v : Standing) (es : List (ℕ × Standing)) → IsTree r → under k r.entries ≡
    Some w → v.place ≡ w.place → v.own ≡ w.own → es ≡ insert_entry nat_cmp r.entries k v → Rises nat_cmp es →
    IsTree (record r { entries = es })
replaced_tree r k w v es t h e o g rise = record {
  rises = rise;
  hung = subst (λ (p : Places). IsHung (rdns r.suffix) r.root r.reach p (step_at r.levels)) (sym places) t.hung;
  listed = subst (λ (p : Places). IsListed r.reach p (below_at r.levels)) (sym places) t.listed;
  own = subst AreOwn (sym g) (own-put r.entries k v t.own (o ∙ t.own k w h));
  none = t.none;
}
  where
    places : place_at es ≡ place_at r.entries
    places = ap place_at g ∙ places-put r.entries k v ∙ put-same (place_at r.entries) k (Some v.place)
        (at-place r.entries k w h ∙ ap (λ (p : Place). Some p) (sym e))

pub replaced_shown : (r : Roots) (k : ℕ) (w v : Standing) (es : List (ℕ × Standing)) → IsTree r → under k r.entries ≡
    Some w → v.place ≡ w.place → es ≡ insert_entry nat_cmp r.entries k v
    → shown (record r { entries = es }) ≡ replaced k v.entry (shown r)
replaced_shown r k w v es t h e g =
    ap (λ (p : Places). listed r.reach p es) places ∙ ap (listed r.reach p) g
    ∙ shown-set r.reach r.reach p p k other w v r.entries t.rises h own others ∙ replaced-map r.reach p k v.entry
    r.entries t.rises
  where
    p : Places
    p = place_at r.entries

    places : place_at es ≡ place_at r.entries
    places = ap place_at g ∙ places-put r.entries k v ∙ put-same (place_at r.entries) k (Some v.place)
        (at-place r.entries k w h ∙ ap (λ (p : Place). Some p) (sym e))

    other : Entered → Entered
    other x = cond (nat_eq k x.number) (record { number = x.number; name = x.name; entry = v.entry }) x

    own : other (entered r.reach p (k, w)) ≡ entered r.reach p (k, v)
    own = ap (λ (c : Bool). cond c (record { number = k; name = name_up r.reach p k; entry = v.entry })
        (entered r.reach p (k, w))) (own_eq k)

    others : (j : ℕ) (x : Standing) → nat_eq k j ≡ false → under j r.entries ≡ Some x →
        other (entered r.reach p (j, x)) ≡ entered r.reach p (j, x)
    others j x f u = ap (λ (c : Bool). cond c (record { number = j; name = name_up r.reach p j; entry = v.entry })
        (entered r.reach p (j, x))) f

-- ---- an entry at another place

pub placed_tree : (r r' : Roots) (k : ℕ) (v : Standing) (root : Option ℕ) (reach : ℕ) → IsTree r →
    IsPlaced r k v root reach r' → v.own ≡ k ∷ []
    → IsChange (rdns r.suffix) r.root root r.reach reach (place_at r.entries) k (Some v.place) (step_at r.levels) →
    IsTree r'
placed_tree r r' k v root reach t d o c = record {
  rises = d.rises;
  hung = hung';
  listed =
      subst (λ (q : Places). IsListed r'.reach q (below_at r'.levels)) (sym places)
      (subst (λ (m : ℕ). IsListed m (put (place_at r.entries) k (Some v.place)) (below_at r'.levels)) (sym d.bound)
      (listed-after (rdns r.suffix) r.root root r.reach reach (place_at r.entries) k (Some v.place) (step_at r.levels)
      c (step_at r'.levels) (below_at r.levels) (below_at r'.levels) t.listed d.after));
  own = subst AreOwn (sym d.entries) (own-put r.entries k v t.own o);
  none = d.none;
}
  where
    places : place_at r'.entries ≡ put (place_at r.entries) k (Some v.place)
    places = ap place_at d.entries ∙ places-put r.entries k v

    hung' : IsHung (rdns r'.suffix) r'.root r'.reach (place_at r'.entries) (step_at r'.levels)
    hung' =
        subst (λ (q : Places). IsHung (rdns r'.suffix) r'.root r'.reach q (step_at r'.levels)) (sym places)
        (subst (λ (m : ℕ). IsHung (rdns r'.suffix) r'.root m (put (place_at r.entries) k (Some v.place))
        (step_at r'.levels)) (sym d.bound)
        (subst (λ (o : Option ℕ). IsHung (rdns r'.suffix) o reach (put (place_at r.entries) k (Some v.place))
        (step_at r'.levels)) (sym d.top)
        (subst (λ (s : List RdnModel). IsHung (rdns s) root reach (put (place_at r.entries) k (Some v.place))
        (step_at r'.levels)) (sym d.suffix)
        (hung-after (rdns r.suffix) r.root root r.reach reach (place_at r.entries) k (Some v.place) (step_at r.levels)
        c (step_at r'.levels) (below_at r.levels) (below_at r'.levels) t.listed d.after))))

-- its directory, by the bound and the places that it has
pub placed-shown : (r r' : Roots) (k : ℕ) (v : Standing) (root : Option ℕ) (reach : ℕ) → IsPlaced r k v root reach r'
    → shown r' ≡ listed reach (put (place_at r.entries) k (Some v.place)) (insert_entry nat_cmp r.entries k v)
placed-shown r r' k v root reach d =
    ap (λ (m : ℕ). directory_of m r'.entries) d.bound ∙ ap (directory_of reach) d.entries
    ∙ ap (λ (p : Places). listed reach p (insert_entry nat_cmp r.entries k v)) (places-put r.entries k v)
