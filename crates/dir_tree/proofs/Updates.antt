-- Adds, deletes and renames: the tree that is made has the directory that the change is to make.
use Rattle.std.proofs.Common.{◌≡◌, ℕ, suc, ◌+◌, ◌-◌, ◌≤◌, Bool, true, false, cond, List, [], ◌∷◌, ◌++◌, ◌||◌, length, drop, append-nil, length-append, refl, sym, ap, ◌∙◌, subst, arith, nat_eq, nat_lt, Option, Some, None}
use Rattle.std.specs.Prelude.{◌&&◌, is_some}
use Rattle.std.specs.Option.{option_map, option_map_or, option_and_then}
use Rattle.std.specs.List.{list_any}
use Rattle.std.specs.Map.{keys_of}
use Rattle.std.proofs.lemmas.List.{length-map}
use Rattle.dir_entry.specs.shared_map.Sets.{has_number}
use Rattle.dir_entry.specs.ldap_dn.Names.{RdnModel, rdns, TypeAndKey, are_same_keys}
use Rattle.dir_entry.specs.Entry.{KeyedAttribute}
use Rattle.dir_tree.specs.Directory.{NameKey, Entered, AllBelow, name_eq, begins, above, find, has_below, has_footing, unnumbered, moved, name_after}
use Rattle.dir_tree.specs.declared.place.Place.{Place}
use Rattle.dir_tree.specs.declared.place.Place.TheVariants.{Root, Under}
use Rattle.dir_tree.specs.declared.place.Standing.{Standing}
use Rattle.dir_tree.specs.declared.roots.Roots.{Roots}
use Rattle.dir_tree.specs.Superiors.{Places, name_up, place_at, entered}
use Rattle.dir_tree.specs.private.Superiors.{Steps, above_in, is_root, stands_at, ends, is_over, down, number_at, step_at, below_at, IsHung, IsListed, AreOwn}
use Rattle.dir_tree.specs.private.Changes.{put, place_of, under_last}
use Rattle.dir_tree.specs.Kept.{shown}
use Rattle.dir_tree.specs.private.Kept.{IsTree, IsPlaced, IsRemoved, root_but}
use Rattle.dir_tree.specs.Placed.{name_placed, name_under}
use Rattle.dir_tree.proofs.Kept.{own_eq, same_number, apart_eq, under, under-out}
use Rattle.dir_tree.proofs.NameFacts.{IsLast, last-split, last-key, last-above, begins-own, begins-joined, begins-long, name_decides, name_eq-refl, part_decides, both, and_true}
use Rattle.dir_tree.proofs.Ways.{ends-more, name-root, name-under, under-above, climb}
use Rattle.dir_tree.proofs.Hung.{key, key-under, key-top, over-is, key-one, number-key, number-push, long-under, suffix-in, top-root}
use Rattle.dir_tree.proofs.Found.{listed, find-is, some-is, place-some}
use Rattle.dir_tree.proofs.Changing.{IsChange, hung-after, listed-after, name-stays, name-moved, ends-stays, ends-topped, ends-moved, ends-onto, over-leaf, put-own}
use Rattle.dir_tree.proofs.Shown.{places-out, below-none, shown-put, shown-out, shown-set}
use Rattle.dir_tree.proofs.TreeSteps.{placed_tree, placed-shown}

-- ---- what is found

some-none : {A : Type 0} (o : Option A) → is_some o ≡ false → o ≡ None
some-none None h = refl
some-none (Some x) h = absurd (cc h)

none-place : (es : List (ℕ × Standing)) (k : ℕ) → under k es ≡ None → place_at es k ≡ None
none-place es k h = ap (λ (o : Option Standing). option_map (λ (s : Standing). s.place) o) h

-- an entry that is found has its number's name
found-name : (i : ℕ) (p : Places) (q : NameKey) (es : List (ℕ × Standing)) (e : Entered) → find q (listed i p es) ≡
    Some e → e.name ≡ name_up i p e.number
found-name i p q [] e h = absurd (cc h)
found-name i p q (x ∷ es) e h = by (name_eq q (rdns (name_up i p x.0))) h (found-name i p q es e)
  where
    by : (b : Bool) → cond b (Some (entered i p x)) (find q (listed i p es)) ≡ Some e →
        (find q (listed i p es) ≡ Some e → e.name ≡ name_up i p e.number) → e.name ≡ name_up i p e.number
    by true g rest = let same : entered i p x ≡ e = cc g in subst (λ (y : Entered). y.name ≡ name_up i p y.number)
        same refl
    by false g rest = rest g

-- the entry of a name
pub record IsFound (i : ℕ) (p : Places) (q : NameKey) (a : ℕ) (d : List Entered) : Type 0 where
  pub entry : Entered
  pub is : find q d ≡ Some entry
  pub name : entry.name ≡ name_up i p a

module _ (r : Roots) (t : IsTree r) where
  s : NameKey
  s = rdns r.suffix

  p : Places
  p = place_at r.entries

  n : Steps
  n = step_at r.levels

  pub found : (q : NameKey) (a : ℕ) → number_at (step_at r.levels) (rdns r.suffix) r.root q ≡ Some a →
      IsFound r.reach (place_at r.entries) q a (shown r)
  found q a h = by (find q (shown r)) refl (find-is (rdns r.suffix) r.root r.reach r.entries (step_at r.levels) t.hung
      q ∙ h)
    where
      by : (o : Option Entered) → find q (shown r) ≡ o → option_map (λ (e : Entered). e.number) o ≡ Some a →
          IsFound r.reach (place_at r.entries) q a (shown r)
      by None f g = absurd (cc g)
      by (Some e) f g =
          let same : e.number ≡ a = cc g in
          record {
            entry = e;
            is = f;
            name = found-name r.reach (place_at r.entries) q r.entries e f
                ∙ ap (name_up r.reach (place_at r.entries)) same;
          }

  some-number : (q : NameKey) → is_some (find q (shown r)) ≡ is_some (number_at (step_at r.levels) (rdns r.suffix)
      r.root q)
  some-number q = some-is (rdns r.suffix) r.root r.reach r.entries (step_at r.levels) t.hung q

  fresh : (k : ℕ) → AllBelow k (shown r) → place_at r.entries k ≡ None
  fresh k b = none-place r.entries k (below-none r.reach (place_at r.entries) k r.entries b)

  fresh-leaf : (k : ℕ) → place_at r.entries k ≡ None → (j : ℕ) → above_in (place_at r.entries j) ≡ Some k → ⊥
  fresh-leaf k h j e = let on : is_some (place_at r.entries k) ≡ true = t.hung.over j k e in let off :
      is_some (place_at r.entries k) ≡ false = ap (λ (o : Option Place). is_some o) h in cc (on, off)

  -- a name behind its superior's
  placed-under : (name : List RdnModel) (a : ℕ) (e : IsLast name) → name_eq (rdns name) (rdns r.suffix) ≡ false →
      number_at (step_at r.levels) (rdns r.suffix) r.root (above (rdns name)) ≡ Some a
      → name_placed (rdns r.suffix) name (shown r) ≡ name_up r.reach (place_at r.entries) a ++ e.rdn ∷ []
  placed-under name a e off up =
      let f = found (above (rdns name)) a up in
      ap (λ (b : Bool). cond b name (name_under (find (above (rdns name)) (shown r)) name)) off
      ∙ ap (λ (o : Option Entered). name_under o name) f.is
      ∙ ap (λ (m : List RdnModel). m ++ drop (length name - 1) name) f.name
      ∙ ap (λ (l : List RdnModel). name_up r.reach (place_at r.entries) a ++ l) e.last

  -- ---- adds

  -- the place of a new entry with a superior
  under-change : (k : ℕ) (name : List RdnModel) (a : ℕ) (e : IsLast name) → place_at r.entries k ≡ None →
      is_some (find (rdns name) (shown r)) ≡ false
      → number_at (step_at r.levels) (rdns r.suffix) r.root (above (rdns name)) ≡ Some a
      → IsChange (rdns r.suffix) r.root r.root r.reach (r.reach + 1) (place_at r.entries) k (Some (Under a e.rdn))
      (step_at r.levels)
  under-change k name a e none gone up = record {
    hung = t.hung;
    bound = omega arith;
    ends' = ends';
    over = over;
    leaf = λ h. absurd (cc h);
    free = free;
    topped = λ m h. absurd (cc h);
    rooted = λ h. let top = t.hung.rooted k h in absurd (cc (top, ap is_root none));
    others = λ j h. ((λ g. g), (λ g. g));
  }
    where
      there : (key (rdns r.suffix) r.root r.reach (place_at r.entries) (step_at r.levels) t.hung a ≡
          above (rdns name)) × (is_some (place_at r.entries a) ≡ true)
      there = number-key (rdns r.suffix) r.root r.reach (place_at r.entries) (step_at r.levels) t.hung
          (above (rdns name)) a up

      leaf : (j : ℕ) → is_over r.reach (place_at r.entries) k j ≡ nat_eq k j
      leaf = over-leaf (rdns r.suffix) r.root r.reach (place_at r.entries) k None (step_at r.levels) t.hung
          (fresh-leaf k none)

      other : nat_eq k a ≡ false
      other = apart_eq k a (λ same. let on : is_some (place_at r.entries k) ≡ true =
          ap (λ (m : ℕ). is_some (place_at r.entries m)) same ∙ there.1 in let off : is_some (place_at r.entries k) ≡
          false = ap (λ (o : Option Place). is_some o) none in cc (on, off))

      over : (b : ℕ) → above_in (Some (Under a e.rdn)) ≡ Some b → (is_some (place_at r.entries b) ≡ true)
          × (is_over r.reach (place_at r.entries) k b ≡ false)
      over b h = let same : a ≡ b = cc h in subst (λ (m : ℕ). (is_some (place_at r.entries m) ≡ true)
          × (is_over r.reach (place_at r.entries) k m ≡ false)) same (there.1, leaf a ∙ other)

      free : (b : ℕ) (x : List TypeAndKey) (j : ℕ) → stands_at b x (Some (Under a e.rdn)) ≡ true →
          step_at r.levels b x ≡ Some j → j ≡ k
      free b x j h g =
          let at = both (nat_eq b a) (are_same_keys x e.rdn.keys) h in
          let ba : b ≡ a = same_number b a at.0 in
          let xr : x ≡ e.rdn.keys = (part_decides x e.rdn.keys).0 at.1 in
          let step : step_at r.levels a e.rdn.keys ≡ Some j = ap (λ (m : ℕ). step_at r.levels m e.rdn.keys) (sym ba)
          ∙ ap (step_at r.levels b) (sym xr) ∙ g in
          let front : number_at (step_at r.levels) (rdns r.suffix) r.root (rdns e.front) ≡ Some a =
          ap (number_at (step_at r.levels) (rdns r.suffix) r.root) (sym (last-above name e)) ∙ up in
          let whole : number_at (step_at r.levels) (rdns r.suffix) r.root (rdns name) ≡ Some j =
          ap (number_at (step_at r.levels) (rdns r.suffix) r.root) (last-key name e) ∙ number-push (step_at r.levels)
          (rdns r.suffix) r.root (rdns e.front) e.rdn.keys a front ∙ step
          in
          let on : is_some (find (rdns name) (shown r)) ≡ true = some-number (rdns name)
          ∙ ap (λ (o : Option ℕ). is_some o) whole in
          absurd (cc (on, gone))

      ends' : (j : ℕ) → ends (r.reach + 1) (put (place_at r.entries) k (Some (Under a e.rdn))) j ≡ true
      ends' j = by (is_over r.reach (place_at r.entries) k j) refl
        where
          own : ends (r.reach + 1) (put (place_at r.entries) k (Some (Under a e.rdn))) k ≡ true
          own =
              subst (λ (m : ℕ). ends m (put (place_at r.entries) k (Some (Under a e.rdn))) k ≡ true)
              (let one : suc r.reach ≡ r.reach + 1 = omega arith in one)
              (ends-onto (rdns r.suffix) r.root r.reach (place_at r.entries) k (Some (Under a e.rdn))
              (step_at r.levels) t.hung r.reach a refl (leaf a ∙ other) (t.hung.ends a))

          by : (b : Bool) → is_over r.reach (place_at r.entries) k j ≡ b →
              ends (r.reach + 1) (put (place_at r.entries) k (Some (Under a e.rdn))) j ≡ true
          by false g = ends-stays (rdns r.suffix) r.root r.reach (place_at r.entries) k (Some (Under a e.rdn))
              (step_at r.levels) t.hung (r.reach + 1) j (omega arith) g
          by true g = subst (λ (m : ℕ). ends (r.reach + 1) (put (place_at r.entries) k (Some (Under a e.rdn))) m ≡
              true) (same_number k j (sym (leaf j) ∙ g)) own

  no-root : (k : ℕ) → is_some (find (rdns r.suffix) (shown r)) ≡ false → (j : ℕ) → r.root ≡ Some j → ⊥
  no-root k h j e = cc (on, h)
    where
      rest : (q : NameKey) → drop (length q) q ≡ []
      rest [] = refl
      rest (x ∷ q) = rest q

      whole : number_at (step_at r.levels) (rdns r.suffix) r.root (rdns r.suffix) ≡ Some j
      whole =
          ap (λ (b : Bool). cond b (option_and_then
          (down (step_at r.levels) (drop (length (rdns r.suffix)) (rdns r.suffix))) r.root) None)
          (begins-own (rdns r.suffix))
          ∙ ap (λ (l : NameKey). option_and_then (down (step_at r.levels) l) r.root) (rest (rdns r.suffix))
          ∙ ap (λ (o : Option ℕ). option_and_then (down (step_at r.levels) []) o) e

      on : is_some (find (rdns r.suffix) (shown r)) ≡ true
      on = some-number (rdns r.suffix) ∙ ap (λ (o : Option ℕ). is_some o) whole

  -- the place of the root
  root-change : (k : ℕ) (name : List RdnModel) → place_at r.entries k ≡ None → is_some (find (rdns name) (shown r)) ≡
      false → rdns name ≡ rdns r.suffix
      → IsChange (rdns r.suffix) r.root (Some k) r.reach (r.reach + 1) (place_at r.entries) k (Some (Root name))
      (step_at r.levels)
  root-change k name none gone same = record {
    hung = t.hung;
    bound = omega arith;
    ends' = λ j. ends-more (put (place_at r.entries) k (Some (Root name))) r.reach (r.reach + 1) j (omega arith)
        (ends-topped (rdns r.suffix) r.root r.reach (place_at r.entries) k (Some (Root name)) (step_at r.levels)
        t.hung refl r.reach j (t.hung.ends j));
    over = λ a h. absurd (cc h);
    leaf = λ h. absurd (cc h);
    free = λ b x j h g. absurd (cc h);
    topped = λ m h. (refl, let e : name ≡ m = cc h in ap rdns (sym e) ∙ same);
    rooted = λ h. refl;
    others = λ j h. (
      (λ g. absurd (no-root k (ap (λ (q : NameKey). is_some (find q (shown r))) (sym same) ∙ gone) j
          g)),
      (λ g. absurd (other j h g)),
    );
  }
    where
      other : (j : ℕ) → nat_eq j k ≡ false → Some k ≡ Some j → ⊥
      other j h g = let e : k ≡ j = cc g in let on : nat_eq j k ≡ true = ap (λ (m : ℕ). nat_eq m k) (sym e)
          ∙ own_eq k in cc (on, h)

  -- names of other entries after an add
  others-stay : (k : ℕ) (new : Option Place) (root : Option ℕ) (i : ℕ) → ((j : ℕ) → above_in (place_at r.entries j) ≡
      Some k → ⊥) → IsChange (rdns r.suffix) r.root root r.reach i (place_at r.entries) k new (step_at r.levels)
      → (j : ℕ) → nat_eq k j ≡ false → name_up i (put (place_at r.entries) k new) j ≡ name_up r.reach
      (place_at r.entries) j
  others-stay k new root i leaf c j h =
      name-stays (rdns r.suffix) r.root root r.reach i (place_at r.entries) k new (step_at r.levels) c j
      (over-leaf (rdns r.suffix) r.root r.reach (place_at r.entries) k None (step_at r.levels) t.hung leaf j ∙ h)

  add-shown : (r' : Roots) (k : ℕ) (v : Standing) (root : Option ℕ) (name : List RdnModel) → AllBelow k (shown r) →
      IsPlaced r k v root (r.reach + 1) r'
      → IsChange (rdns r.suffix) r.root root r.reach (r.reach + 1) (place_at r.entries) k (Some v.place)
      (step_at r.levels) → name_up (r.reach + 1) (put (place_at r.entries) k (Some v.place)) k ≡ name
      → shown r' ≡ shown r ++ record { number = k; name = name; entry = v.entry } ∷ []
  add-shown r' k v root name b d c e =
      placed-shown r r' k v root (r.reach + 1) d
      ∙ shown-put r.reach (r.reach + 1) (place_at r.entries) (put (place_at r.entries) k (Some v.place)) k
      (others-stay k (Some v.place) root (r.reach + 1) (fresh-leaf k (fresh k b)) c) v r.entries b
      ∙ ap (λ (m : List RdnModel). let x : Entered = record { number = k; name = m; entry = v.entry } in shown
      r ++ x ∷ []) e

  -- the number right above a new name
  abbrev pub superior : List RdnModel → Option ℕ
  superior name = cond (name_eq (rdns name) (rdns r.suffix)) None (number_at (step_at r.levels) (rdns r.suffix) r.root
      (above (rdns name)))

  abbrev pub root_after : ℕ → Option ℕ → Option ℕ
  root_after k up = option_map_or (λ a. r.root) up (Some k)

  pub added : (r' : Roots) (k : ℕ) (name : List RdnModel) (entry : List KeyedAttribute) (up root : Option ℕ) →
      AllBelow k (shown r) → is_some (find (rdns name) (shown r)) ≡ false → has_footing (rdns r.suffix) (rdns name)
      (shown r) ≡ true
      → up ≡ superior name → root ≡ root_after k up →
      IsPlaced r k (record { place = place_of up name; own = k ∷ []; entry = entry }) root (r.reach + 1) r'
      → IsTree r' × (shown r' ≡ shown r ++ record {
        number = k;
        name = name_placed (rdns r.suffix) name (shown r);
        entry = entry;
      } ∷ [])
  added r' k name entry up root b gone foot e g d = by (name_eq (rdns name) (rdns r.suffix)) refl
      (number_at (step_at r.levels) (rdns r.suffix) r.root (above (rdns name))) refl e
    where
      none : place_at r.entries k ≡ None
      none = fresh k b

      top : name_eq (rdns name) (rdns r.suffix) ≡ true → up ≡ None → IsTree r'
          × (shown r' ≡ shown r ++ record {
            number = k;
            name = name_placed (rdns r.suffix) name (shown r);
            entry =
                entry;
          } ∷ [])
      top f u =
          let same : rdns name ≡ rdns r.suffix = (name_decides (rdns name) (rdns r.suffix)).0 f in
          let root' : root ≡ Some k = g ∙ ap (root_after k) u in
          let v : Standing = record { place = Root name; own = k ∷ []; entry = entry } in
          let d' : IsPlaced r k v (Some k) (r.reach + 1) r' =
          subst (λ (o : Option ℕ). IsPlaced r k v o (r.reach + 1) r') root'
          (subst (λ (o : Option ℕ). IsPlaced r k (record { place = place_of o name; own = k ∷ []; entry = entry })
          root (r.reach + 1) r') u d)
          in
          let c : IsChange (rdns r.suffix) r.root (Some k) r.reach (r.reach + 1) (place_at r.entries) k (Some v.place)
          (step_at r.levels) = root-change k name none gone same in
          let named : name_up (r.reach + 1) (put (place_at r.entries) k (Some v.place)) k ≡
          name_placed (rdns r.suffix) name (shown r) =
          name-root (r.reach + 1) (put (place_at r.entries) k (Some v.place)) c.ends' k name
          (put-own (place_at r.entries) k (Some v.place))
          ∙ sym (ap (λ (b : Bool). cond b name (name_under (find (above (rdns name)) (shown r)) name)) f)
          in (
            placed_tree r r' k v (Some k) (r.reach + 1) t d' refl c,
            add-shown r' k v (Some k) (name_placed
                (rdns r.suffix) name (shown r)) b d' c named,
          )

      not-empty : (a : ℕ) → number_at (step_at r.levels) (rdns r.suffix) r.root (above (rdns name)) ≡ Some a →
          name ≡ [] → ⊥
      not-empty a u z =
          let on : is_some (find (rdns name) (shown r)) ≡ true =
          some-number (rdns name) ∙ ap (λ (m : List RdnModel). is_some (number_at (step_at r.levels) (rdns r.suffix)
          r.root (rdns m))) z
          ∙ sym (ap (λ (m : List RdnModel). is_some (number_at (step_at r.levels) (rdns r.suffix) r.root
          (above (rdns m)))) z) ∙ ap (λ (o : Option ℕ). is_some o) u
          in cc (on, gone)

      below : (a : ℕ) → name_eq (rdns name) (rdns r.suffix) ≡ false → number_at (step_at r.levels) (rdns r.suffix)
          r.root (above (rdns name)) ≡ Some a → up ≡ Some a
          → IsTree r' × (shown r' ≡ shown r ++ record {
            number = k;
            name = name_placed (rdns r.suffix) name (shown r);
            entry = entry;
          } ∷ [])
      below a f w u =
          let l = last-split name (not-empty a w) in
          let v : Standing = record { place = Under a l.rdn; own = k ∷ []; entry = entry } in
          let root' : root ≡ r.root = g ∙ ap (root_after k) u in
          let at : place_of up name ≡ Under a l.rdn = ap (λ (o : Option ℕ). place_of o name) u
          ∙ ap (under_last a) l.last in
          let d' : IsPlaced r k v r.root (r.reach + 1) r' =
          subst (λ (o : Option ℕ). IsPlaced r k v o (r.reach + 1) r') root'
          (subst (λ (q : Place). IsPlaced r k (record { place = q; own = k ∷ []; entry = entry }) root (r.reach + 1)
          r') at d)
          in
          let c : IsChange (rdns r.suffix) r.root r.root r.reach (r.reach + 1) (place_at r.entries) k (Some v.place)
          (step_at r.levels) = under-change k name a l none gone w in
          let there = number-key (rdns r.suffix) r.root r.reach (place_at r.entries) (step_at r.levels) t.hung
          (above (rdns name)) a w in
          let other : nat_eq k a ≡ false = apart_eq k a (λ same.
          let on : is_some (place_at r.entries k) ≡ true = ap (λ (m : ℕ). is_some (place_at r.entries m)) same
          ∙ there.1 in
          let off : is_some (place_at r.entries k) ≡ false = ap (λ (o : Option Place). is_some o) none in
          cc (on, off))
          in
          let named : name_up (r.reach + 1) (put (place_at r.entries) k (Some v.place)) k ≡
          name_placed (rdns r.suffix) name (shown r) =
          name-under (r.reach + 1) (put (place_at r.entries) k (Some v.place)) c.ends' k a l.rdn
          (put-own (place_at r.entries) k (Some v.place))
          ∙ ap (λ (m : List RdnModel). m ++ l.rdn ∷ []) (others-stay k (Some v.place) r.root (r.reach + 1)
          (fresh-leaf k none) c a other)
          ∙ sym (placed-under name a l f w)
          in (
            placed_tree r r' k v r.root (r.reach + 1) t d' refl c,
            add-shown r' k v r.root (name_placed
                (rdns r.suffix) name (shown r)) b d' c named,
          )

      by : (c : Bool) → name_eq (rdns name) (rdns r.suffix) ≡ c → (o : Option ℕ) → number_at (step_at r.levels)
          (rdns r.suffix) r.root (above (rdns name)) ≡ o → up ≡ cond c None o
          → IsTree r' × (shown r' ≡ shown r ++ record {
            number = k;
            name = name_placed (rdns r.suffix) name (shown r);
            entry = entry;
          } ∷ [])
      by true f o w u = top f u
      by false f (Some a) w u = below a f w u
      by false f None w u =
          let on : is_some (find (above (rdns name)) (shown r)) ≡ true =
          sym (ap (λ (b : Bool). b || is_some (find (above (rdns name)) (shown r))) f) ∙ foot in
          let off : is_some (find (above (rdns name)) (shown r)) ≡ false = some-number (above (rdns name))
          ∙ ap (λ (o : Option ℕ). is_some o) w in
          absurd (cc (on, off))

  -- ---- deletes

  -- what has no entry below it is above none
  no-below : (u : NameKey → Bool) (j : ℕ) (es : List (ℕ × Standing)) → list_any (λ (e : Entered). u (rdns e.name))
      (listed r.reach (place_at r.entries) es) ≡ false → has_number j (keys_of es) ≡ true →
      u (rdns (name_up r.reach (place_at r.entries) j)) ≡ false
  no-below u j [] h g = absurd (cc g)
  no-below u j (e ∷ es) h g = by (u (rdns (name_up r.reach (place_at r.entries) e.0))) refl h (nat_eq j e.0) refl g
      (no-below u j es)
    where
      by : (a : Bool) → u (rdns (name_up r.reach (place_at r.entries) e.0)) ≡ a →
          (a || list_any (λ (e : Entered). u (rdns e.name)) (listed r.reach (place_at r.entries) es)) ≡ false →
          (b : Bool) → nat_eq j e.0 ≡ b → (b || has_number j (keys_of es)) ≡ true
          → (list_any (λ (e : Entered). u (rdns e.name)) (listed r.reach (place_at r.entries) es) ≡ false →
          has_number j (keys_of es) ≡ true → u (rdns (name_up r.reach (place_at r.entries) j)) ≡ false) →
          u (rdns (name_up r.reach (place_at r.entries) j)) ≡ false
      by true f x b k y rest = absurd (cc x)
      by false f x true k y rest = ap (λ (m : ℕ). u (rdns (name_up r.reach (place_at r.entries) m)))
          (same_number j e.0 k) ∙ f
      by false f x false k y rest = rest x y

  pub leaf-is : (q : NameKey) (k : ℕ) → number_at (step_at r.levels) (rdns r.suffix) r.root q ≡ Some k →
      has_below q (shown r) ≡ false → (j : ℕ) → above_in (place_at r.entries j) ≡ Some k → ⊥
  leaf-is q k here none j e =
      let there = number-key (rdns r.suffix) r.root r.reach (place_at r.entries) (step_at r.levels) t.hung q k here in
      let u = under-above (place_at r.entries j) k e in
      let some : is_some (place_at r.entries j) ≡ true = ap (λ (o : Option Place). is_some o) u.is in
      let off : (begins q (rdns (name_up r.reach (place_at r.entries) j))
      && nat_lt (length q) (length (rdns (name_up r.reach (place_at r.entries) j)))) ≡ false =
      no-below (λ m. begins q m && nat_lt (length q) (length m)) j r.entries none (sym (place-some r.entries j) ∙ some)
      in
      let is : rdns (name_up r.reach (place_at r.entries) j) ≡ q ++ u.rdn.keys ∷ [] =
      key-under (rdns r.suffix) r.root r.reach (place_at r.entries) (step_at r.levels) t.hung j k u.rdn u.is
      ∙ ap (λ (m : NameKey). m ++ u.rdn.keys ∷ []) there.0
      in
      let long : length (q ++ u.rdn.keys ∷ []) ≡ length q + 1 = length-append q (u.rdn.keys ∷ []) in
      let on : (begins q (q ++ u.rdn.keys ∷ []) && nat_lt (length q) (length (q ++ u.rdn.keys ∷ []))) ≡ true =
      and_true (begins q (q ++ u.rdn.keys ∷ [])) (nat_lt (length q) (length (q ++ u.rdn.keys ∷ [])))
      (begins-joined q (u.rdn.keys ∷ [])) (ap (nat_lt (length q)) long ∙ less (length q))
      in
      let both' : (begins q (rdns (name_up r.reach (place_at r.entries) j))
      && nat_lt (length q) (length (rdns (name_up r.reach (place_at r.entries) j)))) ≡ true =
      ap (λ (m : NameKey). begins q m && nat_lt (length q) (length m)) is ∙ on in
      cc (both', off)
    where
      less : (m : ℕ) → nat_lt m (m + 1) ≡ true
      less m = grind arith

  pub deleted : (r' : Roots) (q : NameKey) (k : ℕ) → number_at (step_at r.levels) (rdns r.suffix) r.root q ≡ Some k →
      has_below q (shown r) ≡ false → IsRemoved r k r' → IsTree r' × (shown r' ≡ unnumbered k (shown r))
  deleted r' q k here none d = (tree, directory)
    where
      leaf : (j : ℕ) → above_in (place_at r.entries j) ≡ Some k → ⊥
      leaf = leaf-is q k here none

      gone : root_but k r.root ≡ Some k → ⊥
      gone h = by r.root h
        where
          by : (o : Option ℕ) → root_but k o ≡ Some k → ⊥
          by None g = cc g
          by (Some m) g = either (nat_eq m k) refl g
            where
              either : (b : Bool) → nat_eq m k ≡ b → cond b None (Some m) ≡ Some k → ⊥
              either true f x = cc x
              either false f x = let e : m ≡ k = cc x in let on : nat_eq m k ≡ true = ap (λ (y : ℕ). nat_eq y k) e
                  ∙ own_eq k in cc (on, f)

      other : (j : ℕ) → nat_eq j k ≡ false → (o : Option ℕ) → (o ≡ Some j → root_but k o ≡ Some j)
          × (root_but k o ≡ Some j → o ≡ Some j)
      other j h None = ((λ g. g), (λ g. g))
      other j h (Some m) = (
        (λ g. let e : m ≡ j = cc g in ap (λ (b : Bool). cond b None (Some m))
            (ap (λ (y : ℕ). nat_eq y k) e ∙ h) ∙ g),
        by (nat_eq m k),
      )
        where
          by : (b : Bool) → cond b None (Some m) ≡ Some j → Some m ≡ Some j
          by true g = absurd (cc g)
          by false g = g

      c : IsChange (rdns r.suffix) r.root (root_but k r.root) r.reach r.reach (place_at r.entries) k None
          (step_at r.levels)
      c = record {
        hung = t.hung;
        bound = omega arith;
        ends' = λ j. ends-topped (rdns r.suffix) r.root r.reach (place_at r.entries) k None (step_at r.levels) t.hung
            refl r.reach j (t.hung.ends j);
        over = λ a h. absurd (cc h);
        leaf = λ h j e. leaf j e;
        free = λ b x j h g. absurd (cc h);
        topped = λ m h. absurd (cc h);
        rooted = λ h. absurd (gone h);
        others = λ j h. other j h r.root;
      }

      places : place_at r'.entries ≡ put (place_at r.entries) k None
      places = ap place_at d.entries ∙ places-out r.entries k t.rises

      hung' : IsHung (rdns r'.suffix) r'.root r'.reach (place_at r'.entries) (step_at r'.levels)
      hung' =
          subst (λ (q : Places). IsHung (rdns r'.suffix) r'.root r'.reach q (step_at r'.levels)) (sym places)
          (subst (λ (m : ℕ). IsHung (rdns r'.suffix) r'.root m (put (place_at r.entries) k None) (step_at r'.levels))
          (sym d.bound)
          (subst (λ (o : Option ℕ). IsHung (rdns r'.suffix) o r.reach (put (place_at r.entries) k None)
          (step_at r'.levels)) (sym d.top)
          (subst (λ (s : List RdnModel). IsHung (rdns s) (root_but k r.root) r.reach (put (place_at r.entries) k None)
          (step_at r'.levels)) (sym d.suffix)
          (hung-after (rdns r.suffix) r.root (root_but k r.root) r.reach r.reach (place_at r.entries) k None
          (step_at r.levels) c (step_at r'.levels) (below_at r.levels) (below_at r'.levels) t.listed d.after))))

      own : AreOwn r'.entries
      own j x g = by (nat_eq j k) (sym (under-out j k r.entries t.rises) ∙ ap (under j) (sym d.entries) ∙ g)
        where
          by : (b : Bool) → cond b None (under j r.entries) ≡ Some x → x.own ≡ j ∷ []
          by true e = absurd (cc e)
          by false e = t.own j x e

      tree : IsTree r'
      tree = record {
        rises = d.rises;
        hung = hung';
        listed =
            subst (λ (q : Places). IsListed r'.reach q (below_at r'.levels)) (sym places)
            (subst (λ (m : ℕ). IsListed m (put (place_at r.entries) k None) (below_at r'.levels)) (sym d.bound)
            (listed-after (rdns r.suffix) r.root (root_but k r.root) r.reach r.reach (place_at r.entries) k None
            (step_at r.levels) c (step_at r'.levels) (below_at r.levels) (below_at r'.levels) t.listed d.after));
        own = own;
        none = d.none;
      }

      directory : shown r' ≡ unnumbered k (shown r)
      directory =
          ap (λ (m : ℕ). listed m (place_at r'.entries) r'.entries) d.bound
          ∙ ap (λ (p : Places). listed r.reach p r'.entries) places
          ∙ ap (listed r.reach (put (place_at r.entries) k None)) d.entries
          ∙ shown-out r.reach r.reach (place_at r.entries) (put (place_at r.entries) k None) k
          (others-stay k None (root_but k r.root) r.reach leaf c) r.entries t.rises

  -- ---- renames

  -- a way up from an entry has no more numbers than its name has parts, and one
  ends-long : (k : ℕ) → is_some (place_at r.entries k) ≡ true →
      ends (length (rdns (name_up r.reach (place_at r.entries) k)) + 1) (place_at r.entries) k ≡ true
  ends-long = climb r.reach (place_at r.entries) t.hung.ends (λ k. is_some (place_at r.entries k) ≡ true →
      ends (length (rdns (name_up r.reach (place_at r.entries) k)) + 1) (place_at r.entries) k ≡ true) top step
    where
      from_suc : (m k : ℕ) → ends (suc m) (place_at r.entries) k ≡ true → ends (m + 1) (place_at r.entries) k ≡ true
      from_suc m k h = subst (λ (w : ℕ). ends w (place_at r.entries) k ≡ true) (let e : suc m ≡ m + 1 =
          omega arith in e) h

      top : (k : ℕ) → above_in (place_at r.entries k) ≡ None → is_some (place_at r.entries k) ≡ true →
          ends (length (rdns (name_up r.reach (place_at r.entries) k)) + 1) (place_at r.entries) k ≡ true
      top k e h =
          from_suc (length (rdns (name_up r.reach (place_at r.entries) k))) k
          (ap (λ (o : Option ℕ). option_map_or (ends (length (rdns (name_up r.reach (place_at r.entries) k)))
          (place_at r.entries)) o true) e)

      step : (k a : ℕ) → above_in (place_at r.entries k) ≡ Some a → (is_some (place_at r.entries a) ≡ true →
          ends (length (rdns (name_up r.reach (place_at r.entries) a)) + 1) (place_at r.entries) a ≡ true)
          → is_some (place_at r.entries k) ≡ true → ends (length (rdns (name_up r.reach (place_at r.entries) k)) + 1)
          (place_at r.entries) k ≡ true
      step k a e rest h =
          let m : length (rdns (name_up r.reach (place_at r.entries) k)) ≡
          length (rdns (name_up r.reach (place_at r.entries) a)) + 1 = long-under (rdns r.suffix) r.root
          r.reach (place_at r.entries) (step_at r.levels) t.hung k a e in
          from_suc (length (rdns (name_up r.reach (place_at r.entries) k))) k
          (ap (λ (o : Option ℕ). option_map_or (ends (length (rdns (name_up r.reach (place_at r.entries) k)))
          (place_at r.entries)) o true) e
          ∙ ap (λ (w : ℕ). ends w (place_at r.entries) a) m ∙ rest (t.hung.over k a e))

  -- what a rename asks
  pub record IsRename (k : ℕ) (q : NameKey) (name : List RdnModel) (a : ℕ) : Type 0 where
    pub here : number_at (step_at r.levels) (rdns r.suffix) r.root q ≡ Some k
    pub root : name_eq q (rdns r.suffix) ≡ false
    pub parent : number_at (step_at r.levels) (rdns r.suffix) r.root (above (rdns name)) ≡ Some a
    pub apart : begins q (above (rdns name)) ≡ false
    pub free : is_some (find (rdns name) (shown r)) ≡ true → name_eq q (rdns name) ≡ true

  module _ (k : ℕ) (q : NameKey) (name : List RdnModel) (a : ℕ) (m : IsRename k q name a) where
    at-k : (rdns (name_up r.reach (place_at r.entries) k) ≡ q) × (is_some (place_at r.entries k) ≡ true)
    at-k = number-key (rdns r.suffix) r.root r.reach (place_at r.entries) (step_at r.levels) t.hung q k m.here

    at-a : (rdns (name_up r.reach (place_at r.entries) a) ≡ above (rdns name)) × (is_some (place_at r.entries a) ≡ true)
    at-a = number-key (rdns r.suffix) r.root r.reach (place_at r.entries) (step_at r.levels) t.hung
        (above (rdns name)) a m.parent

    filled : name ≡ [] → ⊥
    filled z =
        let on : is_some (find (rdns name) (shown r)) ≡ true =
        some-number (rdns name) ∙ ap (λ (l : List RdnModel). is_some (number_at (step_at r.levels) (rdns r.suffix)
        r.root (rdns l))) z
        ∙ sym (ap (λ (l : List RdnModel). is_some (number_at (step_at r.levels) (rdns r.suffix) r.root
        (above (rdns l)))) z) ∙ ap (λ (o : Option ℕ). is_some o) m.parent
        in
        let same : q ≡ rdns name = (name_decides q (rdns name)).0 (m.free on) in
        let empty : q ≡ above (rdns name) = same ∙ ap rdns z ∙ sym (ap (λ (l : List RdnModel). above (rdns l)) z) in
        let begun : begins q (above (rdns name)) ≡ true = ap (begins q) (sym empty) ∙ begins-own q in
        cc (begun, m.apart)

    l : IsLast name
    l = last-split name filled

    off : is_over r.reach (place_at r.entries) k a ≡ false
    off =
        sym (over-is (rdns r.suffix) r.root r.reach (place_at r.entries) (step_at r.levels) t.hung k a at-k.1 at-a.1)
        ∙ ap (λ (x : NameKey). begins x (rdns (name_up r.reach (place_at r.entries) a))) at-k.0 ∙ ap (begins q) at-a.0
        ∙ m.apart

    not-root : is_root (place_at r.entries k) ≡ true → ⊥
    not-root h =
        let top = key-top (rdns r.suffix) r.root r.reach (place_at r.entries) (step_at r.levels) t.hung k
        (top-root (place_at r.entries k) h) in
        let on : name_eq q (rdns r.suffix) ≡ true = (name_decides q (rdns r.suffix)).1 (sym at-k.0 ∙ top.0) in
        cc (on, m.root)

    bound : ℕ
    bound = r.reach + 1 + length name

    long : length name ≡ length (rdns (name_up r.reach (place_at r.entries) a)) + 1
    long =
        sym (length-map name (λ (r : RdnModel). r.keys)) ∙ ap (λ (x : NameKey). length x) (last-key name l)
        ∙ length-append (rdns l.front) (l.rdn.keys ∷ [])
        ∙ ap (λ (x : NameKey). length x + 1) (sym (last-above name l) ∙ sym at-a.0)

    rename-change : IsChange (rdns r.suffix) r.root r.root r.reach (r.reach + 1 + length name) (place_at r.entries) k
        (Some (Under a l.rdn)) (step_at r.levels)
    rename-change = record {
      hung = t.hung;
      bound = omega arith;
      ends' = ends';
      over = over;
      leaf = λ h. absurd (cc h);
      free = free;
      topped = λ x h. absurd (cc h);
      rooted = λ h. absurd (not-root (t.hung.rooted k h));
      others = λ j h. ((λ g. g), (λ g. g));
    }
      where
        over : (b : ℕ) → above_in (Some (Under a l.rdn)) ≡ Some b → (is_some (place_at r.entries b) ≡ true)
            × (is_over r.reach (place_at r.entries) k b ≡ false)
        over b h = let same : a ≡ b = cc h in subst (λ (y : ℕ). (is_some (place_at r.entries y) ≡ true)
            × (is_over r.reach (place_at r.entries) k y ≡ false)) same (at-a.1, off)

        free : (b : ℕ) (x : List TypeAndKey) (j : ℕ) → stands_at b x (Some (Under a l.rdn)) ≡ true →
            step_at r.levels b x ≡ Some j → j ≡ k
        free b x j h g =
            let at = both (nat_eq b a) (are_same_keys x l.rdn.keys) h in
            let ba : b ≡ a = same_number b a at.0 in
            let xr : x ≡ l.rdn.keys = (part_decides x l.rdn.keys).0 at.1 in
            let step : step_at r.levels a l.rdn.keys ≡ Some j = ap (λ (y : ℕ). step_at r.levels y l.rdn.keys) (sym ba)
            ∙ ap (step_at r.levels b) (sym xr) ∙ g in
            let front : number_at (step_at r.levels) (rdns r.suffix) r.root (rdns l.front) ≡ Some a =
            ap (number_at (step_at r.levels) (rdns r.suffix) r.root) (sym (last-above name l)) ∙ m.parent in
            let whole : number_at (step_at r.levels) (rdns r.suffix) r.root (rdns name) ≡ Some j =
            ap (number_at (step_at r.levels) (rdns r.suffix) r.root) (last-key name l)
            ∙ number-push (step_at r.levels) (rdns r.suffix) r.root (rdns l.front) l.rdn.keys a front ∙ step
            in
            let on : is_some (find (rdns name) (shown r)) ≡ true = some-number (rdns name)
            ∙ ap (λ (o : Option ℕ). is_some o) whole in
            let same : q ≡ rdns name = (name_decides q (rdns name)).0 (m.free on) in
            let two : Some j ≡ Some k = sym whole ∙ ap (number_at (step_at r.levels) (rdns r.suffix) r.root)
            (sym same) ∙ m.here in
            cc two

        onto : ends (length name + 1) (put (place_at r.entries) k (Some (Under a l.rdn))) k ≡ true
        onto =
            subst (λ (w : ℕ). ends w (put (place_at r.entries) k (Some (Under a l.rdn))) k ≡ true)
            (let e : suc (length (rdns (name_up r.reach (place_at r.entries) a)) + 1) ≡ length name + 1 =
            omega (arith, long) in e)
            (ends-onto (rdns r.suffix) r.root r.reach (place_at r.entries) k (Some (Under a l.rdn)) (step_at r.levels)
            t.hung (length (rdns (name_up r.reach (place_at r.entries) a)) + 1) a refl off (ends-long a at-a.1))

        ends' : (j : ℕ) → ends (r.reach + 1 + length name) (put (place_at r.entries) k (Some (Under a l.rdn))) j ≡ true
        ends' j =
            subst (λ (w : ℕ). ends w (put (place_at r.entries) k (Some (Under a l.rdn))) j ≡ true)
            (let e : r.reach + (length name + 1) ≡ r.reach + 1 + length name = omega arith in e)
            (ends-moved (rdns r.suffix) r.root r.reach (place_at r.entries) k (Some (Under a l.rdn))
            (step_at r.levels) t.hung (length name + 1) r.reach j onto (t.hung.ends j))

    not-suffix : name_eq (rdns name) (rdns r.suffix) ≡ false
    not-suffix = by (name_eq (rdns name) (rdns r.suffix)) refl
      where
        by : (b : Bool) → name_eq (rdns name) (rdns r.suffix) ≡ b → b ≡ false
        by false z = refl
        by true z =
            let same : rdns name ≡ rdns r.suffix = (name_decides (rdns name) (rdns r.suffix)).0 z in
            let low : length (rdns r.suffix) ≤ length (rdns (name_up r.reach (place_at r.entries) a)) =
            begins-long (rdns r.suffix) (rdns (name_up r.reach (place_at r.entries) a))
            (suffix-in (rdns r.suffix) r.root r.reach (place_at r.entries) (step_at r.levels) t.hung a at-a.1)
            in
            let high : length (rdns r.suffix) ≡ length name = ap (λ (x : NameKey). length x) (sym same)
            ∙ length-map name (λ (r : RdnModel). r.keys) in
            let one : length name ≡ length (rdns (name_up r.reach (place_at r.entries) a)) + 1 = long in
            absurd (omega arith)

    pub renamed : (r' : Roots) (entry : List KeyedAttribute) (w : Standing) → under k r.entries ≡ Some w
        → IsPlaced r k (record { place = place_of (Some a) name; own = k ∷ []; entry = entry }) r.root
        (r.reach + 1 + length name) r'
        → IsTree r' × (shown r' ≡ moved q (name_placed (rdns r.suffix) name (shown r)) entry (shown r))
    renamed r' entry w h d =
        (placed_tree r r' k v r.root (r.reach + 1 + length name) t d' refl rename-change, directory)
      where
        v : Standing
        v = record { place = Under a l.rdn; own = k ∷ []; entry = entry }

        d' : IsPlaced r k v r.root (r.reach + 1 + length name) r'
        d' = subst (λ (y : Place). IsPlaced r k (record { place = y; own = k ∷ []; entry = entry }) r.root
            (r.reach + 1 + length name) r') (ap (under_last a) l.last) d

        i' : ℕ
        i' = r.reach + 1 + length name

        p' : Places
        p' = put (place_at r.entries) k (Some v.place)

        new : List RdnModel
        new = name_placed (rdns r.suffix) name (shown r)

        named : name_up (r.reach + 1 + length name) (put (place_at r.entries) k (Some (Under a l.rdn))) k ≡
            name_placed (rdns r.suffix) name (shown r)
        named =
            name-under (r.reach + 1 + length name) (put (place_at r.entries) k (Some (Under a l.rdn)))
            rename-change.ends' k a l.rdn (put-own (place_at r.entries) k (Some (Under a l.rdn)))
            ∙ ap (λ (y : List RdnModel). y ++ l.rdn ∷ []) (name-stays (rdns r.suffix) r.root r.root r.reach
            (r.reach + 1 + length name) (place_at r.entries) k (Some (Under a l.rdn)) (step_at r.levels)
            rename-change a off)
            ∙ sym (placed-under name a l not-suffix m.parent)

        g : Entered → Entered
        g e = record {
          number = e.number;
          name = name_after q (name_placed (rdns r.suffix) name (shown r)) e.name;
          entry = cond (name_eq q (rdns e.name)) entry e.entry;
        }

        all-gone : (x : List RdnModel) → drop (length x) x ≡ []
        all-gone [] = refl
        all-gone (x ∷ xs) = all-gone xs

        length-q : length q ≡ length (name_up r.reach (place_at r.entries) k)
        length-q = ap (λ (x : NameKey). length x) (sym at-k.0) ∙ length-map (name_up r.reach (place_at r.entries) k)
            (λ (r : RdnModel). r.keys)

        make : (j : ℕ) (x y : List RdnModel) (e f : List KeyedAttribute) → x ≡ y → e ≡ f →
            (let z : Entered = record { number = j; name = x; entry = e } in z) ≡
            record { number = j; name = y; entry = f }
        make j x y e f a b = ap (λ (n : List RdnModel). let z : Entered = record { number = j; name = n; entry = e }
            in z) a ∙ ap (λ (c : List KeyedAttribute). let z : Entered = record { number = j; name = y; entry = c }
            in z) b

        own : g (entered r.reach (place_at r.entries) (k, w)) ≡ entered (r.reach + 1 + length name)
            (put (place_at r.entries) k (Some v.place)) (k, v)
        own =
            make k (name_after q (name_placed (rdns r.suffix) name (shown r)) (name_up r.reach (place_at r.entries)
            k)) (name_up (r.reach + 1 + length name) (put (place_at r.entries) k (Some v.place)) k)
            (cond (name_eq q (rdns (name_up r.reach (place_at r.entries) k))) entry w.entry) entry
            (ap (λ (b : Bool). cond b (new ++ drop (length q) (name_up r.reach (place_at r.entries) k))
            (name_up r.reach (place_at r.entries) k)) (ap (begins q) at-k.0 ∙ begins-own q)
            ∙ ap (λ (x : List RdnModel). new ++ x) (ap (λ (x : ℕ). drop x (name_up r.reach (place_at r.entries) k))
            length-q ∙ all-gone (name_up r.reach (place_at r.entries) k)) ∙ append-nil new ∙ sym named)
            (ap (λ (b : Bool). cond b entry w.entry) (ap (name_eq q) at-k.0 ∙ name_eq-refl q))

        others : (j : ℕ) (x : Standing) → nat_eq k j ≡ false → under j r.entries ≡ Some x →
            g (entered r.reach (place_at r.entries) (j, x)) ≡ entered (r.reach + 1 + length name)
            (put (place_at r.entries) k (Some v.place)) (j, x)
        others j x f u =
            make j (name_after q (name_placed (rdns r.suffix) name (shown r)) (name_up r.reach (place_at r.entries)
            j)) (name_up (r.reach + 1 + length name) (put (place_at r.entries) k (Some v.place)) j)
            (cond (name_eq q (rdns (name_up r.reach (place_at r.entries) j))) entry x.entry) x.entry
            (ap (λ (b : Bool). cond b (new ++ drop (length q) (name_up r.reach (place_at r.entries) j))
            (name_up r.reach (place_at r.entries) j)) on ∙ by (is_over r.reach (place_at r.entries) k j) refl)
            (ap (λ (b : Bool). cond b entry x.entry)
            (differs (name_eq q (rdns (name_up r.reach (place_at r.entries) j))) refl))
          where
            some : is_some (place_at r.entries j) ≡ true
            some = ap (λ (o : Option Standing). is_some (option_map (λ (s : Standing). s.place) o)) u

            on : begins q (rdns (name_up r.reach (place_at r.entries) j)) ≡ is_over r.reach (place_at r.entries) k j
            on = ap (λ (y : NameKey). begins y (rdns (name_up r.reach (place_at r.entries) j))) (sym at-k.0)
                ∙ over-is (rdns r.suffix) r.root r.reach (place_at r.entries) (step_at r.levels) t.hung k j at-k.1 some

            differs : (b : Bool) → name_eq q (rdns (name_up r.reach (place_at r.entries) j)) ≡ b → b ≡ false
            differs false z = refl
            differs true z =
                let same : k ≡ j = key-one (rdns r.suffix) r.root r.reach (place_at r.entries) (step_at r.levels)
                t.hung k j at-k.1 some (at-k.0
                ∙ (name_decides q (rdns (name_up r.reach (place_at r.entries) j))).0 z) in
                let eq : nat_eq k j ≡ true = ap (λ (y : ℕ). nat_eq k y) (sym same) ∙ own_eq k in
                absurd (cc (eq, f))

            by : (b : Bool) → is_over r.reach (place_at r.entries) k j ≡ b →
                cond b (new ++ drop (length q) (name_up r.reach (place_at r.entries) j))
                (name_up r.reach (place_at r.entries) j) ≡ name_up (r.reach + 1 + length name)
                (put (place_at r.entries) k (Some v.place)) j
            by true z =
                ap (λ (y : ℕ). new ++ drop y (name_up r.reach (place_at r.entries) j)) length-q
                ∙ ap (λ (y : List RdnModel). y ++ drop (length (name_up r.reach (place_at r.entries) k))
                (name_up r.reach (place_at r.entries) j)) (sym named)
                ∙ sym (name-moved (rdns r.suffix) r.root r.root r.reach (r.reach + 1 + length name)
                (place_at r.entries) k (Some (Under a l.rdn)) (step_at r.levels) rename-change j z)
            by false z = sym (name-stays (rdns r.suffix) r.root r.root r.reach (r.reach + 1 + length name)
                (place_at r.entries) k (Some (Under a l.rdn)) (step_at r.levels) rename-change j z)

        directory : shown r' ≡ moved q (name_placed (rdns r.suffix) name (shown r)) entry (shown r)
        directory =
            placed-shown r r' k v r.root (r.reach + 1 + length name) d'
            ∙ shown-set r.reach (r.reach + 1 + length name) (place_at r.entries)
            (put (place_at r.entries) k (Some v.place)) k g w v r.entries t.rises h own others
