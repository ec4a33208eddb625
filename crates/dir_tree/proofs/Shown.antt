-- The directory of a tree whose entries have changed.
use Rattle.std.proofs.Common.{◌≡◌, ℕ, ◌<◌, Bool, true, false, cond, List, [], ◌∷◌, ◌++◌, map, refl, sym, ap, ◌∙◌, subst, arith, nat_eq, nat_lt, Option, Some, None, Ordering}
use Rattle.std.specs.Option.{option_map}
use Rattle.std.specs.Ordering.{nat_cmp, match_ordering}
use Rattle.std.specs.Cmp.{nat_cmp_is}
use Rattle.std.specs.Map.{remove_entry}
use Rattle.std.specs.BTreeMap.{insert_entry, is_at}
use Rattle.std.proofs.lemmas.List.{map-append}
use Rattle.dir_entry.specs.shared_map.Entries.{Rises, IsAhead}
use Rattle.dir_entry.specs.ldap_dn.Names.{RdnModel}
use Rattle.dir_entry.specs.Entry.{KeyedAttribute}
use Rattle.dir_tree.specs.Directory.{Entered, AllBelow, replaced, unnumbered}
use Rattle.dir_tree.specs.declared.place.Place.{Place}
use Rattle.dir_tree.specs.declared.place.Standing.{Standing}
use Rattle.dir_tree.specs.Superiors.{Places, name_up, entered, place_at}
use Rattle.dir_tree.proofs.Kept.{extended, own_eq, same_number, is_eq-nat, under, under-cons, under-put, under-out, under-ahead, less_apart}
use Rattle.dir_tree.proofs.Found.{listed}
use Rattle.dir_tree.specs.private.Changes.{put}

-- ---- places

mapped-cond : {A B : Type 0} (f : A → B) (b : Bool) (x : A) (o : Option A) → option_map f (cond b (Some x) o) ≡
    cond b (Some (f x)) (option_map f o)
mapped-cond f true x o = refl
mapped-cond f false x o = refl

gone-cond : {A B : Type 0} (f : A → B) (b : Bool) (o : Option A) → option_map f (cond b None o) ≡
    cond b None (option_map f o)
gone-cond f true o = refl
gone-cond f false o = refl

pub places-put : (es : List (ℕ × Standing)) (k : ℕ) (v : Standing) → place_at (insert_entry nat_cmp es k v) ≡
    put (place_at es) k (Some v.place)
places-put es k v = extended (λ j. ap (λ (o : Option Standing). option_map (λ (s : Standing). s.place) o)
    (under-put j k v es) ∙ mapped-cond (λ (s : Standing). s.place) (nat_eq j k) v (under j es))

pub places-out : (es : List (ℕ × Standing)) (k : ℕ) → Rises nat_cmp es →
    place_at (remove_entry (is_at (nat_cmp k)) es) ≡ put (place_at es) k None
places-out es k h = extended (λ j. ap (λ (o : Option Standing). option_map (λ (s : Standing). s.place) o)
    (under-out j k es h) ∙ gone-cond (λ (s : Standing). s.place) (nat_eq j k) (under j es))

pub put-same : (p : Places) (k : ℕ) (o : Option Place) → p k ≡ o → put p k o ≡ p
put-same p k o h = extended by
  where
    by : (j : ℕ) → put p k o j ≡ p j
    by j = either (nat_eq j k) refl
      where
        either : (b : Bool) → nat_eq j k ≡ b → cond b o (p j) ≡ p j
        either true e = sym h ∙ ap p (sym (same_number j k e))
        either false e = refl

-- ---- the list of the entries

-- a number above all goes to the end
pub insert-last : (i : ℕ) (p : Places) (k : ℕ) (v : Standing) (es : List (ℕ × Standing)) →
    AllBelow k (listed i p es) → insert_entry nat_cmp es k v ≡ es ++ (k, v) ∷ []
insert-last i p k v [] h = refl
insert-last i p k v (e ∷ es) h =
    let above : Ordering.Greater ≡ nat_cmp k e.0 = nat_cmp_is k e.0 Ordering.Greater h.0 in
    ap (λ (o : Ordering). match_ordering o ((k, v) ∷ e ∷ es) ((e.0, v) ∷ es) (e ∷ insert_entry nat_cmp es k v))
    (sym above) ∙ ap (λ (d : List (ℕ × Standing)). e ∷ d) (insert-last i p k v es h.1)

-- no entry has a number that all are below
pub below-none : (i : ℕ) (p : Places) (k : ℕ) (es : List (ℕ × Standing)) → AllBelow k (listed i p es) →
    under k es ≡ None
below-none i p k [] h = refl
below-none i p k (e ∷ es) h = under-cons k e es ∙ ap (λ (b : Bool). cond b (Some e.1) (under k es))
    (let lt : e.0 < k = h.0 in let off : nat_eq k e.0 ≡ false = grind arith in off) ∙ below-none i p k es h.1

module _ (i i' : ℕ) (p p' : Places) (k : ℕ) where
  renamed : (j : ℕ) (v : Standing) → name_up i' p' j ≡ name_up i p j → entered i' p' (j, v) ≡ entered i p (j, v)
  renamed j v h = ap (λ (n : List RdnModel). let e : Entered = record { number = j; name = n; entry = v.entry } in e) h

  -- names that stay
  pub shown-below : ((j : ℕ) → nat_eq k j ≡ false → name_up i' p' j ≡ name_up i p j) → (es : List (ℕ × Standing)) →
      AllBelow k (listed i p es) → listed i' p' es ≡ listed i p es
  shown-below h [] b = refl
  shown-below h (e ∷ es) b =
      let lt : e.0 < k = b.0 in
      let off : nat_eq k e.0 ≡ false = grind arith in
      ap (λ (x : Entered). x ∷ listed i' p' es) (renamed e.0 e.1 (h e.0 off))
      ∙ ap (λ (d : List Entered). entered i p e ∷ d) (shown-below h es b.1)

  pub shown-put : ((j : ℕ) → nat_eq k j ≡ false → name_up i' p' j ≡ name_up i p j) →
      (v : Standing) (es : List (ℕ × Standing)) → AllBelow k (listed i p es)
      → listed i' p' (insert_entry nat_cmp es k v) ≡ listed i p es ++ record {
        number = k;
        name = name_up i' p' k;
        entry = v.entry;
      } ∷ []
  shown-put h v es b =
      ap (listed i' p') (insert-last i p k v es b) ∙ map-append (entered i' p') es ((k, v) ∷ [])
      ∙ ap (λ (d : List Entered). d ++ record { number = k; name = name_up i' p' k; entry = v.entry } ∷ [])
      (shown-below h es b)

  shown-ahead : ((j : ℕ) → nat_eq k j ≡ false → name_up i' p' j ≡ name_up i p j) → (es : List (ℕ × Standing)) →
      IsAhead nat_cmp k es → listed i' p' es ≡ listed i p es
  shown-ahead h [] a = refl
  shown-ahead h (e ∷ es) a =
      ap (λ (x : Entered). x ∷ listed i' p' es) (renamed e.0 e.1 (h e.0 (less_apart k e.0 a.0)))
      ∙ ap (λ (d : List Entered). entered i p e ∷ d) (shown-ahead h es a.1)

  -- without an entry
  pub shown-out : ((j : ℕ) → nat_eq k j ≡ false → name_up i' p' j ≡ name_up i p j) → (es : List (ℕ × Standing)) →
      Rises nat_cmp es → listed i' p' (remove_entry (is_at (nat_cmp k)) es) ≡ unnumbered k (listed i p es)
  shown-out h [] r = refl
  shown-out h (e ∷ es) r = ap (λ (b : Bool). listed i' p' (cond b es (e ∷ remove_entry (is_at (nat_cmp k)) es)))
      (is_eq-nat k e.0) ∙ by (nat_eq k e.0) refl (shown-out h es r.1)
    where
      by : (b : Bool) → nat_eq k e.0 ≡ b → listed i' p' (remove_entry (is_at (nat_cmp k)) es) ≡ unnumbered k
          (listed i p es)
          → listed i' p' (cond b es (e ∷ remove_entry (is_at (nat_cmp k)) es)) ≡ cond b (listed i p es)
          (entered i p e ∷ unnumbered k (listed i p es))
      by true f rest = shown-ahead h es (subst (λ (m : ℕ). IsAhead nat_cmp m es) (sym (same_number k e.0 f)) r.0)
      by false f rest = ap (λ (x : Entered). x ∷ listed i' p' (remove_entry (is_at (nat_cmp k)) es))
          (renamed e.0 e.1 (h e.0 f)) ∙ ap (λ (d : List Entered). entered i p e ∷ d) rest

  -- an entry in another's place: what is made of each entry
  pub shown-set : (g : Entered → Entered) (w v : Standing) (es : List (ℕ × Standing)) → Rises nat_cmp es →
      under k es ≡ Some w
      → g (entered i p (k, w)) ≡ entered i' p' (k, v)
      → ((j : ℕ) (x : Standing) → nat_eq k j ≡ false → under j es ≡ Some x → g (entered i p (j, x)) ≡ entered i' p'
      (j, x))
      → listed i' p' (insert_entry nat_cmp es k v) ≡ map g (listed i p es)
  shown-set g w v [] r h own other = absurd (cc h)
  shown-set g w v (e ∷ es) r h own other = by (nat_lt k e.0) (nat_eq k e.0) refl refl (sym (under-cons k e es) ∙ h)
      (shown-set g w v es r.1)
    where
      later : (j : ℕ) (x : Standing) → under j es ≡ Some x → under j (e ∷ es) ≡ Some x
      later j x f = under-cons j e es ∙ either (nat_eq j e.0) refl
        where
          either : (b : Bool) → nat_eq j e.0 ≡ b → cond b (Some e.1) (under j es) ≡ Some x
          either false a = f
          either true a = absurd (cc (f, ap (λ (m : ℕ). under m es) (same_number j e.0 a) ∙ under-ahead e.0 es r.0))

      tail : (ds : List (ℕ × Standing)) → IsAhead nat_cmp k ds → Rises nat_cmp ds →
          ((j : ℕ) (x : Standing) → nat_eq k j ≡ false → under j ds ≡ Some x → g (entered i p (j, x)) ≡ entered i' p'
          (j, x)) → listed i' p' ds ≡ map g (listed i p ds)
      tail [] a s o = refl
      tail (x ∷ ds) a s o =
          ap (λ (y : Entered). y ∷ listed i' p' ds)
          (sym (o x.0 x.1 (less_apart k x.0 a.0) (under-cons x.0 x ds
          ∙ ap (λ (b : Bool). cond b (Some x.1) (under x.0 ds)) (own_eq x.0))))
          ∙ ap (λ (l : List Entered). g (entered i p x) ∷ l) (tail ds a.1 s.1 (λ j y f u. o j y f (more j y u)))
        where
          more : (j : ℕ) (y : Standing) → under j ds ≡ Some y → under j (x ∷ ds) ≡ Some y
          more j y u = under-cons j x ds ∙ either (nat_eq j x.0) refl
            where
              either : (b : Bool) → nat_eq j x.0 ≡ b → cond b (Some x.1) (under j ds) ≡ Some y
              either false f = u
              either true f = absurd (cc (u, ap (λ (m : ℕ). under m ds) (same_number j x.0 f) ∙ under-ahead x.0 ds s.0))

      by : (a b : Bool) → nat_lt k e.0 ≡ a → nat_eq k e.0 ≡ b → cond b (Some e.1) (under k es) ≡ Some w
          → (under k es ≡ Some w → g (entered i p (k, w)) ≡ entered i' p' (k, v) →
          ((j : ℕ) (x : Standing) → nat_eq k j ≡ false → under j es ≡ Some x → g (entered i p (j, x)) ≡
          entered i' p' (j, x)) → listed i' p' (insert_entry nat_cmp es k v) ≡ map g (listed i p es))
          → listed i' p' (match_ordering (cond a Ordering.Less (cond b Ordering.Equal Ordering.Greater))
          ((k, v) ∷ e ∷ es) ((e.0, v) ∷ es) (e ∷ insert_entry nat_cmp es k v)) ≡ g (entered i p e) ∷ map g
          (listed i p es)
      by true true f u z rest = absurd (never f u)
        where
          never : nat_lt k e.0 ≡ true → nat_eq k e.0 ≡ true → ⊥
          never f u = grind arith
      by true false f u z rest = absurd (cc (z, under-ahead k es (before es r.0)))
        where
          less : (x : ℕ) → nat_cmp e.0 x ≡ Ordering.Less → nat_cmp k x ≡ Ordering.Less
          less x y = sym (nat_cmp_is k x Ordering.Less (let l : e.0 < x = lt e.0 x y in let m : k < e.0 =
              grind (arith, f) in omega arith))
            where
              lt : (a b : ℕ) → nat_cmp a b ≡ Ordering.Less → a < b
              lt a b q = two (nat_lt a b) refl q
                where
                  two : (c : Bool) → nat_lt a b ≡ c →
                      cond c Ordering.Less (cond (nat_eq a b) Ordering.Equal Ordering.Greater) ≡ Ordering.Less → a < b
                  two true m q = grind (arith, m)
                  two false m q = absurd (no (nat_eq a b) q)
                    where
                      no : (c : Bool) → cond c Ordering.Equal Ordering.Greater ≡ Ordering.Less → ⊥
                      no true q = cc q
                      no false q = cc q

          before : (ds : List (ℕ × Standing)) → IsAhead nat_cmp e.0 ds → IsAhead nat_cmp k ds
          before [] a = tt
          before (x ∷ ds) a = (less x.0 a.0, before ds a.1)
      by false true f u z rest =
          let s : k ≡ e.0 = same_number k e.0 u in
          let one : e.1 ≡ w = cc z in
          ap (λ (m : ℕ). entered i' p' (m, v) ∷ listed i' p' es) (sym s)
          ∙ ap (λ (y : Entered). y ∷ listed i' p' es) (sym own ∙ ap (λ (x : Standing). g (entered i p (k, x)))
          (sym one) ∙ ap (λ (m : ℕ). g (entered i p (m, e.1))) s)
          ∙ ap (λ (l : List Entered). g (entered i p e) ∷ l)
          (tail es (subst (λ (m : ℕ). IsAhead nat_cmp m es) (sym s) r.0) r.1 (λ j x o q. other j x o (later j x q)))
      by false false f u z rest =
          ap (λ (y : Entered). y ∷ listed i' p' (insert_entry nat_cmp es k v))
          (sym (other e.0 e.1 u (under-cons e.0 e es ∙ ap (λ (b : Bool). cond b (Some e.1) (under e.0 es))
          (own_eq e.0))))
          ∙ ap (λ (l : List Entered). g (entered i p e) ∷ l) (rest z own (λ j x o q. other j x o (later j x q)))

-- other attributes of the entry of a number, where numbers rise
pub replaced-map : (i : ℕ) (p : Places) (k : ℕ) (v : List KeyedAttribute) (es : List (ℕ × Standing)) → Rises nat_cmp es
    → map (λ (e : Entered). cond (nat_eq k e.number) (record { number = e.number; name = e.name; entry = v }) e)
    (listed i p es) ≡ replaced k v (listed i p es)
replaced-map i p k v [] r = refl
replaced-map i p k v (e ∷ es) r = by (nat_eq k e.0) refl (replaced-map i p k v es r.1)
  where
    f : Entered → Entered
    f x = cond (nat_eq k x.number) (record { number = x.number; name = x.name; entry = v }) x

    all : (ds : List (ℕ × Standing)) → IsAhead nat_cmp k ds → map f (listed i p ds) ≡ listed i p ds
    all [] a = refl
    all (x ∷ ds) a = ap (λ (b : Bool). cond b (record { number = x.0; name = name_up i p x.0; entry = v })
        (entered i p x) ∷ map f (listed i p ds)) (less_apart k x.0 a.0) ∙ ap (λ (d : List Entered). entered i p x ∷ d)
        (all ds a.1)

    by : (b : Bool) → nat_eq k e.0 ≡ b → map f (listed i p es) ≡ replaced k v (listed i p es)
        → cond b (record { number = e.0; name = name_up i p e.0; entry = v }) (entered i p e) ∷ map f
        (listed i p es) ≡ cond b (record { number = e.0; name = name_up i p e.0; entry = v } ∷ listed i p es)
        (entered i p e ∷ replaced k v (listed i p es))
    by true g rest = ap (λ (d : List Entered). let x : Entered = record {
      number = e.0;
      name = name_up i p e.0;
      entry = v;
    } in x ∷ d) (all es (subst (λ (m : ℕ). IsAhead nat_cmp m es) (sym (same_number k e.0 g)) r.0))
    by false g rest = ap (λ (d : List Entered). entered i p e ∷ d) rest

pub replaced-none : (i : ℕ) (p : Places) (k : ℕ) (v : List KeyedAttribute) (es : List (ℕ × Standing)) →
    under k es ≡ None → replaced k v (listed i p es) ≡ listed i p es
replaced-none i p k v [] h = refl
replaced-none i p k v (e ∷ es) h = by (nat_eq k e.0) (sym (under-cons k e es) ∙ h) (replaced-none i p k v es)
  where
    by : (b : Bool) → cond b (Some e.1) (under k es) ≡ None → (under k es ≡ None → replaced k v (listed i p es) ≡
        listed i p es)
        → cond b (record { number = e.0; name = name_up i p e.0; entry = v } ∷ listed i p es)
        (entered i p e ∷ replaced k v (listed i p es)) ≡ entered i p e ∷ listed i p es
    by true g rest = absurd (cc g)
    by false g rest = ap (λ (d : List Entered). entered i p e ∷ d) (rest g)
