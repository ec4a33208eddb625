-- What is read of a tree is what its directory says: numbers by name, entries by number, the sets of a name.
use Rattle.std.proofs.Common.{◌≡◌, ℕ, ◌<◌, Bool, true, false, cond, List, [], ◌∷◌, ◌++◌, ◌||◌, map, length, drop, refl, sym, ap, ◌∙◌, arith, nat_eq, nat_lt, Option, Some, None, Ordering}
use Rattle.std.specs.Prelude.{◌&&◌, is_some}
use Rattle.std.specs.Option.{option_map, option_and_then}
use Rattle.std.specs.List.{AllByRecursion}
use Rattle.std.specs.Ordering.{nat_cmp}
use Rattle.std.specs.Map.{keys_of}
use Rattle.dir_entry.specs.shared_map.Entries.{Rises, IsAhead}
use Rattle.dir_entry.specs.ldap_dn.Names.{rdns}
use Rattle.dir_tree.specs.Directory.{NameKey, Entered, AllAbove, NumbersRise, NamesDiffer, IsDirectory, name_eq, begins, above, find, entry_at, numbers, is_child, is_at_or_below, is_right_under}
use Rattle.dir_tree.specs.declared.place.Place.{Place}
use Rattle.dir_tree.specs.declared.place.Standing.{Standing}
use Rattle.dir_tree.specs.declared.place.Below.{Below}
use Rattle.dir_entry.specs.shared_map.Sets.{IsRising}
use Rattle.dir_tree.specs.Superiors.{Places, name_up, place_at, has_number, entered, directory_of}
use Rattle.dir_tree.specs.private.Superiors.{Steps, above_in, stands_under, down, number_at, IsHung, IsListed}
use Rattle.dir_tree.proofs.Kept.{own_eq, same_number, apart_eq, under, under-cons, same_set}
use Rattle.dir_tree.proofs.NameFacts.{begins-own, name_decides, above-joined}
use Rattle.dir_tree.proofs.Ways.{under-above, over-top}
use Rattle.dir_tree.proofs.Hung.{key, key-under, key-top, top-some, suffix-in, number-key, key-number, over-is, child-is}

-- the entries at a bound and places that need not be their own
abbrev pub listed : ℕ → Places → List (ℕ × Standing) → List Entered
listed i p es = map (entered i p) es

-- each entry has a place
abbrev pub AllStand : Places → List (ℕ × Standing) → Type 0
AllStand p es = AllByRecursion (λ (e : ℕ × Standing). is_some (p e.0) ≡ true) es

some-cond : {A : Type 0} (b : Bool) (x : A) (o : Option A) → (b ≡ false → is_some o ≡ true) →
    is_some (cond b (Some x) o) ≡ true
some-cond true x o h = refl
some-cond false x o h = h refl

some-mapped : {A B : Type 0} (f : A → B) (o : Option A) → is_some (option_map f o) ≡ is_some o
some-mapped f None = refl
some-mapped f (Some x) = refl

-- a number that stands somewhere is one of the entries'
pub place-some : (es : List (ℕ × Standing)) (k : ℕ) → is_some (place_at es k) ≡ has_number k (keys_of es)
place-some [] k = refl
place-some (e ∷ es) k =
    some-mapped (λ (s : Standing). s.place) (under k (e ∷ es)) ∙ ap (λ (o : Option Standing). is_some o)
    (under-cons k e es) ∙ by (nat_eq k e.0)
    ∙ ap (λ (b : Bool). nat_eq k e.0 || b) (sym (some-mapped (λ (s : Standing). s.place) (under k es))
    ∙ place-some es k)
  where
    by : (b : Bool) → is_some (cond b (Some e.1) (under k es)) ≡ (b || is_some (under k es))
    by true = refl
    by false = refl

or-true : (a b : Bool) → b ≡ true → (a || b) ≡ true
or-true true b h = refl
or-true false b h = h

all-among : (p : Places) (es : List (ℕ × Standing)) → ((k : ℕ) → has_number k (keys_of es) ≡ true → is_some (p k) ≡
    true) → AllStand p es
all-among p [] h = tt
all-among p (e ∷ es) h = (
  h e.0 (ap (λ (b : Bool). b || has_number e.0 (keys_of es)) (own_eq e.0)),
  all-among p es (λ
      k g. h k (or-true (nat_eq k e.0) (has_number k (keys_of es)) g)),
)

pub all-stand : (es : List (ℕ × Standing)) → AllStand (place_at es) es
all-stand es = all-among (place_at es) es (λ k h. place-some es k ∙ h)

-- the entry of a number
pub entry-under : (i : ℕ) (p : Places) (k : ℕ) (es : List (ℕ × Standing)) →
    option_map (λ (s : Standing). entered i p (k, s)) (under k es) ≡ entry_at k (listed i p es)
entry-under i p k [] = refl
entry-under i p k (e ∷ es) =
    ap (λ (o : Option Standing). option_map (λ (s : Standing). entered i p (k, s)) o) (under-cons k e es)
    ∙ by (nat_eq k e.0) refl (entry-under i p k es)
  where
    by : (b : Bool) → nat_eq k e.0 ≡ b → option_map (λ (s : Standing). entered i p (k, s)) (under k es) ≡
        entry_at k (listed i p es)
        → option_map (λ (s : Standing). entered i p (k, s)) (cond b (Some e.1) (under k es)) ≡
        cond b (Some (entered i p e)) (entry_at k (listed i p es))
    by true f rest = ap (λ (m : ℕ). Some (entered i p (m, e.1))) (same_number k e.0 f)
    by false f rest = rest

-- numbers rise where those of the map do
pub numbers-rise : (i : ℕ) (p : Places) (es : List (ℕ × Standing)) → Rises nat_cmp es → NumbersRise (listed i p es)
numbers-rise i p [] h = tt
numbers-rise i p (e ∷ es) h = (ahead es h.0, numbers-rise i p es h.1)
  where
    less : (a b : ℕ) → nat_cmp a b ≡ Ordering.Less → a < b
    less a b g = by (nat_lt a b) refl g
      where
        by : (c : Bool) → nat_lt a b ≡ c → cond c Ordering.Less (cond (nat_eq a b) Ordering.Equal Ordering.Greater) ≡
            Ordering.Less → a < b
        by true f g = grind (arith, f)
        by false f g = absurd (no (nat_eq a b) g)
          where
            no : (c : Bool) → cond c Ordering.Equal Ordering.Greater ≡ Ordering.Less → ⊥
            no true g = cc g
            no false g = cc g

    ahead : (es : List (ℕ × Standing)) → IsAhead nat_cmp e.0 es → AllAbove e.0 (listed i p es)
    ahead [] g = tt
    ahead (x ∷ es) g = (less e.0 x.0 g.0, ahead es g.1)

pub rise-numbers : (t : Entered → Bool) (d : List Entered) → NumbersRise d → IsRising (numbers t d)
rise-numbers t [] h = tt
rise-numbers t (e ∷ d) h = by (t e) (rise-numbers t d h.1)
  where
    past : (k : ℕ) (d : List Entered) → AllAbove k d → AllByRecursion (λ y. k < y) (numbers t d)
    past k [] g = tt
    past k (x ∷ d) g = either (t x) (past k d g.1)
      where
        either : (b : Bool) → AllByRecursion (λ y. k < y) (numbers t d) → AllByRecursion (λ y. k < y)
            (cond b (x.number ∷ numbers t d) (numbers t d))
        either true r = (g.0, r)
        either false r = r

    by : (b : Bool) → IsRising (numbers t d) → IsRising (cond b (e.number ∷ numbers t d) (numbers t d))
    by true r = (past e.number d h.0, r)
    by false r = r

-- which numbers pass by their name
pub has-numbers : (i : ℕ) (p : Places) (u : NameKey → Bool) (j : ℕ) (es : List (ℕ × Standing))
    → has_number j (numbers (λ e. u (rdns e.name)) (listed i p es)) ≡ (has_number j (keys_of es)
    && u (rdns (name_up i p j)))
has-numbers i p u j [] = refl
has-numbers i p u j (e ∷ es) = by (u (rdns (name_up i p e.0))) refl (nat_eq j e.0) refl (has-numbers i p u j es)
  where
    l : List ℕ
    l = numbers (λ e. u (rdns e.name)) (listed i p es)

    never : (b : Bool) → (b && false) ≡ false
    never true = refl
    never false = refl

    by : (a : Bool) → u (rdns (name_up i p e.0)) ≡ a → (b : Bool) → nat_eq j e.0 ≡ b → has_number j l ≡
        (has_number j (keys_of es) && u (rdns (name_up i p j)))
        → has_number j (cond a (e.0 ∷ l) l) ≡ ((b || has_number j (keys_of es)) && u (rdns (name_up i p j)))
    by true f true g rest = ap (λ (b : Bool). b || has_number j l) g
        ∙ sym (ap (λ (m : ℕ). u (rdns (name_up i p m))) (same_number j e.0 g) ∙ f)
    by true f false g rest = ap (λ (b : Bool). b || has_number j l) g ∙ rest
    by false f true g rest =
        let off : u (rdns (name_up i p j)) ≡ false = ap (λ (m : ℕ). u (rdns (name_up i p m))) (same_number j e.0 g)
        ∙ f in
        rest ∙ ap (λ (b : Bool). has_number j (keys_of es) && b) off ∙ never (has_number j (keys_of es)) ∙ sym off
    by false f false g rest = rest

-- the number of a name among some of the entries
abbrev pub among : List (ℕ × Standing) → Option ℕ → Option ℕ
among es o = option_and_then (λ k. cond (has_number k (keys_of es)) (Some k) None) o

module _ (s : NameKey) (root : Option ℕ) (i : ℕ) (p : Places) (n : Steps) (t : IsHung s root i p n) where
  pub find-among : (q : NameKey) (es : List (ℕ × Standing)) → AllStand p es → option_map (λ (e : Entered). e.number)
      (find q (listed i p es)) ≡ among es (number_at n s root q)
  find-among q [] h = by (number_at n s root q)
    where
      by : (o : Option ℕ) → None ≡ among [] o
      by None = refl
      by (Some k) = refl
  find-among q (e ∷ es) h = by (name_eq q (rdns (name_up i p e.0))) refl (find-among q es h.1)
    where
      other : (o : Option ℕ) → ((k : ℕ) → o ≡ Some k → nat_eq k e.0 ≡ false) → among es o ≡ among (e ∷ es) o
      other None g = refl
      other (Some k) g = ap (λ (b : Bool). cond (b || has_number k (keys_of es)) (Some k) None) (sym (g k refl))

      by : (b : Bool) → name_eq q (rdns (name_up i p e.0)) ≡ b → option_map (λ (e : Entered). e.number)
          (find q (listed i p es)) ≡ among es (number_at n s root q)
          → option_map (λ (e : Entered). e.number) (cond b (Some (entered i p e)) (find q (listed i p es))) ≡
          among (e ∷ es) (number_at n s root q)
      by true f rest =
          let same : q ≡ key s root i p n t e.0 = (name_decides q (rdns (name_up i p e.0))).0 f in
          sym (ap (among (e ∷ es)) (ap (number_at n s root) same ∙ key-number s root i p n t e.0 h.0)
          ∙ ap (λ (b : Bool). cond (b || has_number e.0 (keys_of es)) (Some e.0) None) (own_eq e.0))
      by false f rest = rest ∙ other (number_at n s root q) apart
        where
          apart : (k : ℕ) → number_at n s root q ≡ Some k → nat_eq k e.0 ≡ false
          apart k g = apart_eq k e.0 (never k g)
            where
              never : (k : ℕ) → number_at n s root q ≡ Some k → k ≡ e.0 → ⊥
              never k g same =
                  let one : rdns (name_up i p k) ≡ q = (number-key s root i p n t q k g).0 in
                  let two : q ≡ rdns (name_up i p e.0) = sym one ∙ ap (λ (m : ℕ). rdns (name_up i p m)) same in
                  let three : name_eq q (rdns (name_up i p e.0)) ≡ true = (name_decides q (rdns (name_up i p e.0))).1
                  two in
                  cc (f, three)

module _ (s : NameKey) (root : Option ℕ) (i : ℕ) (es : List (ℕ × Standing)) (n : Steps)
    (t : IsHung s root i (place_at es) n) where
  -- the number of a name
  pub find-is : (q : NameKey) → option_map (λ (e : Entered). e.number) (find q (directory_of i es)) ≡ number_at n s
      root q
  find-is q = find-among s root i (place_at es) n t q es (all-stand es) ∙ by (number_at n s root q) refl
    where
      by : (o : Option ℕ) → number_at n s root q ≡ o → among es o ≡ o
      by None e = refl
      by (Some k) e = ap (λ (b : Bool). cond b (Some k) None) (sym (place-some es k)
          ∙ (number-key s root i (place_at es) n t q k e).1)

  pub some-is : (q : NameKey) → is_some (find q (directory_of i es)) ≡ is_some (number_at n s root q)
  some-is q = sym (some-mapped (λ (e : Entered). e.number) (find q (directory_of i es)))
      ∙ ap (λ (o : Option ℕ). is_some o) (find-is q)

  -- what a set of a number has to be
  set-is : (u : NameKey → Bool) (set : List ℕ) → Rises nat_cmp es → IsRising set
      → ((j : ℕ) → is_some (place_at es j) ≡ true → has_number j set ≡ u (rdns (name_up i (place_at es) j))) →
      ((j : ℕ) → is_some (place_at es j) ≡ false → has_number j set ≡ false)
      → set ≡ numbers (λ e. u (rdns e.name)) (directory_of i es)
  set-is u set rise h f g = same_set set (numbers (λ e. u (rdns e.name)) (directory_of i es)) h
      (rise-numbers (λ e. u (rdns e.name)) (directory_of i es) (numbers-rise i (place_at es) es rise))
      (λ j. by j (is_some (place_at es j)) refl ∙ sym (has-numbers i (place_at es) u j es))
    where
      by : (j : ℕ) (b : Bool) → is_some (place_at es j) ≡ b → has_number j set ≡ (has_number j (keys_of es)
          && u (rdns (name_up i (place_at es) j)))
      by j true e = f j e ∙ ap (λ (b : Bool). b && u (rdns (name_up i (place_at es) j))) (sym e ∙ place-some es j)
      by j false e = g j e ∙ ap (λ (b : Bool). b && u (rdns (name_up i (place_at es) j))) (sym e ∙ place-some es j)

  no-place : (o : Option Place) → is_some o ≡ false → o ≡ None
  no-place None h = refl
  no-place (Some x) h = absurd (cc h)

  module _ (b : ℕ → Below) (l : IsListed i (place_at es) b) (rise : Rises nat_cmp es) where
    -- the set of what stands at or below an entry
    pub within-is : (a : ℕ) → is_some (place_at es a) ≡ true → IsRising (b a).within → (b a).within ≡
        numbers (is_at_or_below (rdns (name_up i (place_at es) a))) (directory_of i es)
    within-is a h r = set-is (begins (rdns (name_up i (place_at es) a))) (b a).within rise r
        (λ j g. l.within a j ∙ sym (over-is s root i (place_at es) n t a j h g))
        (λ j g. l.within a j ∙ over-top i (place_at es) t.ends a j (ap (λ (o : Option Place). above_in o)
        (no-place (place_at es j) g)) ∙ apart_eq a j (λ same. let one : is_some (place_at es j) ≡ true =
        ap (λ (m : ℕ). is_some (place_at es m)) (sym same) ∙ h in cc (one, g)))

    -- the set of what stands right under it
    pub children-is : (a : ℕ) → is_some (place_at es a) ≡ true → IsRising (b a).children → (b a).children ≡
        numbers (is_right_under (rdns (name_up i (place_at es) a))) (directory_of i es)
    children-is a h r = set-is (is_child (rdns (name_up i (place_at es) a))) (b a).children rise r
        (λ j g. l.children a j ∙ sym (child-is s root i (place_at es) n t a j h g))
        (λ j g. l.children a j ∙ ap (stands_under a) (no-place (place_at es j) g))

  -- ---- what every directory keeps

  none-found : {A B : Type 0} (f : A → B) (o : Option A) → option_map f o ≡ None → o ≡ None
  none-found f None h = refl
  none-found f (Some x) h = absurd (cc h)

  differ : (ds : List (ℕ × Standing)) → AllStand (place_at es) ds → Rises nat_cmp ds →
      NamesDiffer (listed i (place_at es) ds)
  differ [] h r = tt
  differ (e ∷ ds) h r = (
    none-found (λ (x : Entered). x.number) (find (rdns (name_up i (place_at es) e.0))
        (listed i (place_at es) ds)) gone,
    differ ds h.1 r.1,
  )
    where
      ahead : (k : ℕ) (ds : List (ℕ × Standing)) → IsAhead nat_cmp k ds → has_number k (keys_of ds) ≡ false
      ahead k [] g = refl
      ahead k (x ∷ ds) g = ap (λ (b : Bool). b || has_number k (keys_of ds)) (apart k x.0 g.0) ∙ ahead k ds g.1
        where
          apart : (a b : ℕ) → nat_cmp a b ≡ Ordering.Less → nat_eq a b ≡ false
          apart a b e = by (nat_lt a b) (nat_eq a b) refl refl e
            where
              by : (x y : Bool) → nat_lt a b ≡ x → nat_eq a b ≡ y →
                  cond x Ordering.Less (cond y Ordering.Equal Ordering.Greater) ≡ Ordering.Less → y ≡ false
              by x false f g e = refl
              by true true f g e = absurd (two f g)
                where
                  two : nat_lt a b ≡ true → nat_eq a b ≡ true → ⊥
                  two f g = grind arith
              by false true f g e = absurd (cc e)

      gone : option_map (λ (x : Entered). x.number) (find (rdns (name_up i (place_at es) e.0))
          (listed i (place_at es) ds)) ≡ None
      gone =
          find-among s root i (place_at es) n t (rdns (name_up i (place_at es) e.0)) ds h.1
          ∙ ap (among ds) (key-number s root i (place_at es) n t e.0 h.0) ∙ ap (λ (b : Bool). cond b (Some e.0) None)
          (ahead e.0 ds r.0)

  pub directory-is : Rises nat_cmp es → IsDirectory s (directory_of i es)
  directory-is rise = record {
    rise = numbers-rise i (place_at es) es rise;
    differ = differ es (all-stand es) rise;
    within = inside;
    parents = over;
  }
    where
      inside : (q : NameKey) → is_some (find q (directory_of i es)) ≡ true → begins s q ≡ true
      inside q h = by (begins s q) refl (sym (some-is q) ∙ h)
        where
          by : (b : Bool) → begins s q ≡ b → is_some (number_at n s root q) ≡ true → b ≡ true
          by true e g = refl
          by false e g = let off : is_some (number_at n s root q) ≡ false =
              ap (λ (b : Bool). is_some (cond b (option_and_then (down n (drop-s q)) root) None)) e in cc (off, g)
            where
              drop-s : NameKey → NameKey
              drop-s q = drop (length s) q

      over : (q : NameKey) → is_some (find q (directory_of i es)) ≡ true → name_eq q s ≡ false →
          is_some (find (above q) (directory_of i es)) ≡ true
      over q h g = some-is (above q) ∙ by (number_at n s root q) refl (sym (some-is q) ∙ h)
        where
          up : (k : ℕ) → rdns (name_up i (place_at es) k) ≡ q → is_some (place_at es k) ≡ true → (o : Option ℕ) →
              above_in (place_at es k) ≡ o → is_some (number_at n s root (above q)) ≡ true
          up k e f None v =
              let is : rdns (name_up i (place_at es) k) ≡ s =
              (key-top s root i (place_at es) n t k (top-some (place_at es k) v f)).0 in
              let on : name_eq q s ≡ true = (name_decides q s).1 (sym e ∙ is) in
              absurd (cc (on, g))
          up k e f (Some a) v =
              let u = under-above (place_at es k) a v in
              let ka : NameKey = rdns (name_up i (place_at es) a) in
              let up : above q ≡ ka ++ above (u.rdn.keys ∷ []) = ap (λ (m : NameKey). above m) (sym e
              ∙ key-under s root i (place_at es) n t k a u.rdn u.is) ∙ above-joined ka u.rdn.keys [] in
              ap (λ (m : NameKey). is_some (number_at n s root m)) (up ∙ nothing ka)
              ∙ ap (λ (o : Option ℕ). is_some o) (key-number s root i (place_at es) n t a (t.over k a v))
            where
              nothing : (l : NameKey) → l ++ [] ≡ l
              nothing [] = refl
              nothing (x ∷ l) = ap (λ (m : NameKey). x ∷ m) (nothing l)

          by : (o : Option ℕ) → number_at n s root q ≡ o → is_some o ≡ true → is_some (number_at n s root (above q)) ≡
              true
          by None e f = absurd (cc f)
          by (Some k) e f = let w = number-key s root i (place_at es) n t q k e in up k w.0 w.1
              (above_in (place_at es k)) refl

  -- where the root has no entry, there are none
  pub rooted-is : find s (directory_of i es) ≡ None → directory_of i es ≡ []
  rooted-is h = by es (all-stand es)
    where
      off : is_some (number_at n s root s) ≡ false
      off = sym (some-is s) ∙ ap (λ (o : Option Entered). is_some o) h

      no-root : root ≡ None
      no-root = by (begins s s) (begins-own s) root off
        where
          down-none : (o : Option ℕ) → is_some (option_and_then (down n []) o) ≡ false → o ≡ None
          down-none None f = refl
          down-none (Some r) f = absurd (cc f)

          rest : (s : NameKey) → drop (length s) s ≡ []
          rest [] = refl
          rest (x ∷ s) = rest s

          by : (b : Bool) → b ≡ true → (o : Option ℕ) →
              is_some (cond b (option_and_then (down n (drop (length s) s)) o) None) ≡ false → o ≡ None
          by true e o f = down-none o (ap (λ (l : NameKey). is_some (option_and_then (down n l) o)) (sym (rest s)) ∙ f)
          by false e o f = absurd (cc e)

      by : (ds : List (ℕ × Standing)) → AllStand (place_at es) ds → listed i (place_at es) ds ≡ []
      by [] a = refl
      by (e ∷ ds) a = absurd (both-roots (begins s (rdns (name_up i (place_at es) e.0))) root no-root
          (key-number s root i (place_at es) n t e.0 a.0))
        where
          both-roots : (b : Bool) (o : Option ℕ) → o ≡ None →
              cond b (option_and_then (down n (drop (length s) (rdns (name_up i (place_at es) e.0)))) o) None ≡
              Some e.0 → ⊥
          both-roots true None f g = cc g
          both-roots true (Some r) f g = cc f
          both-roots false o f g = cc g

  -- all entries stand at or below the root
  pub all-within : numbers (is_at_or_below s) (directory_of i es) ≡ numbers (λ e. true) (directory_of i es)
  all-within = by es (all-stand es)
    where
      by : (ds : List (ℕ × Standing)) → AllStand (place_at es) ds → numbers (is_at_or_below s)
          (listed i (place_at es) ds) ≡ numbers (λ e. true) (listed i (place_at es) ds)
      by [] a = refl
      by (e ∷ ds) a =
          ap (λ (b : Bool). cond b (e.0 ∷ numbers (is_at_or_below s) (listed i (place_at es) ds))
          (numbers (is_at_or_below s) (listed i (place_at es) ds))) (suffix-in s root i (place_at es) n t e.0 a.0)
          ∙ ap (λ (l : List ℕ). e.0 ∷ l) (by ds a.1)
