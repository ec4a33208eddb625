-- What a tree answers is what its directory says.
use Rattle.std.proofs.Common.{◌≡◌, ℕ, zero, suc, ◌+◌, ◌-◌, ◌<◌, ◌≤◌, Bool, true, false, cond, List, [], ◌∷◌, ◌++◌, ◌||◌, reverse, length, take, drop, append-nil, length-append, refl, sym, ap, ◌∙◌, subst, arith, nat_eq, nat_lt, Option, Some, None, slice_get, Ordering}
use Rattle.std.specs.Prelude.{◌&&◌, is_some, option_copied, IfSome}
use Rattle.std.specs.Option.{option_map, option_map_or, option_and_then}
use Rattle.std.specs.Ordering.{nat_cmp, is_lt}
use denote.Bor.{Bor}
use Rattle.std.proofs.lemmas.List.{length-map, map-append}
use Rattle.dir_entry.specs.shared_map.Runs.{IsBeginning, entries_after}
use Rattle.dir_entry.specs.shared_map.Sets.{IsRising}
use Rattle.dir_entry.specs.ldap_dn.Names.{RdnModel, rdns}
use Rattle.dir_tree.specs.Directory.{NameKey, Entered, AllBelow, NamesDiffer, IsDirectory, name_eq, begins, above, find, entry_at, numbers, number_found, is_at_or_below, is_right_under, has_below, front, front_from}
use Rattle.dir_tree.specs.Placed.{name_under, IsSpelled, IsPlacedAsSpelled}
use Rattle.dir_tree.specs.declared.place.Place.{Place}
use Rattle.dir_tree.specs.declared.place.Place.TheVariants.{Root, Under}
use Rattle.dir_tree.specs.declared.place.Standing.{Standing}
use Rattle.dir_tree.specs.declared.roots.Roots.{Roots}
use Rattle.dir_tree.specs.Superiors.{Places, name_in, name_up, place_at, entered}
use Rattle.dir_tree.specs.private.Superiors.{Steps, above_in, down, number_at, unreached, step_at, below_at}
use Rattle.dir_tree.specs.Kept.{shown}
use Rattle.dir_tree.specs.private.Kept.{IsTree}
use Rattle.dir_tree.proofs.Kept.{same_number, under, under-cons}
use Rattle.dir_tree.proofs.NameFacts.{begins-own, begins-joined, begins-through, begins-take, begins-long, begins-all, split, name_decides, and-false, above-joined, behind-joined}
use Rattle.dir_tree.proofs.Ways.{name-under}
use Rattle.dir_tree.proofs.Hung.{key-under, key-top, key-number, number-key, suffix-in}
use Rattle.dir_tree.proofs.Found.{listed, find-is, some-is, entry-under, within-is, children-is, directory-is, rooted-is, all-within}
use Rattle.dir_tree.proofs.Updates.{found}

-- ---- directories

-- a name begins another one exactly where the other is strictly below it
begins-below : (n m : NameKey) → name_eq n m ≡ false → begins n m ≡ (begins n m && nat_lt (length n) (length m))
begins-below n m h = by (begins n m) refl
  where
    by : (b : Bool) → begins n m ≡ b → b ≡ (b && nat_lt (length n) (length m))
    by false e = refl
    by true e = either (nat_lt (length n) (length m)) refl
      where
        either : (c : Bool) → nat_lt (length n) (length m) ≡ c → true ≡ c
        either true f = refl
        either false f =
            let l : length m ≤ length n = grind (arith, f) in
            let same : name_eq n m ≡ true = (name_decides n m).1 (begins-all n m e l) in
            absurd (cc (same, h))

not-below : (n : NameKey) → (begins n n && nat_lt (length n) (length n)) ≡ false
not-below n = ap (λ (b : Bool). begins n n && b) (irr (length n)) ∙ and-false (begins n n)
  where
    irr : (k : ℕ) → nat_lt k k ≡ false
    irr k = grind arith

positive : (k : ℕ) → nat_lt 0 (suc k) ≡ true
positive k = grind arith

-- where a name has no entry, a number at or below it is one below it
pub count-none : (n : NameKey) (d : List Entered) → find n d ≡ None →
    nat_lt 0 (length (numbers (is_at_or_below n) d)) ≡ has_below n d
count-none n [] h = refl
count-none n (x ∷ d) h = by (name_eq n (rdns x.name)) refl h (count-none n d)
  where
    by : (b : Bool) → name_eq n (rdns x.name) ≡ b → cond b (Some x) (find n d) ≡ None →
        (find n d ≡ None → nat_lt 0 (length (numbers (is_at_or_below n) d)) ≡ has_below n d)
        → nat_lt 0 (length (cond (begins n (rdns x.name)) (x.number ∷ numbers (is_at_or_below n) d)
        (numbers (is_at_or_below n) d))) ≡ ((begins n (rdns x.name) && nat_lt (length n) (length (rdns x.name)))
        || has_below n d)
    by true e f rest = absurd (cc f)
    by false e f rest = ap (λ (b : Bool). nat_lt 0
        (length (cond b (x.number ∷ numbers (is_at_or_below n) d) (numbers (is_at_or_below n) d))))
        (begins-below n (rdns x.name) e) ∙ either (begins n (rdns x.name) && nat_lt (length n) (length (rdns x.name)))
        (rest f)
      where
        either : (b : Bool) → nat_lt 0 (length (numbers (is_at_or_below n) d)) ≡ has_below n d →
            nat_lt 0 (length (cond b (x.number ∷ numbers (is_at_or_below n) d) (numbers (is_at_or_below n) d))) ≡
            (b || has_below n d)
        either true r = positive (length (numbers (is_at_or_below n) d))
        either false r = r

some-long : (n : NameKey) (d : List Entered) → is_some (find n d) ≡ true → 0 < length (numbers (is_at_or_below n) d)
some-long n [] h = absurd (cc h)
some-long n (x ∷ d) h = by (name_eq n (rdns x.name)) refl (begins n (rdns x.name)) refl h (some-long n d)
  where
    by : (b : Bool) → name_eq n (rdns x.name) ≡ b → (c : Bool) → begins n (rdns x.name) ≡ c →
        is_some (cond b (Some x) (find n d)) ≡ true →
        (is_some (find n d) ≡ true → 0 < length (numbers (is_at_or_below n) d))
        → 0 < length (cond c (x.number ∷ numbers (is_at_or_below n) d) (numbers (is_at_or_below n) d))
    by b e true g f rest = omega arith
    by true e false g f rest = let same : n ≡ (rdns x.name) = (name_decides n (rdns x.name)).0 e in let on :
        begins n (rdns x.name) ≡ true = ap (begins n) (sym same) ∙ begins-own n in absurd (cc (on, g))
    by false e false g f rest = rest f

-- where it has one, two such numbers are
pub count-some : (n : NameKey) (d : List Entered) → NamesDiffer d → is_some (find n d) ≡ true →
    nat_lt 1 (length (numbers (is_at_or_below n) d)) ≡ has_below n d
count-some n [] u h = absurd (cc h)
count-some n (x ∷ d) u h = by (name_eq n (rdns x.name)) refl h (count-some n d u.1)
  where
    more : (k : ℕ) → nat_lt 1 (suc k) ≡ nat_lt 0 k
    more k = grind arith

    two : (k : ℕ) → 0 < k → nat_lt 1 (suc k) ≡ true
    two k l = grind (arith, l)

    by : (b : Bool) → name_eq n (rdns x.name) ≡ b → is_some (cond b (Some x) (find n d)) ≡ true →
        (is_some (find n d) ≡ true → nat_lt 1 (length (numbers (is_at_or_below n) d)) ≡ has_below n d)
        → nat_lt 1 (length (cond (begins n (rdns x.name)) (x.number ∷ numbers (is_at_or_below n) d)
        (numbers (is_at_or_below n) d))) ≡ ((begins n (rdns x.name) && nat_lt (length n) (length (rdns x.name)))
        || has_below n d)
    by true e f rest =
        let same : n ≡ (rdns x.name) = (name_decides n (rdns x.name)).0 e in
        let on : begins n (rdns x.name) ≡ true = ap (begins n) (sym same) ∙ begins-own n in
        let off : (begins n (rdns x.name) && nat_lt (length n) (length (rdns x.name))) ≡ false =
        ap (λ (m : NameKey). begins n m && nat_lt (length n) (length m)) (sym same) ∙ not-below n in
        let none : find n d ≡ None = ap (λ (m : NameKey). find m d) same ∙ u.0 in
        ap (λ (b : Bool). nat_lt 1
        (length (cond b (x.number ∷ numbers (is_at_or_below n) d) (numbers (is_at_or_below n) d)))) on
        ∙ more (length (numbers (is_at_or_below n) d)) ∙ count-none n d none
        ∙ sym (ap (λ (b : Bool). b || has_below n d) off)
    by false e f rest = ap (λ (b : Bool). nat_lt 1
        (length (cond b (x.number ∷ numbers (is_at_or_below n) d) (numbers (is_at_or_below n) d))))
        (begins-below n (rdns x.name) e) ∙ either (begins n (rdns x.name) && nat_lt (length n) (length (rdns x.name)))
      where
        either : (b : Bool) → nat_lt 1
            (length (cond b (x.number ∷ numbers (is_at_or_below n) d) (numbers (is_at_or_below n) d))) ≡
            (b || has_below n d)
        either true = two (length (numbers (is_at_or_below n) d)) (some-long n d f)
        either false = rest f

-- where no entry has a name, no number has it
none_named : (q : NameKey) (d : List Entered) → find q d ≡ None → numbers (λ e. name_eq q (rdns e.name)) d ≡ []
none_named q [] h = refl
none_named q (e ∷ d) h = by (name_eq q (rdns e.name)) (none_named q d) h
  where
    by : (b : Bool) → (find q d ≡ None → numbers (λ e. name_eq q (rdns e.name)) d ≡ []) → cond b (Some e) (find q d) ≡
        None → cond b (e.number ∷ numbers (λ e. name_eq q (rdns e.name)) d) (numbers (λ e. name_eq q (rdns e.name))
        d) ≡ []
    by true ih g = absurd (cc g)
    by false ih g = ih g

-- a name has one number, or none
pub one_named : (q : NameKey) (d : List Entered) → NamesDiffer d → numbers (λ e. name_eq q (rdns e.name)) d ≡
    number_found (find q d)
one_named q [] t = refl
one_named q (e ∷ d) t = by (name_eq q (rdns e.name)) refl (one_named q d t.1)
  where
    by : (b : Bool) → name_eq q (rdns e.name) ≡ b → numbers (λ e. name_eq q (rdns e.name)) d ≡ number_found
        (find q d) → cond b (e.number ∷ numbers (λ e. name_eq q (rdns e.name)) d)
        (numbers (λ e. name_eq q (rdns e.name)) d) ≡ number_found (cond b (Some e) (find q d))
    by true same ih =
        let gone : find q d ≡ None = ap (λ (n : NameKey). find n d) ((name_decides q (rdns e.name)).0 same) ∙ t.0 in
        ap (λ (l : List ℕ). e.number ∷ l) (none_named q d gone)
    by false same ih = ih

pub some_mapped : {A B : Type 0} (f : A → B) (o : Option A) → is_some (option_map f o) ≡ is_some o
some_mapped f None = refl
some_mapped f (Some x) = refl

pub copied_now : {A : Type 0} (o : Option (Bor A)) → option_map (λ (e : Bor A). e.now) o ≡ option_copied o
copied_now None = refl
copied_now (Some e) = refl

pub some_rises : (o : Option (Bor (List ℕ))) → IfSome o (λ (s : Bor (List ℕ)). IsRising s.now) → (l : List ℕ) →
    option_map (λ (s : Bor (List ℕ)). s.now) o ≡ Some l → IsRising l
some_rises None h l e = absurd (cc e)
some_rises (Some s) h l e = let same : s.now ≡ l = cc e in subst IsRising same h

-- ---- fronts

module _ (n : Steps) where
  unreached-short : (xs : NameKey) (a : ℕ) → unreached n xs a ≤ length xs
  unreached-short [] a = omega arith
  unreached-short (x ∷ xs) a = by (n a x) (unreached-short xs)
    where
      by : (o : Option ℕ) → ((a : ℕ) → unreached n xs a ≤ length xs) → option_map_or (unreached n xs) o
          (length (x ∷ xs)) ≤ length (x ∷ xs)
      by None rest = omega arith
      by (Some b) rest = let l : unreached n xs b ≤ length xs = rest b in omega arith

  less_own : (m : ℕ) → m - m ≡ 0
  less_own m = omega arith

  one_more : (m u : ℕ) → u ≤ m → suc m - u ≡ suc (m - u)
  one_more m u h = omega arith

  reach-some : (xs : NameKey) (a : ℕ) → is_some (down n (take (length xs - unreached n xs a) xs) a) ≡ true
  reach-some [] a = ap (λ (m : ℕ). is_some (down n (take m []) a)) (less_own 0)
  reach-some (x ∷ xs) a = by (n a x) refl (reach-some xs)
    where
      by : (o : Option ℕ) → n a x ≡ o → ((a : ℕ) → is_some (down n (take (length xs - unreached n xs a) xs) a) ≡ true)
          → is_some (down n (take (length (x ∷ xs) - option_map_or (unreached n xs) o (length (x ∷ xs))) (x ∷ xs))
          a) ≡ true
      by None e rest = ap (λ (m : ℕ). is_some (down n (take m (x ∷ xs)) a)) (less_own (length (x ∷ xs)))
      by (Some b) e rest =
          ap (λ (m : ℕ). is_some (down n (take m (x ∷ xs)) a)) (one_more (length xs) (unreached n xs b)
          (unreached-short xs b))
          ∙ ap (λ (o : Option ℕ). is_some (option_and_then (down n (take (length xs - unreached n xs b) xs)) o)) e
          ∙ rest b

  reach-none : (xs : NameKey) (a t : ℕ) → length xs - unreached n xs a < t → t ≤ length xs →
      is_some (down n (take t xs) a) ≡ false
  reach-none [] a t h g = absurd (omega arith)
  reach-none (x ∷ xs) a zero h g = absurd (omega arith)
  reach-none (x ∷ xs) a (suc t) h g = by (n a x) refl h (reach-none xs)
    where
      by : (o : Option ℕ) → n a x ≡ o → length (x ∷ xs) - option_map_or (unreached n xs) o (length (x ∷ xs)) < suc t
          → ((a t : ℕ) → length xs - unreached n xs a < t → t ≤ length xs → is_some (down n (take t xs) a) ≡ false) →
          is_some (option_and_then (down n (take t xs)) (n a x)) ≡ false
      by None e f rest = ap (λ (o : Option ℕ). is_some (option_and_then (down n (take t xs)) o)) e
      by (Some b) e f rest =
          let s : unreached n xs b ≤ length xs = unreached-short xs b in
          ap (λ (o : Option ℕ). is_some (option_and_then (down n (take t xs)) o)) e
          ∙ rest b t (omega arith) (omega arith)

-- the longest front, where one is known and none is longer
longest : (q : NameKey) (d : List Entered) (i m : ℕ) → m ≤ i → (0 < m → is_some (find (take m q) d) ≡ true) →
    ((j : ℕ) → m < j → j ≤ i → is_some (find (take j q) d) ≡ false) → front_from i q d ≡ m
longest q d zero m l h g = omega arith
longest q d (suc i) m l h g = by (nat_eq m (suc i)) refl (longest q d i m)
  where
    by : (b : Bool) → nat_eq m (suc i) ≡ b → (m ≤ i → (0 < m → is_some (find (take m q) d) ≡ true) →
        ((j : ℕ) → m < j → j ≤ i → is_some (find (take j q) d) ≡ false) → front_from i q d ≡ m)
        → cond (is_some (find (take (suc i) q) d)) (suc i) (front_from i q d) ≡ m
    by true e rest =
        let same : m ≡ suc i = same_number m (suc i) e in
        let on : is_some (find (take (suc i) q) d) ≡ true = ap (λ (k : ℕ). is_some (find (take k q) d)) (sym same)
        ∙ h (omega arith) in
        ap (λ (b : Bool). cond b (suc i) (front_from i q d)) on ∙ sym same
    by false e rest =
        let less : m ≤ i = omega_of m i l e in
        ap (λ (b : Bool). cond b (suc i) (front_from i q d)) (g (suc i) (omega arith) (omega arith))
        ∙ rest less h (λ j a b. g j a (omega arith))
      where
        omega_of : (m i : ℕ) → m ≤ suc i → nat_eq m (suc i) ≡ false → m ≤ i
        omega_of m i l e = grind (arith, l, e)

module _ (r : Roots) (t : IsTree r) where
  n : Steps
  n = step_at r.levels

  pub find_read : (q : NameKey) → number_at (step_at r.levels) (rdns r.suffix) r.root q ≡
      option_map (λ (e : Entered). e.number) (find q (shown r))
  find_read q = sym (find-is (rdns r.suffix) r.root r.reach r.entries (step_at r.levels) t.hung q)

  pub some_read : (q : NameKey) → is_some (number_at (step_at r.levels) (rdns r.suffix) r.root q) ≡
      is_some (find q (shown r))
  some_read q = sym (some-is (rdns r.suffix) r.root r.reach r.entries (step_at r.levels) t.hung q)

  pub front_read : (q : NameKey) → cond (begins (rdns r.suffix) q)
      (option_map_or (λ a. length q - unreached (step_at r.levels) (drop (length (rdns r.suffix)) q) a) r.root 0) 0 ≡
      front q (shown r)
  front_read q = by (begins (rdns r.suffix) q) refl r.root refl
    where
      s : NameKey
      s = rdns r.suffix

      xs : NameKey
      xs = drop (length (rdns r.suffix)) q

      some : (j : ℕ) → is_some (find (take j q) (shown r)) ≡ is_some (number_at (step_at r.levels) (rdns r.suffix)
          r.root (take j q))
      some j = sym (some_read (take j q))

      none : (o : Option ℕ) → is_some (cond (begins (rdns r.suffix) q) o None) ≡
          is_some (cond (begins (rdns r.suffix) q) o None)
      none o = refl

      off : (j : ℕ) → begins (rdns r.suffix) q ≡ false → is_some (number_at (step_at r.levels) (rdns r.suffix) r.root
          (take j q)) ≡ false
      off j h = either (begins (rdns r.suffix) (take j q)) refl
        where
          either : (b : Bool) → begins (rdns r.suffix) (take j q) ≡ b →
              is_some (cond b (option_and_then (down (step_at r.levels) (drop (length (rdns r.suffix)) (take j q)))
              r.root) None) ≡ false
          either false e = refl
          either true e = let on : begins (rdns r.suffix) q ≡ true = begins-through (rdns r.suffix) (take j q) q e
              (begins-take q j) in absurd (cc (on, h))

      rootless : (j : ℕ) → r.root ≡ None → is_some (number_at (step_at r.levels) (rdns r.suffix) r.root (take j q)) ≡
          false
      rootless j h = ap (λ (o : Option ℕ). is_some (cond (begins (rdns r.suffix) (take j q))
          (option_and_then (down (step_at r.levels) (drop (length (rdns r.suffix)) (take j q))) o) None)) h
          ∙ either (begins (rdns r.suffix) (take j q))
        where
          nothing : Option ℕ
          nothing = None

          either : (b : Bool) → is_some (cond b nothing None) ≡ false
          either true = refl
          either false = refl

      take-behind : (l m : NameKey) (k : ℕ) → take (length l + k) (l ++ m) ≡ l ++ take k m
      take-behind [] m k = ap (λ (j : ℕ). take j m) (let e : 0 + k ≡ k = omega arith in e)
      take-behind (x ∷ l) m k = ap (λ (j : ℕ). take j (x ∷ l ++ m)) (let e : suc (length l) + k ≡ suc (length l + k) =
          omega arith in e) ∙ ap (λ (j : NameKey). x ∷ j) (take-behind l m k)

      at : begins (rdns r.suffix) q ≡ true → (a k : ℕ) → r.root ≡ Some a → number_at (step_at r.levels)
          (rdns r.suffix) r.root (take (length (rdns r.suffix) + k) q) ≡ down (step_at r.levels) (take k xs) a
      at h a k e =
          let whole : take (length (rdns r.suffix) + k) q ≡ rdns r.suffix ++ take k xs =
          ap (take (length (rdns r.suffix) + k)) (split (rdns r.suffix) q h) ∙ take-behind (rdns r.suffix) xs
          k in
          ap (number_at (step_at r.levels) (rdns r.suffix) r.root) whole
          ∙ ap (λ (b : Bool). cond b
          (option_and_then (down (step_at r.levels) (drop (length (rdns r.suffix)) (rdns r.suffix ++ take k xs)))
          r.root) None) (begins-joined (rdns r.suffix) (take k xs))
          ∙ ap (λ (l : NameKey). option_and_then (down (step_at r.levels) l) r.root) (behind-joined (rdns r.suffix)
          (take k xs))
          ∙ ap (λ (o : Option ℕ). option_and_then (down (step_at r.levels) (take k xs)) o) e

      length-behind : begins (rdns r.suffix) q ≡ true → length q ≡ length (rdns r.suffix) + length xs
      length-behind h = ap (λ (l : NameKey). length l) (split (rdns r.suffix) q h) ∙ length-append (rdns r.suffix) xs

      by : (b : Bool) → begins (rdns r.suffix) q ≡ b → (o : Option ℕ) → r.root ≡ o →
          cond b (option_map_or (λ a. length q - unreached (step_at r.levels) xs a) o 0) 0 ≡ front q (shown r)
      by false h o e = sym (longest q (shown r) (length q) 0 (omega arith) (λ z. absurd (omega arith))
          (λ j a b. some j ∙ off j h))
      by true h None e = sym (longest q (shown r) (length q) 0 (omega arith) (λ z. absurd (omega arith))
          (λ j a b. some j ∙ rootless j e))
      by true h (Some a) e =
          let u : unreached (step_at r.levels) xs a ≤ length xs = unreached-short (step_at r.levels) xs a in
          let lq : length q ≡ length (rdns r.suffix) + length xs = length-behind h in
          let m : length q - unreached (step_at r.levels) xs a ≡ length (rdns r.suffix) +
          (length xs - unreached (step_at r.levels) xs a) = omega arith in
          sym (longest q (shown r) (length q) (length q - unreached (step_at r.levels) xs a) (omega arith)
          (λ z. ap (λ (k : ℕ). is_some (find (take k q) (shown r))) m
          ∙ some (length (rdns r.suffix) + (length xs - unreached (step_at r.levels) xs a))
          ∙ ap (λ (o : Option ℕ). is_some o) (at h a (length xs - unreached (step_at r.levels) xs a) e)
          ∙ reach-some (step_at r.levels) xs a)
          (λ j z w. beyond j lq u m z w))
        where
          beyond : (j : ℕ) → length q ≡ length (rdns r.suffix) + length xs → unreached (step_at r.levels) xs a ≤
              length xs
              → length q - unreached (step_at r.levels) xs a ≡ length (rdns r.suffix) +
              (length xs - unreached (step_at r.levels) xs a)
              → length q - unreached (step_at r.levels) xs a < j → j ≤ length q →
              is_some (find (take j q) (shown r)) ≡ false
          beyond j lq u m z w =
              let k : j ≡ length (rdns r.suffix) + (j - length (rdns r.suffix)) = omega arith in
              ap (λ (i : ℕ). is_some (find (take i q) (shown r))) k
              ∙ some (length (rdns r.suffix) + (j - length (rdns r.suffix)))
              ∙ ap (λ (o : Option ℕ). is_some o) (at h a (j - length (rdns r.suffix)) e)
              ∙ reach-none (step_at r.levels) xs a (j - length (rdns r.suffix)) (omega arith) (omega arith)

  pub front_as : (name : List RdnModel) → cond (begins (rdns r.suffix) (rdns name))
      (option_map_or (λ a. length name - unreached (step_at r.levels) (drop (length (rdns r.suffix)) (rdns name)) a)
      r.root 0) 0 ≡ front (rdns name) (shown r)
  front_as name =
      ap (λ (m : ℕ). cond (begins (rdns r.suffix) (rdns name))
      (option_map_or (λ a. m - unreached (step_at r.levels) (drop (length (rdns r.suffix)) (rdns name)) a) r.root
      0) 0) (sym (length-map name (λ (r : RdnModel). r.keys)))
      ∙ front_read (rdns name)

  -- ---- sets

  pub children_read : (q : NameKey) (k : ℕ) (set : List ℕ) → number_at (step_at r.levels) (rdns r.suffix) r.root q ≡
      Some k → set ≡ (below_at r.levels k).children → IsRising set
      → Some set ≡ option_map (λ (e : Entered). numbers (is_right_under q) (shown r)) (find q (shown r))
  children_read q k set h e rise =
      let there = number-key (rdns r.suffix) r.root r.reach (place_at r.entries) (step_at r.levels) t.hung q k h in
      let is : set ≡ numbers (is_right_under q) (shown r) =
      e ∙ children-is (rdns r.suffix) r.root r.reach r.entries (step_at r.levels) t.hung (below_at r.levels) t.listed
      t.rises k there.1 (subst IsRising e rise)
      ∙ ap (λ (x : NameKey). numbers (is_right_under x) (shown r)) there.0
      in
      let f = found r t q k h in
      ap (λ (l : List ℕ). Some l) is
      ∙ sym (ap (λ (o : Option Entered). option_map (λ (e : Entered). numbers (is_right_under q) (shown r)) o) f.is)

  pub within_read : (q : NameKey) (k : ℕ) (set : Option (List ℕ)) → number_at (step_at r.levels) (rdns r.suffix)
      r.root q ≡ Some k → (is_some (place_at r.entries k) ≡ true → set ≡ Some (below_at r.levels k).within) →
      ((s : List ℕ) → set ≡ Some s → IsRising s)
      → set ≡ option_map (λ (e : Entered). numbers (is_at_or_below q) (shown r)) (find q (shown r))
  within_read q k set h e rise =
      let there = number-key (rdns r.suffix) r.root r.reach (place_at r.entries) (step_at r.levels) t.hung q k h in
      let is : (below_at r.levels k).within ≡ numbers (is_at_or_below q) (shown r) =
      within-is (rdns r.suffix) r.root r.reach r.entries (step_at r.levels) t.hung (below_at r.levels) t.listed
      t.rises k there.1 (rise (below_at r.levels k).within (e there.1))
      ∙ ap (λ (x : NameKey). numbers (is_at_or_below x) (shown r)) there.0
      in
      let f = found r t q k h in
      e there.1 ∙ ap (λ (l : List ℕ). Some l) is
      ∙ sym (ap (λ (o : Option Entered). option_map (λ (e : Entered). numbers (is_at_or_below q) (shown r)) o) f.is)

  pub none_read : {A : Type 0} (f : Entered → A) (q : NameKey) → number_at (step_at r.levels) (rdns r.suffix) r.root
      q ≡ None → None ≡ option_map f (find q (shown r))
  none_read {A} f q h = by (find q (shown r)) (sym (find_read q) ∙ h)
    where
      by : (o : Option Entered) → option_map (λ (e : Entered). e.number) o ≡ None → None ≡ option_map f o
      by None g = refl
      by (Some e) g = absurd (cc g)

  -- ---- entries

  pub entry_read : (k : ℕ) → option_map (λ (s : Standing). s.entry) (under k r.entries) ≡
      option_map (λ (e : Entered). e.entry) (entry_at k (shown r))
  entry_read k = by (under k r.entries) ∙ ap (λ (o : Option Entered). option_map (λ (e : Entered). e.entry) o)
      (entry-under r.reach (place_at r.entries) k r.entries)
    where
      by : (o : Option Standing) → option_map (λ (s : Standing). s.entry) o ≡ option_map (λ (e : Entered). e.entry)
          (option_map (λ (s : Standing). entered r.reach (place_at r.entries) (k, s)) o)
      by None = refl
      by (Some s) = refl

  pub name_read : (k : ℕ) → is_some (place_at r.entries k) ≡ true → Some (name_up r.reach (place_at r.entries) k) ≡
      option_map (λ (e : Entered). e.name) (entry_at k (shown r))
  name_read k h = by (under k r.entries) h ∙ ap (λ (o : Option Entered). option_map (λ (e : Entered). e.name) o)
      (entry-under r.reach (place_at r.entries) k r.entries)
    where
      by : (o : Option Standing) → is_some (option_map (λ (s : Standing). s.place) o) ≡ true →
          Some (name_up r.reach (place_at r.entries) k) ≡ option_map (λ (e : Entered). e.name)
          (option_map (λ (s : Standing). entered r.reach (place_at r.entries) (k, s)) o)
      by None g = absurd (cc g)
      by (Some s) g = refl

  -- what is read off a name
  pub name_read_as : {A : Type 0} (f : List RdnModel → A) (k : ℕ) → is_some (place_at r.entries k) ≡ true →
      Some (f (name_up r.reach (place_at r.entries) k)) ≡ option_map (λ (e : Entered). f e.name) (entry_at k (shown r))
  name_read_as {A} f k h = by (entry_at k (shown r)) (name_read k h)
    where
      by : (o : Option Entered) → Some (name_up r.reach (place_at r.entries) k) ≡ option_map (λ (e : Entered). e.name)
          o → Some (f (name_up r.reach (place_at r.entries) k)) ≡ option_map (λ (e : Entered). f e.name) o
      by None g = absurd (cc g)
      by (Some e) g = let same : name_up r.reach (place_at r.entries) k ≡ e.name = cc g in ap (λ (n : List RdnModel).
          Some (f n)) same

  pub nameless_read : {A : Type 0} (f : Entered → A) (k : ℕ) → is_some (place_at r.entries k) ≡ false →
      None ≡ option_map f (entry_at k (shown r))
  nameless_read {A} f k h = by (under k r.entries) h ∙ ap (λ (o : Option Entered). option_map f o)
      (entry-under r.reach (place_at r.entries) k r.entries)
    where
      by : (o : Option Standing) → is_some (option_map (λ (s : Standing). s.place) o) ≡ false →
          None ≡ option_map f (option_map (λ (s : Standing). entered r.reach (place_at r.entries) (k, s)) o)
      by None g = refl
      by (Some s) g = absurd (cc g)

  pub above_read : (k up : ℕ) → slice_get (reverse (name_up r.reach (place_at r.entries) k)) up ≡ option_and_then
      (λ (e : Entered). slice_get (reverse e.name) up) (entry_at k (shown r))
  above_read k up = by (under k r.entries) refl
      ∙ ap (λ (o : Option Entered). option_and_then (λ (e : Entered). slice_get (reverse e.name) up) o)
      (entry-under r.reach (place_at r.entries) k r.entries)
    where
      no_names : List RdnModel
      no_names = []

      nothing : (m : ℕ) → slice_get no_names m ≡ None
      nothing m = refl

      empty : place_at r.entries k ≡ None → (i : ℕ) → name_up i (place_at r.entries) k ≡ []
      empty e zero = refl
      empty e (suc i) = ap (λ (o : Option Place). name_in (name_up i (place_at r.entries)) o) e

      by : (o : Option Standing) → under k r.entries ≡ o →
          slice_get (reverse (name_up r.reach (place_at r.entries) k)) up
          ≡ option_and_then (λ (e : Entered). slice_get (reverse e.name) up)
          (option_map (λ (s : Standing). entered r.reach (place_at r.entries) (k, s)) o)
      by None e = ap (λ (l : List RdnModel). slice_get (reverse l) up)
          (empty (ap (λ (o : Option Standing). option_map (λ (s : Standing). s.place) o) e) r.reach) ∙ nothing up
      by (Some s) e = refl

  -- ---- laws

  pub directory_read : IsDirectory (rdns r.suffix) (shown r)
  directory_read = directory-is (rdns r.suffix) r.root r.reach r.entries (step_at r.levels) t.hung t.rises

  pub rooted_read : find (rdns r.suffix) (shown r) ≡ None → shown r ≡ []
  rooted_read = rooted-is (rdns r.suffix) r.root r.reach r.entries (step_at r.levels) t.hung

  pub within_all_read : numbers (is_at_or_below (rdns r.suffix)) (shown r) ≡ numbers (λ e. true) (shown r)
  within_all_read = all-within (rdns r.suffix) r.root r.reach r.entries (step_at r.levels) t.hung

  pub single_read : (q : NameKey) → numbers (λ e. name_eq q (rdns e.name)) (shown r) ≡ number_found (find q (shown r))
  single_read q = one_named q (shown r) directory_read.differ

  pub below_read : (q : NameKey) → is_some (find q (shown r)) ≡ true →
      nat_lt 1 (length (numbers (is_at_or_below q) (shown r))) ≡ has_below q (shown r)
  below_read q h = count-some q (shown r) directory_read.differ h

  drop-last : (l : List RdnModel) (x : RdnModel) → drop (length (l ++ x ∷ []) - 1) (l ++ x ∷ []) ≡ x ∷ []
  drop-last l x = ap (λ (m : ℕ). drop m (l ++ x ∷ [])) (let e : length (l ++ x ∷ []) ≡ length l + 1 = length-append l
      (x ∷ []) in let f : length (l ++ x ∷ []) - 1 ≡ length l = omega arith in f) ∙ behind l
    where
      behind : (l : List RdnModel) → drop (length l) (l ++ x ∷ []) ≡ x ∷ []
      behind [] = refl
      behind (y ∷ l) = behind l

  -- no name below an entry's is the root's
  below-root : (a : ℕ) (x : RdnModel) (m : NameKey) → is_some (place_at r.entries a) ≡ true →
      m ≡ rdns (name_up r.reach (place_at r.entries) a) ++ x.keys ∷ [] → name_eq m (rdns r.suffix) ≡ false
  below-root a x m u w = by (name_eq m (rdns r.suffix)) refl
    where
      by : (b : Bool) → name_eq m (rdns r.suffix) ≡ b → b ≡ false
      by false z = refl
      by true z =
          let is : m ≡ rdns r.suffix = (name_decides m (rdns r.suffix)).0 z in
          let l : length (rdns r.suffix) ≤ length (rdns (name_up r.reach (place_at r.entries) a)) =
          begins-long (rdns r.suffix) (rdns (name_up r.reach (place_at r.entries) a))
          (suffix-in (rdns r.suffix) r.root r.reach (place_at r.entries) (step_at r.levels) t.hung a u)
          in
          let n : length (rdns r.suffix) ≡ length (rdns (name_up r.reach (place_at r.entries) a)) + 1 =
          ap (λ (q : NameKey). length q) (sym is ∙ w) ∙ length-append (rdns (name_up r.reach (place_at r.entries) a))
          (x.keys ∷ [])
          in
          absurd (omega arith)

  number-of : (q : NameKey) (e : Entered) → find q (shown r) ≡ Some e → number_at (step_at r.levels) (rdns r.suffix)
      r.root q ≡ Some e.number
  number-of q e h = find_read q ∙ ap (λ (o : Option Entered). option_map (λ (e : Entered). e.number) o) h

  name-of : (q : NameKey) (e : Entered) → find q (shown r) ≡ Some e → e.name ≡ name_up r.reach (place_at r.entries)
      e.number
  name-of q e h = let f = found r t q e.number (number-of q e h) in let one : f.entry ≡ e = cc (f.is, h)
      in ap (λ (x : Entered). x.name) (sym one) ∙ f.name

  -- an entry's name is that of the number above its place, and the relative name of its place behind it
  pub under_read : (k a : ℕ) (x : RdnModel) → place_at r.entries k ≡ Some (Under a x)
      → (is_some (entry_at k (shown r)) ≡ true) × (option_map (λ (e : Entered). e.name) (entry_at k (shown r)) ≡
      option_map (λ (e : Entered). e.name ++ x ∷ []) (entry_at a (shown r)))
  under_read k a x h =
      let here : is_some (place_at r.entries k) ≡ true = ap (λ (o : Option Place). is_some o) h in
      let there : is_some (place_at r.entries a) ≡ true = t.hung.over k a (ap (λ (o : Option Place). above_in o) h) in (
        stands (entry_at k (shown r)) (name_read k here),
        sym (name_read k here) ∙ ap (λ (n : List RdnModel). Some n) (name-under r.reach (place_at r.entries)
            t.hung.ends k a x h) ∙ name_read_as (λ (n : List RdnModel). n ++ x ∷ []) a there,
      )
    where
      stands : (o : Option Entered) → Some (name_up r.reach (place_at r.entries) k) ≡
          option_map (λ (e : Entered). e.name) o → is_some o ≡ true
      stands None g = absurd (cc g)
      stands (Some e) g = refl

  -- each name is its superior's with one relative name behind it
  pub spelled_read : IsSpelled (rdns r.suffix) (shown r)
  spelled_read q e h off = by (place_at r.entries e.number) refl
    where
      there : (rdns (name_up r.reach (place_at r.entries) e.number) ≡ q)
          × (is_some (place_at r.entries e.number) ≡ true)
      there = number-key (rdns r.suffix) r.root r.reach (place_at r.entries) (step_at r.levels) t.hung q e.number
          (number-of q e h)

      by : (o : Option Place) → place_at r.entries e.number ≡ o → (superior : Entered) × (x : RdnModel)
          × (find (above q) (shown r) ≡ Some superior) × (e.name ≡ superior.name ++ x ∷ [])
      by None g = absurd (cc (ap (λ (o : Option Place). is_some o) g, there.1))
      by (Some (Root name)) g =
          let root : q ≡ rdns r.suffix = sym there.0 ∙ (key-top (rdns r.suffix) r.root r.reach (place_at r.entries)
          (step_at r.levels) t.hung e.number (record { name = name; is = g })).0 in
          let on : name_eq q (rdns r.suffix) ≡ true = (name_decides q (rdns r.suffix)).1 root in
          absurd (cc (on, off))
      by (Some (Under a x)) g =
          let ka : NameKey = rdns (name_up r.reach (place_at r.entries) a) in
          let up : above_in (place_at r.entries e.number) ≡ Some a = ap (λ (o : Option Place). above_in o) g in
          let f = found r t ka a (key-number (rdns r.suffix) r.root r.reach (place_at r.entries) (step_at r.levels)
          t.hung a (t.hung.over e.number a up)) in
          let keys : q ≡ ka ++ x.keys ∷ [] = sym there.0 ∙ key-under (rdns r.suffix) r.root r.reach
          (place_at r.entries) (step_at r.levels) t.hung e.number a x g in
          let over : above q ≡ ka = ap (λ (q : NameKey). above q) keys ∙ above-joined ka x.keys [] ∙ append-nil ka in (
            f.entry,
            x,
            ap (λ (q : NameKey). find q (shown r)) over ∙ f.is,
            name-of q e h ∙ name-under r.reach (place_at r.entries) t.hung.ends e.number a x g
                ∙ ap (λ (l : List RdnModel). l ++ x ∷ []) (sym f.name),
          )

  pub placed_read : IsPlacedAsSpelled (rdns r.suffix) (shown r)
  placed_read q e x h =
      let there = number-key (rdns r.suffix) r.root r.reach (place_at r.entries) (step_at r.levels) t.hung q e.number
      (number-of q e h) in
      let ka : NameKey = rdns (name_up r.reach (place_at r.entries) e.number) in
      let keys : rdns (e.name ++ x ∷ []) ≡ ka ++ x.keys ∷ [] = map-append (λ (r : RdnModel). r.keys) e.name (x ∷ [])
      ∙ ap (λ (l : List RdnModel). rdns l ++ x.keys ∷ []) (name-of q e h) in
      let over : above (rdns (e.name ++ x ∷ [])) ≡ q = ap (λ (q : NameKey). above q) keys ∙ above-joined ka x.keys []
      ∙ append-nil ka ∙ there.0 in
      ap (λ (b : Bool). cond b (e.name ++ x ∷ []) (name_under (find (above (rdns (e.name ++ x ∷ []))) (shown r))
      (e.name ++ x ∷ []))) (below-root e.number x (rdns (e.name ++ x ∷ [])) there.1 keys)
      ∙ ap (λ (m : NameKey). name_under (find m (shown r)) (e.name ++ x ∷ [])) over
      ∙ ap (λ (o : Option Entered). name_under o (e.name ++ x ∷ [])) h
      ∙ ap (λ (l : List RdnModel). e.name ++ l) (drop-last e.name x)

-- more than one number of a name's set
pub below_from : (q : NameKey) (d : List Entered) (set : List ℕ) → NamesDiffer d → is_some (find q d) ≡ true →
    Some set ≡ option_map (λ (e : Entered). numbers (is_at_or_below q) d) (find q d) → nat_lt 1 (length set) ≡
    has_below q d
below_from q d set u h g = ap (λ (l : List ℕ). nat_lt 1 (length l)) (by (find q d) g) ∙ count-some q d u h
  where
    by : (o : Option Entered) → Some set ≡ option_map (λ (e : Entered). numbers (is_at_or_below q) d) o →
        set ≡ numbers (is_at_or_below q) d
    by None g = absurd (cc g)
    by (Some e) g = cc g

-- ---- whether a number is above all

pub empty_test : {A : Type 0} (xs : List A) → (nat_eq (length xs) 0 ≡ true → xs ≡ [])
    × (xs ≡ [] → nat_eq (length xs) 0 ≡ true)
empty_test [] = ((λ h. refl), (λ h. refl))
empty_test (x ∷ xs) = ((λ h. absurd (longer (length xs) h)), (λ h. absurd (cc h)))
  where
    longer : (m : ℕ) → nat_eq (suc m) 0 ≡ true → ⊥
    longer m h = grind (arith, h)

pub all_below : (i : ℕ) (p : Places) (k : ℕ) (es : List (ℕ × Standing)) → under k es ≡ None →
    entries_after (nat_cmp k) es ≡ [] → AllBelow k (listed i p es)
all_below i p k [] h g = tt
all_below i p k (e ∷ es) h g = by (nat_lt k e.0) (nat_eq k e.0) refl refl (sym (under-cons k e es) ∙ h) g
    (all_below i p k es)
  where
    by : (a b : Bool) → nat_lt k e.0 ≡ a → nat_eq k e.0 ≡ b → cond b (Some e.1) (under k es) ≡ None →
        cond (is_lt (cond a Ordering.Less (cond b Ordering.Equal Ordering.Greater))) (e ∷ entries_after (nat_cmp k)
        es) (entries_after (nat_cmp k) es) ≡ []
        → (under k es ≡ None → entries_after (nat_cmp k) es ≡ [] → AllBelow k (listed i p es)) → (e.0 < k)
        × AllBelow k (listed i p es)
    by true b f u x y rest = absurd (cc y)
    by false true f u x y rest = absurd (cc x)
    by false false f u x y rest = ((let l : e.0 < k = grind (arith, f, u) in l), rest x y)

pub none_after : (i : ℕ) (p : Places) (k : ℕ) (es : List (ℕ × Standing)) → AllBelow k (listed i p es) →
    entries_after (nat_cmp k) es ≡ []
none_after i p k [] h = refl
none_after i p k (e ∷ es) h =
    let lt : e.0 < k = h.0 in
    let off : nat_lt k e.0 ≡ false = grind arith in
    ap (λ (a : Bool). cond (is_lt (cond a Ordering.Less (cond (nat_eq k e.0) Ordering.Equal Ordering.Greater)))
    (e ∷ entries_after (nat_cmp k) es) (entries_after (nat_cmp k) es)) off ∙ either (nat_eq k e.0)
    ∙ none_after i p k es h.1
  where
    either : (c : Bool) → cond (is_lt (cond c Ordering.Equal Ordering.Greater)) (e ∷ entries_after (nat_cmp k) es)
        (entries_after (nat_cmp k) es) ≡ entries_after (nat_cmp k) es
    either true = refl
    either false = refl

pub no_run : {A : Type 0} (xs ys : List A) → IsBeginning xs ys → xs ≡ [] → ys ≡ []
no_run [] [] b h = refl
no_run [] (y ∷ ys) b h = let l = b.some (omega arith) in absurd (omega arith)
no_run (x ∷ xs) ys b h = absurd (cc h)

pub no_rest : {A : Type 0} (xs ys : List A) → IsBeginning xs ys → ys ≡ [] → xs ≡ []
no_rest [] ys b h = refl
no_rest (x ∷ xs) ys b h = absurd (cc (sym h ∙ b.is))
