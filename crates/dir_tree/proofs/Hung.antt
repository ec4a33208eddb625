-- Names and numbers of entries that know their superior: each name leads down to its number, and each number up to its
-- name.
use Rattle.std.proofs.Common.{◌≡◌, ℕ, ◌+◌, ◌<◌, ◌≤◌, Bool, true, false, cond, List, [], ◌∷◌, ◌++◌, ◌||◌, length, take, drop, append_assoc, append-nil, length-append, refl, sym, ap, ◌∙◌, subst, arith, nat_eq, nat_lt, Option, Some, None}
use Rattle.std.specs.Prelude.{is_some}
use Rattle.std.specs.Option.{option_and_then}
use Rattle.std.specs.Cmp.{both_ways}
use Rattle.std.proofs.lemmas.List.{map-append}
use Rattle.dir_entry.specs.ldap_dn.Names.{RdnModel, rdns, TypeAndKey, are_same_keys}
use Rattle.dir_tree.specs.Directory.{NameKey, begins, is_child}
use Rattle.dir_tree.specs.declared.place.Place.{Place}
use Rattle.dir_tree.specs.declared.place.Place.TheVariants.{Root, Under}
use Rattle.dir_tree.specs.Superiors.{Places, name_up}
use Rattle.dir_tree.specs.private.Superiors.{Steps, above_in, is_root, stands_under, stands_at, is_over, down, number_at, IsHung}
use Rattle.dir_tree.proofs.Kept.{own_eq, same_number}
use Rattle.dir_tree.proofs.NameFacts.{begins-own, begins-joined, behind-joined, begins-through, begins-long, begins-all, begins-front, split, part_decides, both, and_true}
use Rattle.dir_tree.proofs.Ways.{IsUnder, under-above, name-under, name-root, over-top, over-under, over-own, climb}

-- a place right under a number by a relative name
pub record IsAt (o : Option Place) (a : ℕ) (x : List TypeAndKey) : Type 0 where
  pub rdn : RdnModel
  pub is : o ≡ Some (Under a rdn)
  pub keys : rdn.keys ≡ x

pub at-stands : (o : Option Place) (a : ℕ) (x : List TypeAndKey) → stands_at a x o ≡ true → IsAt o a x
at-stands None a x h = absurd (cc h)
at-stands (Some (Root name)) a x h = absurd (cc h)
at-stands (Some (Under b r)) a x h =
    let e = both (nat_eq a b) (are_same_keys x r.keys) h in
    let ab : a ≡ b = same_number a b e.0 in
    record { rdn = r; is = ap (λ (m : ℕ). Some (Under m r)) (sym ab); keys = sym ((part_decides x r.keys).0 e.1) }

pub stands-at : (o : Option Place) (a : ℕ) (r : RdnModel) → o ≡ Some (Under a r) → stands_at a r.keys o ≡ true
stands-at o a r h = ap (λ (o : Option Place). stands_at a r.keys o) h
    ∙ and_true (nat_eq a a) (are_same_keys r.keys r.keys) (own_eq a) ((part_decides r.keys r.keys).1 refl)

-- a root's place
pub record IsTop (o : Option Place) : Type 0 where
  pub name : List RdnModel
  pub is : o ≡ Some (Root name)

pub top-root : (o : Option Place) → is_root o ≡ true → IsTop o
top-root None h = absurd (cc h)
top-root (Some (Root name)) h = record { name = name; is = refl }
top-root (Some (Under a r)) h = absurd (cc h)

pub top-some : (o : Option Place) → above_in o ≡ None → is_some o ≡ true → IsTop o
top-some None h g = absurd (cc g)
top-some (Some (Root name)) h g = record { name = name; is = refl }
top-some (Some (Under a r)) h g = absurd (cc h)

take-joined : (q : NameKey) (x : NameKey) → take (length q) (q ++ x) ≡ q
take-joined [] x = refl
take-joined (y ∷ q) x = ap (λ (l : NameKey). y ∷ l) (take-joined q x)

pub down-push : (n : Steps) (t : NameKey) (x : List TypeAndKey) (r : ℕ) → down n (t ++ x ∷ []) r ≡ option_and_then
    (λ a. n a x) (down n t r)
down-push n [] x r = by (n r x)
  where
    by : (o : Option ℕ) → option_and_then (down n []) o ≡ o
    by None = refl
    by (Some k) = refl
down-push n (y ∷ t) x r = by (n r y) (down-push n t x)
  where
    by : (o : Option ℕ) → ((r : ℕ) → down n (t ++ x ∷ []) r ≡ option_and_then (λ a. n a x) (down n t r))
        → option_and_then (down n (t ++ x ∷ [])) o ≡ option_and_then (λ a. n a x) (option_and_then (down n t) o)
    by None rest = refl
    by (Some k) rest = rest k

pub number-push : (n : Steps) (s : NameKey) (root : Option ℕ) (q : NameKey) (x : List TypeAndKey) (a : ℕ) →
    number_at n s root q ≡ Some a → number_at n s root (q ++ x ∷ []) ≡ n a x
number-push n s root q x a h = by (begins s q) refl h
  where
    by : (b : Bool) → begins s q ≡ b → cond b (option_and_then (down n (drop (length s) q)) root) None ≡ Some a →
        number_at n s root (q ++ x ∷ []) ≡ n a x
    by false e g = absurd (cc g)
    by true e g =
        let is : q ≡ s ++ drop (length s) q = split s q e in
        let whole : q ++ x ∷ [] ≡ s ++ (drop (length s) q ++ x ∷ []) = ap (λ (l : NameKey). l ++ x ∷ []) is
        ∙ append_assoc s (drop (length s) q) (x ∷ []) in
        let on : begins s (q ++ x ∷ []) ≡ true = ap (begins s) whole ∙ begins-joined s (drop (length s) q ++ x ∷ []) in
        let rest : drop (length s) (q ++ x ∷ []) ≡ drop (length s) q ++ x ∷ [] = ap (drop (length s)) whole
        ∙ behind-joined s (drop (length s) q ++ x ∷ []) in
        ap (λ (b : Bool). cond b (option_and_then (down n (drop (length s) (q ++ x ∷ []))) root) None) on
        ∙ ap (λ (l : NameKey). option_and_then (down n l) root) rest ∙ last root g
      where
        last : (o : Option ℕ) → option_and_then (down n (drop (length s) q)) o ≡ Some a →
            option_and_then (down n (drop (length s) q ++ x ∷ [])) o ≡ n a x
        last None g = absurd (cc g)
        last (Some r) g = down-push n (drop (length s) q) x r ∙ ap (λ (o : Option ℕ). option_and_then (λ a. n a x) o) g

module _ (s : NameKey) (root : Option ℕ) (i : ℕ) (p : Places) (n : Steps) (t : IsHung s root i p n) where
  -- the name of a number, whatever its spelling
  abbrev pub key : ℕ → NameKey
  key k = rdns (name_up i p k)

  pub key-under : (k a : ℕ) (r : RdnModel) → p k ≡ Some (Under a r) → key k ≡ key a ++ r.keys ∷ []
  key-under k a r h = ap rdns (name-under i p t.ends k a r h) ∙ map-append (λ (r : RdnModel). r.keys) (name_up i p a)
      (r ∷ [])

  pub key-top : (k : ℕ) → IsTop (p k) → (key k ≡ s) × (root ≡ Some k)
  key-top k h = let top = t.topped k h.name h.is in (ap rdns (name-root i p t.ends k h.name h.is) ∙ top.1, top.0)

  pub over-begins : (x k : ℕ) → is_over i p x k ≡ true → begins (key x) (key k) ≡ true
  over-begins x = climb i p t.ends (λ k. is_over i p x k ≡ true → begins (key x) (key k) ≡ true) top step
    where
      own : (k : ℕ) → nat_eq x k ≡ true → begins (key x) (key k) ≡ true
      own k h = ap (λ (m : ℕ). begins (key x) (key m)) (sym (same_number x k h)) ∙ begins-own (key x)

      top : (k : ℕ) → above_in (p k) ≡ None → is_over i p x k ≡ true → begins (key x) (key k) ≡ true
      top k e h = own k (sym (over-top i p t.ends x k e) ∙ h)

      step : (k a : ℕ) → above_in (p k) ≡ Some a → (is_over i p x a ≡ true → begins (key x) (key a) ≡ true) →
          is_over i p x k ≡ true → begins (key x) (key k) ≡ true
      step k a e rest h = by (nat_eq x k) refl (sym (over-under i p t.ends x k a e) ∙ h)
        where
          by : (b : Bool) → nat_eq x k ≡ b → (b || is_over i p x a) ≡ true → begins (key x) (key k) ≡ true
          by true f g = own k f
          by false f g =
              let u = under-above (p k) a e in
              ap (begins (key x)) (key-under k a u.rdn u.is) ∙ begins-through (key x) (key a)
              (key a ++ u.rdn.keys ∷ []) (rest g) (begins-joined (key a) (u.rdn.keys ∷ []))

  pub over-long : (x k : ℕ) → is_over i p x k ≡ true → length (key x) ≤ length (key k)
  over-long x k h = begins-long (key x) (key k) (over-begins x k h)

  pub long-under : (k a : ℕ) → above_in (p k) ≡ Some a → length (key k) ≡ length (key a) + 1
  long-under k a h = let u = under-above (p k) a h in ap (λ (q : NameKey). length q) (key-under k a u.rdn u.is)
      ∙ length-append (key a) (u.rdn.keys ∷ [])

  -- nothing stands at or below what is right under it
  pub over-not : (k a : ℕ) → above_in (p k) ≡ Some a → is_over i p k a ≡ false
  over-not k a h = by (is_over i p k a) refl
    where
      by : (b : Bool) → is_over i p k a ≡ b → b ≡ false
      by false e = refl
      by true e = let l : length (key k) ≤ length (key a) = over-long k a e in let m : length (key k) ≡ length (key a)
          + 1 = long-under k a h in absurd (omega arith)

  pub suffix-in : (k : ℕ) → is_some (p k) ≡ true → begins s (key k) ≡ true
  suffix-in = climb i p t.ends (λ k. is_some (p k) ≡ true → begins s (key k) ≡ true) top step
    where
      top : (k : ℕ) → above_in (p k) ≡ None → is_some (p k) ≡ true → begins s (key k) ≡ true
      top k e h = ap (begins s) (key-top k (top-some (p k) e h)).0 ∙ begins-own s

      step : (k a : ℕ) → above_in (p k) ≡ Some a → (is_some (p a) ≡ true → begins s (key a) ≡ true) → is_some (p k) ≡
          true → begins s (key k) ≡ true
      step k a e rest h =
          let u = under-above (p k) a e in
          ap (begins s) (key-under k a u.rdn u.is) ∙ begins-through s (key a) (key a ++ u.rdn.keys ∷ [])
          (rest (t.over k a e)) (begins-joined (key a) (u.rdn.keys ∷ []))

  -- ---- from a name to its number

  down-key : (xs : NameKey) (a k : ℕ) → down n xs a ≡ Some k → key k ≡ key a ++ xs
  down-key [] a k h = let e : a ≡ k = cc h in ap key (sym e) ∙ sym (append-nil (key a))
  down-key (x ∷ xs) a k h = by (n a x) refl h (down-key xs)
    where
      by : (o : Option ℕ) → n a x ≡ o → option_and_then (down n xs) o ≡ Some k → ((a k : ℕ) → down n xs a ≡ Some k →
          key k ≡ key a ++ xs) → key k ≡ key a ++ x ∷ xs
      by None e g rest = absurd (cc g)
      by (Some b) e g rest =
          let u = at-stands (p b) a x (t.led b a x e) in
          rest b k g ∙ ap (λ (q : NameKey). q ++ xs) (key-under b a u.rdn u.is
          ∙ ap (λ (y : List TypeAndKey). key a ++ y ∷ []) u.keys) ∙ append_assoc (key a) (x ∷ []) xs

  down-some : (xs : NameKey) (a k : ℕ) → is_some (p a) ≡ true → down n xs a ≡ Some k → is_some (p k) ≡ true
  down-some [] a k g h = let e : a ≡ k = cc h in ap (λ (m : ℕ). is_some (p m)) (sym e) ∙ g
  down-some (x ∷ xs) a k f h = by (n a x) refl h (down-some xs)
    where
      by : (o : Option ℕ) → n a x ≡ o → option_and_then (down n xs) o ≡ Some k → ((a k : ℕ) → is_some (p a) ≡ true →
          down n xs a ≡ Some k → is_some (p k) ≡ true) → is_some (p k) ≡ true
      by None e g rest = absurd (cc g)
      by (Some b) e g rest = rest b k (ap (λ (o : Option Place). is_some o) (at-stands (p b) a x (t.led b a x e)).is) g

  -- the number that a name leads to has this name
  pub number-key : (q : NameKey) (k : ℕ) → number_at n s root q ≡ Some k → (key k ≡ q) × (is_some (p k) ≡ true)
  number-key q k h = by (begins s q) refl root refl h
    where
      by : (b : Bool) → begins s q ≡ b → (o : Option ℕ) → root ≡ o →
          cond b (option_and_then (down n (drop (length s) q)) o) None ≡ Some k → (key k ≡ q) × (is_some (p k) ≡ true)
      by false e o f g = absurd (cc g)
      by true e None f g = absurd (cc g)
      by true e (Some r) f g =
          let top = top-root (p r) (t.rooted r f) in (
            down-key (drop (length s) q) r k g ∙ ap (λ (m : NameKey). m ++ drop (length s) q) (key-top r top).0
                ∙ sym (split s q e),
            down-some (drop (length s) q) r k (ap (λ (o : Option Place). is_some o) top.is) g,
          )

  -- and the name of an entry leads to its number
  pub key-number : (k : ℕ) → is_some (p k) ≡ true → number_at n s root (key k) ≡ Some k
  key-number = climb i p t.ends (λ k. is_some (p k) ≡ true → number_at n s root (key k) ≡ Some k) top step
    where
      top : (k : ℕ) → above_in (p k) ≡ None → is_some (p k) ≡ true → number_at n s root (key k) ≡ Some k
      top k e h =
          let r = key-top k (top-some (p k) e h) in
          ap (number_at n s root) r.0 ∙ ap (λ (b : Bool). cond b (option_and_then (down n (drop (length s) s)) root)
          None) (begins-own s)
          ∙ ap (λ (l : NameKey). option_and_then (down n l) root) (ap (drop (length s)) (sym (append-nil s))
          ∙ behind-joined s []) ∙ ap (λ (o : Option ℕ). option_and_then (down n []) o) r.1

      step : (k a : ℕ) → above_in (p k) ≡ Some a → (is_some (p a) ≡ true → number_at n s root (key a) ≡ Some a) →
          is_some (p k) ≡ true → number_at n s root (key k) ≡ Some k
      step k a e rest h =
          let u = under-above (p k) a e in
          ap (number_at n s root) (key-under k a u.rdn u.is) ∙ number-push n s root (key a) u.rdn.keys a
          (rest (t.over k a e)) ∙ t.named k a u.rdn.keys (stands-at (p k) a u.rdn u.is)

  -- a name is one entry's
  pub key-one : (j k : ℕ) → is_some (p j) ≡ true → is_some (p k) ≡ true → key j ≡ key k → j ≡ k
  key-one j k h g e = let f : Some j ≡ Some k = sym (key-number j h) ∙ ap (number_at n s root) e
      ∙ key-number k g in cc f

  shorter-root : (x k : ℕ) → is_some (p x) ≡ true → above_in (p k) ≡ None → is_some (p k) ≡ true →
      length (key k) ≤ length (key x)
  shorter-root x k h e g = subst (λ (m : NameKey). length m ≤ length (key x)) (sym (key-top k (top-some (p k) e g)).0)
      (begins-long s (key x) (suffix-in x h))

  -- what begins a longer name begins the name above it
  begins-under : (x k a : ℕ) → above_in (p k) ≡ Some a → begins (key x) (key k) ≡ true →
      length (key x) ≤ length (key a) → begins (key x) (key a) ≡ true
  begins-under x k a e h l =
      let u = under-above (p k) a e in
      sym (ap (begins (key x)) (ap (take (length (key a))) (key-under k a u.rdn u.is)
      ∙ take-joined (key a) (u.rdn.keys ∷ []))) ∙ begins-front (key x) (key k) (length (key a)) l h

  begins-over : (x : ℕ) → is_some (p x) ≡ true → (k : ℕ) → is_some (p k) ≡ true → begins (key x) (key k) ≡ true →
      is_over i p x k ≡ true
  begins-over x some = climb i p t.ends (λ k. is_some (p k) ≡ true → begins (key x) (key k) ≡ true → is_over i p x k ≡
      true) top step
    where
      same : (k : ℕ) → is_some (p k) ≡ true → begins (key x) (key k) ≡ true → length (key k) ≤ length (key x) →
          is_over i p x k ≡ true
      same k h g l =
          let one : x ≡ k = key-one x k some h (begins-all (key x) (key k) g l) in
          ap (is_over i p x) (sym one) ∙ over-own i p t.ends x

      top : (k : ℕ) → above_in (p k) ≡ None → is_some (p k) ≡ true → begins (key x) (key k) ≡ true → is_over i p x k ≡
          true
      top k e h g = same k h g (shorter-root x k some e h)

      step : (k a : ℕ) → above_in (p k) ≡ Some a → (is_some (p a) ≡ true → begins (key x) (key a) ≡ true →
          is_over i p x a ≡ true) → is_some (p k) ≡ true → begins (key x) (key k) ≡ true → is_over i p x k ≡ true
      step k a e rest h g = by (nat_lt (length (key x)) (length (key k))) refl
        where
          by : (b : Bool) → nat_lt (length (key x)) (length (key k)) ≡ b → is_over i p x k ≡ true
          by false f = same k h g (let l : length (key k) ≤ length (key x) = grind (arith, f) in l)
          by true f =
              let lt : length (key x) < length (key k) = grind (arith, f) in
              let m : length (key k) ≡ length (key a) + 1 = long-under k a e in
              let on : is_over i p x a ≡ true = rest (t.over k a e) (begins-under x k a e g (omega arith)) in
              over-under i p t.ends x k a e ∙ ap (λ (b : Bool). nat_eq x k || b) on ∙ or-true (nat_eq x k)
            where
              or-true : (b : Bool) → (b || true) ≡ true
              or-true true = refl
              or-true false = refl

  -- an entry stands at or below another exactly where the other's name begins its name
  pub over-is : (x k : ℕ) → is_some (p x) ≡ true → is_some (p k) ≡ true → begins (key x) (key k) ≡ is_over i p x k
  over-is x k h g = both_ways (begins (key x) (key k)) (is_over i p x k) (begins-over x h k g) (over-begins x k)

  -- and right under it exactly where that is the number above it
  pub child-is : (x k : ℕ) → is_some (p x) ≡ true → is_some (p k) ≡ true → is_child (key x) (key k) ≡ stands_under x
      (p k)
  child-is x k h g = both_ways (is_child (key x) (key k)) (stands_under x (p k)) (there (above_in (p k)) refl) back
    where
      there : (o : Option ℕ) → above_in (p k) ≡ o → is_child (key x) (key k) ≡ true → stands_under x (p k) ≡ true
      there None e f =
          let long = (both (begins (key x) (key k)) (nat_eq (length (key k)) (length (key x) + 1)) f).1 in
          let le : length (key k) ≤ length (key x) = shorter-root x k h e g in
          let eq : length (key k) ≡ length (key x) + 1 = same_number (length (key k)) (length (key x) + 1) long in
          absurd (omega arith)
      there (Some a) e f =
          let b = both (begins (key x) (key k)) (nat_eq (length (key k)) (length (key x) + 1)) f in
          let eq : length (key k) ≡ length (key x) + 1 = same_number (length (key k)) (length (key x) + 1) b.1 in
          let m : length (key k) ≡ length (key a) + 1 = long-under k a e in
          let front : begins (key x) (key a) ≡ true = begins-under x k a e b.0 (omega arith) in
          let one : x ≡ a = key-one x a h (t.over k a e) (begins-all (key x) (key a) front (omega arith)) in
          let u = under-above (p k) a e in
          ap (stands_under x) u.is ∙ ap (λ (y : ℕ). nat_eq x y) (sym one) ∙ own_eq x

      under : (o : Option Place) → stands_under x o ≡ true → IsUnder o x
      under None f = absurd (cc f)
      under (Some (Root name)) f = absurd (cc f)
      under (Some (Under a r)) f = record { rdn = r; is = ap (λ (m : ℕ). Some (Under m r)) (sym (same_number x a f)) }

      back : stands_under x (p k) ≡ true → is_child (key x) (key k) ≡ true
      back f =
          let u = under (p k) f in
          let e : above_in (p k) ≡ Some x = ap (λ (o : Option Place). above_in o) u.is in
          and_true (begins (key x) (key k)) (nat_eq (length (key k)) (length (key x) + 1))
          (ap (begins (key x)) (key-under k x u.rdn u.is) ∙ begins-joined (key x) (u.rdn.keys ∷ []))
          (ap (λ (m : ℕ). nat_eq m (length (key x) + 1)) (long-under k x e) ∙ own_eq (length (key x) + 1))
