-- A tree in which the entry of one number has come, gone, or gone to another place with all that stands below it.
use Rattle.std.proofs.Common.{◌≡◌, ℕ, zero, suc, ◌+◌, ◌≤◌, Bool, true, false, cond, List, [], ◌∷◌, ◌++◌, ◌||◌, length, drop, append_assoc, append-nil, refl, sym, ap, ◌∙◌, subst, arith, nat_eq, Option, Some, None}
use Rattle.std.specs.Prelude.{◌&&◌, not, is_some}
use Rattle.std.specs.Option.{option_map_or}
use Rattle.std.proofs.lemmas.List.{length-map}
use Rattle.dir_entry.specs.ldap_dn.Names.{RdnModel, rdns, TypeAndKey}
use Rattle.dir_tree.specs.Directory.{NameKey}
use Rattle.dir_tree.specs.declared.place.Place.{Place}
use Rattle.dir_tree.specs.declared.place.Place.TheVariants.{Root}
use Rattle.dir_tree.specs.declared.place.Below.{Below}
use Rattle.dir_tree.specs.Superiors.{Places, name_up, has_number}
use Rattle.dir_tree.specs.private.Superiors.{Steps, above_in, is_root, stands_under, stands_at, ends, is_over, IsHung, IsListed}
use Rattle.dir_tree.specs.private.Changes.{put, is_above, steps_after, child_after, over_after, IsAfter}
use Rattle.dir_tree.proofs.Kept.{own_eq, same_number, turned_eq, apart_eq}
use Rattle.dir_tree.proofs.Ways.{under-above, IsApart, ends-more, ends-apart, over-apart, name-apart, name-enough, over-enough, over-step, over-top, over-under, over-own, name-under, climb}
use Rattle.dir_tree.proofs.Hung.{key, over-long, long-under, over-not}

pub put-own : (p : Places) (k : ℕ) (o : Option Place) → put p k o k ≡ o
put-own p k o = ap (λ (b : Bool). cond b o (p k)) (own_eq k)

pub put-other : (p : Places) (k : ℕ) (o : Option Place) (j : ℕ) → nat_eq j k ≡ false → put p k o j ≡ p j
put-other p k o j h = ap (λ (b : Bool). cond b o (p j)) h

-- what a change of one number's place is
pub record IsChange (s : NameKey) (root root' : Option ℕ) (i i' : ℕ) (p : Places) (k : ℕ) (new : Option Place)
    (n : Steps) : Type 0 where
  pub hung : IsHung s root i p n
  pub bound : i ≤ i'
  pub ends' : (j : ℕ) → ends i' (put p k new) j ≡ true
  pub over : (a : ℕ) → above_in new ≡ Some a → (is_some (p a) ≡ true) × (is_over i p k a ≡ false)
  pub leaf : new ≡ None → (j : ℕ) → above_in (p j) ≡ Some k → ⊥
  pub free : (b : ℕ) (x : List TypeAndKey) (j : ℕ) → stands_at b x new ≡ true → n b x ≡ Some j → j ≡ k
  pub topped : (name : List RdnModel) → new ≡ Some (Root name) → (root' ≡ Some k) × (rdns name ≡ s)
  pub rooted : root' ≡ Some k → is_root new ≡ true
  pub others : (j : ℕ) → nat_eq j k ≡ false → (root ≡ Some j → root' ≡ Some j) × (root' ≡ Some j → root ≡ Some j)

module _ (s : NameKey) (root : Option ℕ) (i : ℕ) (p : Places) (k : ℕ) (new : Option Place) (n : Steps)
    (t : IsHung s root i p n) where
  -- what stays where it was
  pub stays : IsApart (λ j. not (is_over i p k j)) p (put p k new)
  stays = record { same = same; closed = closed }
    where
      off : (b : Bool) → not b ≡ true → b ≡ false
      off true h = absurd (cc h)
      off false h = refl

      same : (j : ℕ) → not (is_over i p k j) ≡ true → put p k new j ≡ p j
      same j h = put-other p k new j (by (nat_eq j k) refl)
        where
          by : (b : Bool) → nat_eq j k ≡ b → b ≡ false
          by false e = refl
          by true e =
              let on : is_over i p k j ≡ true = ap (is_over i p k) (same_number j k e) ∙ over-own i p t.ends k in
              let no' : is_over i p k j ≡ false = off (is_over i p k j) h in
              absurd (cc (on, no'))

      closed : (j a : ℕ) → not (is_over i p k j) ≡ true → above_in (p j) ≡ Some a → not (is_over i p k a) ≡ true
      closed j a h e = ap not (right (nat_eq k j) (is_over i p k a) (sym (over-under i p t.ends k j a e)
          ∙ off (is_over i p k j) h))
        where
          right : (a b : Bool) → (a || b) ≡ false → b ≡ false
          right true b h = absurd (cc h)
          right false b h = h

  -- what stays has a way as before
  pub ends-stays : (i' j : ℕ) → i ≤ i' → is_over i p k j ≡ false → ends i' (put p k new) j ≡ true
  ends-stays i' j l h = ends-apart (λ j. not (is_over i p k j)) p (put p k new) stays i' j (ap not h)
      ∙ ends-more p i i' j l (t.ends j)

  -- a place with nothing above it lengthens no way
  pub ends-topped : above_in new ≡ None → (m j : ℕ) → ends m p j ≡ true → ends m (put p k new) j ≡ true
  ends-topped e zero j h = absurd (cc h)
  ends-topped e (suc m) j h = by (nat_eq j k) (ends-topped e m) h
    where
      by : (b : Bool) → ((j : ℕ) → ends m p j ≡ true → ends m (put p k new) j ≡ true) →
          option_map_or (ends m p) (above_in (p j)) true ≡ true → option_map_or (ends m (put p k new))
          (above_in (cond b new (p j))) true ≡ true
      by true rest g = ap (λ (o : Option ℕ). option_map_or (ends m (put p k new)) o true) e
      by false rest g = either (above_in (p j)) g
        where
          either : (o : Option ℕ) → option_map_or (ends m p) o true ≡ true → option_map_or (ends m (put p k new)) o
              true ≡ true
          either None f = refl
          either (Some a) f = rest a f

  -- a way that comes to k has the way from there before it
  pub ends-moved : (l m j : ℕ) → ends l (put p k new) k ≡ true → ends m p j ≡ true → ends (m + l) (put p k new) j ≡ true
  ends-moved l zero j h g = absurd (cc g)
  ends-moved l (suc m) j h g = subst (λ (w : ℕ). ends w (put p k new) j ≡ true) (let e : suc (m + l) ≡ suc m + l =
      omega arith in e) (by (nat_eq j k) refl (λ a. ends-moved l m a h) g)
    where
      by : (b : Bool) → nat_eq j k ≡ b → ((a : ℕ) → ends m p a ≡ true → ends (m + l) (put p k new) a ≡ true) →
          option_map_or (ends m p) (above_in (p j)) true ≡ true → ends (suc (m + l)) (put p k new) j ≡ true
      by true e rest f = subst (λ (w : ℕ). ends (suc (m + l)) (put p k new) w ≡ true) (sym (same_number j k e))
          (ends-more (put p k new) l (suc (m + l)) k (omega arith) h)
      by false e rest f = ap (λ (o : Option Place). option_map_or (ends (m + l) (put p k new)) (above_in o) true)
          (put-other p k new j e) ∙ either (above_in (p j)) f
        where
          either : (o : Option ℕ) → option_map_or (ends m p) o true ≡ true →
              option_map_or (ends (m + l) (put p k new)) o true ≡ true
          either None v = refl
          either (Some a) v = rest a v

  -- a way through a number that stays
  pub ends-onto : (l a : ℕ) → above_in new ≡ Some a → is_over i p k a ≡ false → ends l p a ≡ true →
      ends (suc l) (put p k new) k ≡ true
  ends-onto l a e h g =
      ap (λ (o : Option Place). option_map_or (ends l (put p k new)) (above_in o) true) (put-own p k new)
      ∙ ap (λ (o : Option ℕ). option_map_or (ends l (put p k new)) o true) e
      ∙ ends-apart (λ j. not (is_over i p k j)) p (put p k new) stays l a (ap not h) ∙ g

  -- nothing but itself is at or below a number that nothing is right under
  pub over-leaf : ((j : ℕ) → above_in (p j) ≡ Some k → ⊥) → (j : ℕ) → is_over i p k j ≡ nat_eq k j
  over-leaf h = climb i p t.ends (λ j. is_over i p k j ≡ nat_eq k j) (λ j e. over-top i p t.ends k j e) step
    where
      or-false : (b : Bool) → (b || false) ≡ b
      or-false true = refl
      or-false false = refl

      step : (j a : ℕ) → above_in (p j) ≡ Some a → is_over i p k a ≡ nat_eq k a → is_over i p k j ≡ nat_eq k j
      step j a e rest =
          over-under i p t.ends k j a e ∙ ap (λ (b : Bool). nat_eq k j || b) (rest
          ∙ apart_eq k a (λ same. h j (e ∙ ap (λ (m : ℕ). Some m) (sym same)))) ∙ or-false (nat_eq k j)

module _ (s : NameKey) (root root' : Option ℕ) (i i' : ℕ) (p : Places) (k : ℕ) (new : Option Place) (n : Steps)
    (c : IsChange s root root' i i' p k new n) where
  ends-old : (j : ℕ) → ends i' p j ≡ true
  ends-old j = ends-more p i i' j c.bound (c.hung.ends j)

  pub over-stays : (x j : ℕ) → is_over i p k j ≡ false → is_over i' (put p k new) x j ≡ is_over i p x j
  over-stays x j h = over-apart (λ j. not (is_over i p k j)) p (put p k new) (stays s root i p k new n c.hung) x i' j
      (ap not h) ∙ over-enough p x i' i j (ends-old j) (c.hung.ends j)

  pub name-stays : (j : ℕ) → is_over i p k j ≡ false → name_up i' (put p k new) j ≡ name_up i p j
  name-stays j h = name-apart (λ j. not (is_over i p k j)) p (put p k new) (stays s root i p k new n c.hung) i' j
      (ap not h) ∙ name-enough p i' i j (ends-old j) (c.hung.ends j)

  or-true : (b : Bool) → (b || true) ≡ true
  or-true true = refl
  or-true false = refl

  -- what is over a number that is over another is over that
  over-through : (x y : ℕ) → is_over i p x y ≡ true → (j : ℕ) → is_over i p y j ≡ true → is_over i p x j ≡ true
  over-through x y h = climb i p c.hung.ends (λ j. is_over i p y j ≡ true → is_over i p x j ≡ true) top step
    where
      own : (j : ℕ) → nat_eq y j ≡ true → is_over i p x j ≡ true
      own j e = ap (is_over i p x) (sym (same_number y j e)) ∙ h

      top : (j : ℕ) → above_in (p j) ≡ None → is_over i p y j ≡ true → is_over i p x j ≡ true
      top j e g = own j (sym (over-top i p c.hung.ends y j e) ∙ g)

      step : (j a : ℕ) → above_in (p j) ≡ Some a → (is_over i p y a ≡ true → is_over i p x a ≡ true) →
          is_over i p y j ≡ true → is_over i p x j ≡ true
      step j a e rest g = by (nat_eq y j) refl (sym (over-under i p c.hung.ends y j a e) ∙ g)
        where
          by : (b : Bool) → nat_eq y j ≡ b → (b || is_over i p y a) ≡ true → is_over i p x j ≡ true
          by true f v = own j f
          by false f v = over-under i p c.hung.ends x j a e ∙ ap (λ (b : Bool). nat_eq x j || b) (rest v)
              ∙ or-true (nat_eq x j)

  -- of what moves, only k itself is over k
  over-k : (x : ℕ) → is_over i p k x ≡ true → is_over i p x k ≡ nat_eq x k
  over-k x h = by (above_in (p k)) refl
    where
      by : (o : Option ℕ) → above_in (p k) ≡ o → is_over i p x k ≡ nat_eq x k
      by None e = over-top i p c.hung.ends x k e
      by (Some a) e = over-under i p c.hung.ends x k a e ∙ rest (is_over i p x a) refl
        where
          or-false : (b : Bool) → (b || false) ≡ b
          or-false true = refl
          or-false false = refl

          rest : (b : Bool) → is_over i p x a ≡ b → (nat_eq x k || b) ≡ nat_eq x k
          rest false f = or-false (nat_eq x k)
          rest true f =
              let l : length (key s root i p n c.hung x) ≤ length (key s root i p n c.hung a) = over-long s root i p n
              c.hung x a f in
              let m : length (key s root i p n c.hung k) ≡ length (key s root i p n c.hung a) + 1 = long-under s root
              i p n c.hung k a e in
              let o : length (key s root i p n c.hung k) ≤ length (key s root i p n c.hung x) = over-long s root i p n
              c.hung k x h in
              absurd (omega arith)

  -- what moves is over neither place
  up-new : (x : ℕ) → is_over i p k x ≡ true → is_above i p x new ≡ false
  up-new x h = by (above_in new) refl
    where
      by : (o : Option ℕ) → above_in new ≡ o → option_map_or (is_over i p x) o false ≡ false
      by None e = refl
      by (Some a) e = rest (is_over i p x a) refl
        where
          rest : (b : Bool) → is_over i p x a ≡ b → b ≡ false
          rest false f = refl
          rest true f = let on : is_over i p k a ≡ true = over-through k x h a f in let off : is_over i p k a ≡
              false = (c.over a e).1 in absurd (cc (on, off))

  up-old : (x : ℕ) → is_over i p k x ≡ true → is_above i p x (p k) ≡ false
  up-old x h = by (above_in (p k)) refl
    where
      by : (o : Option ℕ) → above_in (p k) ≡ o → option_map_or (is_over i p x) o false ≡ false
      by None e = refl
      by (Some a) e = rest (is_over i p x a) refl
        where
          rest : (b : Bool) → is_over i p x a ≡ b → b ≡ false
          rest false f = refl
          rest true f = let on : is_over i p k a ≡ true = over-through k x h a f in let off : is_over i p k a ≡
              false = over-not s root i p n c.hung k a e in absurd (cc (on, off))

  not-own : (x j : ℕ) → is_over i p k x ≡ false → is_over i p k j ≡ true → nat_eq x j ≡ false
  not-own x j h g = apart_eq x j (λ e. let on : is_over i p k x ≡ true = ap (is_over i p k) e ∙ g in cc (on, h))

  -- what is over a number that moves: what moves as before, all else where it is over the place that k has
  over-moved : (x j : ℕ) → is_over i p k j ≡ true → is_over i' (put p k new) x j ≡ cond (is_over i p k x)
      (is_over i p x j) (is_above i p x new)
  over-moved x = climb i p c.hung.ends (λ j. is_over i p k j ≡ true → is_over i' (put p k new) x j ≡
      cond (is_over i p k x) (is_over i p x j) (is_above i p x new)) top step
    where
      upper : (o : Option ℕ) → above_in new ≡ o → option_map_or (is_over i' (put p k new) x) o false ≡ option_map_or
          (is_over i p x) o false
      upper None e = refl
      upper (Some a) e = over-stays x a (c.over a e).1

      at : is_over i' (put p k new) x k ≡ (nat_eq x k || is_above i p x new)
      at =
          over-step i' (put p k new) c.ends' x k
          ∙ ap (λ (o : Option Place). nat_eq x k || option_map_or (is_over i' (put p k new) x) (above_in o) false)
          (put-own p k new)
          ∙ ap (λ (b : Bool). nat_eq x k || b) (upper (above_in new) refl)

      or-false : (b : Bool) → (b || false) ≡ b
      or-false true = refl
      or-false false = refl

      own : is_over i' (put p k new) x k ≡ cond (is_over i p k x) (is_over i p x k) (is_above i p x new)
      own = at ∙ by (is_over i p k x) refl
        where
          by : (b : Bool) → is_over i p k x ≡ b → (nat_eq x k || is_above i p x new) ≡ cond b (is_over i p x k)
              (is_above i p x new)
          by true e = ap (λ (b : Bool). nat_eq x k || b) (up-new x e) ∙ or-false (nat_eq x k) ∙ sym (over-k x e)
          by false e = ap (λ (b : Bool). b || is_above i p x new) (not-own x k e (over-own i p c.hung.ends k))

      at-own : (j : ℕ) → nat_eq k j ≡ true → is_over i' (put p k new) x j ≡ cond (is_over i p k x) (is_over i p x j)
          (is_above i p x new)
      at-own j e = subst (λ (m : ℕ). is_over i' (put p k new) x m ≡ cond (is_over i p k x) (is_over i p x m)
          (is_above i p x new)) (same_number k j e) own

      top : (j : ℕ) → above_in (p j) ≡ None → is_over i p k j ≡ true → is_over i' (put p k new) x j ≡
          cond (is_over i p k x) (is_over i p x j) (is_above i p x new)
      top j e h = at-own j (sym (over-top i p c.hung.ends k j e) ∙ h)

      step : (j a : ℕ) → above_in (p j) ≡ Some a → (is_over i p k a ≡ true → is_over i' (put p k new) x a ≡
          cond (is_over i p k x) (is_over i p x a) (is_above i p x new))
          → is_over i p k j ≡ true → is_over i' (put p k new) x j ≡ cond (is_over i p k x) (is_over i p x j)
          (is_above i p x new)
      step j a e rest h = by (nat_eq k j) refl (sym (over-under i p c.hung.ends k j a e) ∙ h)
        where
          by : (b : Bool) → nat_eq k j ≡ b → (b || is_over i p k a) ≡ true → is_over i' (put p k new) x j ≡
              cond (is_over i p k x) (is_over i p x j) (is_above i p x new)
          by true f g = at-own j f
          by false f g =
              let there : above_in (put p k new j) ≡ Some a = ap (λ (o : Option Place). above_in o)
              (put-other p k new j (turned_eq j k ∙ f)) ∙ e in
              over-under i' (put p k new) c.ends' x j a there ∙ ap (λ (b : Bool). nat_eq x j || b) (rest g)
              ∙ either (is_over i p k x) refl
            where
              either : (b : Bool) → is_over i p k x ≡ b →
                  (nat_eq x j || cond b (is_over i p x a) (is_above i p x new)) ≡ cond b (is_over i p x j)
                  (is_above i p x new)
              either true v = sym (over-under i p c.hung.ends x j a e)
              either false v = ap (λ (b : Bool). b || is_above i p x new) (not-own x j v h)

  -- the same before
  over-moves : (x : ℕ) → is_over i p k x ≡ false → (j : ℕ) → is_over i p k j ≡ true → is_over i p x j ≡ is_above i p x
      (p k)
  over-moves x off = climb i p c.hung.ends (λ j. is_over i p k j ≡ true → is_over i p x j ≡ is_above i p x (p k)) top
      step
    where
      own : (j : ℕ) → nat_eq k j ≡ true → is_over i p x j ≡ is_above i p x (p k)
      own j e =
          ap (is_over i p x) (sym (same_number k j e)) ∙ over-step i p c.hung.ends x k
          ∙ ap (λ (b : Bool). b || option_map_or (is_over i p x) (above_in (p k)) false)
          (not-own x k off (over-own i p c.hung.ends k))

      top : (j : ℕ) → above_in (p j) ≡ None → is_over i p k j ≡ true → is_over i p x j ≡ is_above i p x (p k)
      top j e h = own j (sym (over-top i p c.hung.ends k j e) ∙ h)

      step : (j a : ℕ) → above_in (p j) ≡ Some a → (is_over i p k a ≡ true → is_over i p x a ≡ is_above i p x (p k)) →
          is_over i p k j ≡ true → is_over i p x j ≡ is_above i p x (p k)
      step j a e rest h = by (nat_eq k j) refl (sym (over-under i p c.hung.ends k j a e) ∙ h)
        where
          by : (b : Bool) → nat_eq k j ≡ b → (b || is_over i p k a) ≡ true → is_over i p x j ≡ is_above i p x (p k)
          by true f g = own j f
          by false f g = over-under i p c.hung.ends x j a e ∙ ap (λ (b : Bool). b || is_over i p x a)
              (not-own x j off h) ∙ rest g

  -- the names of what moves begin with the new name in place of the old one
  pub name-moved : (j : ℕ) → is_over i p k j ≡ true → name_up i' (put p k new) j ≡ name_up i' (put p k new) k ++ drop
      (length (name_up i p k)) (name_up i p j)
  name-moved = climb i p c.hung.ends (λ j. is_over i p k j ≡ true → name_up i' (put p k new) j ≡
      name_up i' (put p k new) k ++ drop (length (name_up i p k)) (name_up i p j)) top step
    where
      all-gone : (l : List RdnModel) → drop (length l) l ≡ []
      all-gone [] = refl
      all-gone (x ∷ l) = all-gone l

      own : (j : ℕ) → nat_eq k j ≡ true → name_up i' (put p k new) j ≡ name_up i' (put p k new) k ++ drop
          (length (name_up i p k)) (name_up i p j)
      own j e =
          ap (name_up i' (put p k new)) (sym (same_number k j e)) ∙ sym (append-nil (name_up i' (put p k new) k))
          ∙ ap (λ (l : List RdnModel). name_up i' (put p k new) k ++ l)
          (sym (ap (λ (m : ℕ). drop (length (name_up i p k)) (name_up i p m)) (sym (same_number k j e))
          ∙ all-gone (name_up i p k)))

      top : (j : ℕ) → above_in (p j) ≡ None → is_over i p k j ≡ true → name_up i' (put p k new) j ≡
          name_up i' (put p k new) k ++ drop (length (name_up i p k)) (name_up i p j)
      top j e h = own j (sym (over-top i p c.hung.ends k j e) ∙ h)

      drop-push : (m : ℕ) (l : List RdnModel) (r : RdnModel) → m ≤ length l → drop m (l ++ r ∷ []) ≡ drop m l ++ r ∷ []
      drop-push zero l r h = refl
      drop-push (suc m) [] r h = absurd (omega arith)
      drop-push (suc m) (x ∷ l) r h = drop-push m l r (omega arith)

      step : (j a : ℕ) → above_in (p j) ≡ Some a → (is_over i p k a ≡ true → name_up i' (put p k new) a ≡
          name_up i' (put p k new) k ++ drop (length (name_up i p k)) (name_up i p a))
          → is_over i p k j ≡ true → name_up i' (put p k new) j ≡ name_up i' (put p k new) k ++ drop
          (length (name_up i p k)) (name_up i p j)
      step j a e rest h = by (nat_eq k j) refl (sym (over-under i p c.hung.ends k j a e) ∙ h)
        where
          long : is_over i p k a ≡ true → length (name_up i p k) ≤ length (name_up i p a)
          long g =
              let l : length (rdns (name_up i p k)) ≤ length (rdns (name_up i p a)) = over-long s root i p n c.hung k
              a g in
              let lk : length (rdns (name_up i p k)) ≡ length (name_up i p k) = length-map (name_up i p k)
              (λ (r : RdnModel). r.keys) in
              let la : length (rdns (name_up i p a)) ≡ length (name_up i p a) = length-map (name_up i p a)
              (λ (r : RdnModel). r.keys) in
              omega arith

          by : (b : Bool) → nat_eq k j ≡ b → (b || is_over i p k a) ≡ true → name_up i' (put p k new) j ≡
              name_up i' (put p k new) k ++ drop (length (name_up i p k)) (name_up i p j)
          by true f g = own j f
          by false f g =
              let u = under-above (p j) a e in
              let new_name : List RdnModel = name_up i' (put p k new) k in
              let rest' : List RdnModel = drop (length (name_up i p k)) (name_up i p a) in
              name-under i' (put p k new) c.ends' j a u.rdn (put-other p k new j (turned_eq j k ∙ f) ∙ u.is)
              ∙ ap (λ (l : List RdnModel). l ++ u.rdn ∷ []) (rest g) ∙ append_assoc new_name rest' (u.rdn ∷ [])
              ∙ ap (λ (l : List RdnModel). new_name ++ l)
              (sym (ap (drop (length (name_up i p k))) (name-under i p c.hung.ends j a u.rdn u.is)
              ∙ drop-push (length (name_up i p k)) (name_up i p a) u.rdn (long g)))

  module _ (n' : Steps) (b b' : ℕ → Below) (l : IsListed i p b) (d : IsAfter k (p k) new i p n n' b b') where
    pub listed-after : IsListed i' (put p k new) b'
    listed-after = record { children = λ x j. d.children x j ∙ child x j; within = λ x j. d.within x j ∙ over x j }
      where
        child : (x j : ℕ) → child_after k (p k) new x j (has_number j (b x).children) ≡ stands_under x (put p k new j)
        child x j = by (nat_eq j k) refl
          where
            whole : (u v : Bool) → ((u && true) || (not (v && true) && v)) ≡ u
            whole true v = refl
            whole false true = refl
            whole false false = refl

            none : (u v w : Bool) → ((u && false) || (not (v && false) && w)) ≡ w
            none true true w = refl
            none true false w = refl
            none false true w = refl
            none false false w = refl

            by : (c : Bool) → nat_eq j k ≡ c → ((stands_under x new && c) || (not (stands_under x (p k) && c)
                && has_number j (b x).children)) ≡ stands_under x (cond c new (p j))
            by true e = ap (λ (w : Bool). (stands_under x new && true) || (not (stands_under x (p k) && true) && w))
                (l.children x j ∙ ap (λ (m : ℕ). stands_under x (p m)) (same_number j k e))
                ∙ whole (stands_under x new) (stands_under x (p k))
            by false e = none (stands_under x new) (stands_under x (p k)) (has_number j (b x).children) ∙ l.children x j

        over : (x j : ℕ) → over_after (is_above i p x (p k)) (is_above i p x new) (is_over i p k j)
            (has_number j (b x).within) ≡ is_over i' (put p k new) x j
        over x j = ap (over_after (is_above i p x (p k)) (is_above i p x new) (is_over i p k j)) (l.within x j)
            ∙ by (is_over i p k j) refl
          where
            same : (u v w : Bool) → over_after u v false w ≡ w
            same true true w = refl
            same true false w = refl
            same false true w = refl
            same false false w = refl

            low : (u v w : Bool) → u ≡ false → v ≡ false → over_after u v true w ≡ w
            low true v w e f = absurd (cc e)
            low false true w e f = absurd (cc f)
            low false false w e f = refl

            high : (u v w : Bool) → w ≡ u → over_after u v true w ≡ v
            high true true true e = refl
            high true false true e = refl
            high true v false e = absurd (cc e)
            high false true w e = refl
            high false false true e = absurd (cc e)
            high false false false e = refl

            moved : is_over i p k j ≡ true → (a : Bool) → is_over i p k x ≡ a → over_after (is_above i p x (p k))
                (is_above i p x new) true (is_over i p x j) ≡ cond a (is_over i p x j) (is_above i p x new)
            moved e true f = low (is_above i p x (p k)) (is_above i p x new) (is_over i p x j) (up-old x f) (up-new x f)
            moved e false f = high (is_above i p x (p k)) (is_above i p x new) (is_over i p x j) (over-moves x f j e)

            by : (a : Bool) → is_over i p k j ≡ a → over_after (is_above i p x (p k)) (is_above i p x new) a
                (is_over i p x j) ≡ is_over i' (put p k new) x j
            by false e = same (is_above i p x (p k)) (is_above i p x new) (is_over i p x j) ∙ sym (over-stays x j e)
            by true e = moved e (is_over i p k x) refl ∙ sym (over-moved x j e)

    pub hung-after : IsHung s root' i' (put p k new) n'
    hung-after = record { ends = c.ends'; over = over; topped = topped; rooted = rooted; named = named; led = led }
      where
        some-put : (a : ℕ) → is_some (p a) ≡ true → (nat_eq a k ≡ true → is_some new ≡ true) →
            is_some (put p k new a) ≡ true
        some-put a h g = by (nat_eq a k) refl
          where
            by : (b : Bool) → nat_eq a k ≡ b → is_some (cond b new (p a)) ≡ true
            by true e = g e
            by false e = h

        some-above : (o : Option Place) (a : ℕ) → above_in o ≡ Some a → is_some o ≡ true
        some-above None a h = absurd (cc h)
        some-above (Some x) a h = refl

        over : (j a : ℕ) → above_in (put p k new j) ≡ Some a → is_some (put p k new a) ≡ true
        over j a h = by (nat_eq j k) refl h
          where
            leafy : nat_eq a k ≡ true → above_in (p j) ≡ Some a → (o : Option Place) → new ≡ o → is_some o ≡ true
            leafy e f None g = absurd (c.leaf g j (f ∙ ap (λ (m : ℕ). Some m) (same_number a k e)))
            leafy e f (Some x) g = refl

            by : (b : Bool) → nat_eq j k ≡ b → above_in (cond b new (p j)) ≡ Some a → is_some (put p k new a) ≡ true
            by true e f = some-put a (c.over a f).0 (λ g. some-above new a f)
            by false e f = some-put a (c.hung.over j a f) (λ g. leafy g f new refl)

        topped : (j : ℕ) (name : List RdnModel) → put p k new j ≡ Some (Root name) → (root' ≡ Some j) × (rdns name ≡ s)
        topped j name h = by (nat_eq j k) refl h
          where
            by : (b : Bool) → nat_eq j k ≡ b → cond b new (p j) ≡ Some (Root name) → (root' ≡ Some j) × (rdns name ≡ s)
            by true e f = let t = c.topped name f in (t.0 ∙ ap (λ (m : ℕ). Some m) (sym (same_number j k e)), t.1)
            by false e f = let t = c.hung.topped j name f in ((c.others j e).0 t.0, t.1)

        rooted : (j : ℕ) → root' ≡ Some j → is_root (put p k new j) ≡ true
        rooted j h = by (nat_eq j k) refl
          where
            by : (b : Bool) → nat_eq j k ≡ b → is_root (cond b new (p j)) ≡ true
            by true e = c.rooted (h ∙ ap (λ (m : ℕ). Some m) (same_number j k e))
            by false e = c.hung.rooted j ((c.others j e).1 h)

        named : (j a : ℕ) (x : List TypeAndKey) → stands_at a x (put p k new j) ≡ true → n' a x ≡ Some j
        named j a x h = d.steps a x ∙ by (nat_eq j k) refl h
          where
            first : (b : Bool) → stands_at a x new ≡ b → b ≡ true → nat_eq j k ≡ true →
                cond b (Some k) (cond (stands_at a x (p k)) None (n a x)) ≡ Some j
            first true f g e = ap (λ (m : ℕ). Some m) (sym (same_number j k e))
            first false f g e = absurd (cc g)

            other : nat_eq j k ≡ false → n a x ≡ Some j → (b : Bool) → stands_at a x new ≡ b → (b' : Bool) →
                stands_at a x (p k) ≡ b' → cond b (Some k) (cond b' None (n a x)) ≡ Some j
            other e f true g b' v =
                let same : j ≡ k = c.free a x j g f in
                let on : nat_eq j k ≡ true = ap (λ (m : ℕ). nat_eq m k) same ∙ own_eq k in
                absurd (cc (on, e))
            other e f false g true v =
                let one : Some k ≡ Some j = sym (c.hung.named k a x v) ∙ f in
                let same : k ≡ j = cc one in
                let on : nat_eq j k ≡ true = ap (λ (m : ℕ). nat_eq m k) (sym same) ∙ own_eq k in
                absurd (cc (on, e))
            other e f false g false v = f

            by : (b : Bool) → nat_eq j k ≡ b → stands_at a x (cond b new (p j)) ≡ true → steps_after k (p k) new n a
                x ≡ Some j
            by true e f = first (stands_at a x new) refl f e
            by false e f = other e (c.hung.named j a x f) (stands_at a x new) refl (stands_at a x (p k)) refl

        led : (j a : ℕ) (x : List TypeAndKey) → n' a x ≡ Some j → stands_at a x (put p k new j) ≡ true
        led j a x h = by (stands_at a x new) refl (stands_at a x (p k)) refl (sym (d.steps a x) ∙ h)
          where
            by : (b : Bool) → stands_at a x new ≡ b → (b' : Bool) → stands_at a x (p k) ≡ b' →
                cond b (Some k) (cond b' None (n a x)) ≡ Some j → stands_at a x (put p k new j) ≡ true
            by true e b' f g = let same : k ≡ j = cc g in ap (λ (m : ℕ). stands_at a x (put p k new m)) (sym same)
                ∙ ap (stands_at a x) (put-own p k new) ∙ e
            by false e true f g = absurd (cc g)
            by false e false f g = ap (stands_at a x) (put-other p k new j (apart_eq j k other)) ∙ c.hung.led j a x g
              where
                other : j ≡ k → ⊥
                other same = let on : stands_at a x (p k) ≡ true = ap (λ (m : ℕ). stands_at a x (p m)) (sym same)
                    ∙ c.hung.led j a x g in cc (on, f)
