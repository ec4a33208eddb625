-- Sets of numbers along a way up, as they change one by one.
use Rattle.std.proofs.Common.{◌≡◌, ℕ, suc, Bool, true, false, cond, List, ◌||◌, refl, sym, ap, ◌∙◌, subst, nat_eq, Option, Some, None}
use Rattle.std.specs.Prelude.{◌&&◌, not}
use Rattle.dir_entry.specs.shared_map.Sets.{has_number}
use Rattle.dir_tree.specs.declared.place.Below.{Below}
use Rattle.dir_entry.specs.ldap_dn.Names.{TypeAndKey}
use Rattle.dir_tree.specs.declared.place.Place.{Place}
use Rattle.dir_tree.specs.Superiors.{Places}
use Rattle.dir_tree.specs.private.Superiors.{Steps, above_in, is_over, stands_at, stands_under, IsListed}
use Rattle.dir_tree.specs.private.Changes.{over_any, is_above, over_after, holds, IsJoined, IsParted, IsLinked, IsUnlinked, IsAfter}

-- the sets so far: with what the numbers that are left would add, they have what they are to have
pub record Joining (left whole : ℕ → Bool) (before : ℕ → Below) (except : Option ℕ) (ks : List ℕ) (start now : ℕ →
    Below) : Type 0 where
  pub names : (x : ℕ) → (now x).names ≡ (start x).names
  pub children : (x : ℕ) → (now x).children ≡ (start x).children
  pub within : (x j : ℕ) → ((left x && not (holds before x except) && has_number j ks) || has_number j (now x).within)
      ≡ ((whole x && not (holds before x except) && has_number j ks) || has_number j (start x).within)

pub record Parting (left whole : ℕ → Bool) (before : ℕ → Below) (except : Option ℕ) (ks : List ℕ) (start now : ℕ →
    Below) : Type 0 where
  pub names : (x : ℕ) → (now x).names ≡ (start x).names
  pub children : (x : ℕ) → (now x).children ≡ (start x).children
  pub within : (x j : ℕ) → (not (left x && not (holds before x except) && has_number j ks)
      && has_number j (now x).within) ≡ (not (whole x && not (holds before x except) && has_number j ks)
      && has_number j (start x).within)

-- a step up
pub over-next : (i i' : ℕ) (p : Places) (x a : ℕ) → i ≡ suc i' → is_over i p x a ≡
    (nat_eq x a || over_any i' p x (above_in (p a)))
over-next i i' p x a h = ap (λ (m : ℕ). is_over m p x a) h

pub none-left : (p : Places) (i x : ℕ) (o : Option ℕ) → i ≡ 0 → over_any i p x o ≡ false
none-left p i x o h = ap (λ (m : ℕ). over_any m p x o) h ∙ by o
  where
    by : (o : Option ℕ) → over_any 0 p x o ≡ false
    by None = refl
    by (Some a) = refl

module _ (before : ℕ → Below) (except : Option ℕ) (ks : List ℕ) where
  pub joining-start : (whole : ℕ → Bool) (start : ℕ → Below) → Joining whole whole before except ks start start
  joining-start whole start = record { names = λ x. refl; children = λ x. refl; within = λ x j. refl }

  pub joining-next : (left left' whole : ℕ → Bool) (start now next : ℕ → Below) (a : ℕ) → Joining left whole before
      except ks start now → IsJoined (λ x. nat_eq x a) before except ks now next
      → ((x : ℕ) → left x ≡ (nat_eq x a || left' x)) → Joining left' whole before except ks start next
  joining-next left left' whole start now next a t d h = record {
    names = λ x. d.names x ∙ t.names x;
    children = λ x.
        d.children x ∙ t.children x;
    within = λ x j. within x j;
  }
    where
      by : (a b c d w : Bool) → ((b && c && d) || ((a && c && d) || w)) ≡ (((a || b) && c && d) || w)
      by true true true true w = refl
      by true true true false w = refl
      by true true false d w = refl
      by true false true true w = refl
      by true false true false w = refl
      by true false false d w = refl
      by false true true true w = refl
      by false true true false w = refl
      by false true false d w = refl
      by false false c d w = refl

      within : (x j : ℕ) → ((left' x && not (holds before x except) && has_number j ks) || has_number j
          (next x).within) ≡ ((whole x && not (holds before x except) && has_number j ks) || has_number j
          (start x).within)
      within x j =
          ap (λ (b : Bool). (left' x && not (holds before x except) && has_number j ks) || b) (d.within x j)
          ∙ by (nat_eq x a) (left' x) (not (holds before x except)) (has_number j ks) (has_number j (now x).within)
          ∙ ap (λ (b : Bool). (b && not (holds before x except) && has_number j ks) || has_number j (now x).within)
          (sym (h x)) ∙ t.within x j

  pub joining-end : (left whole : ℕ → Bool) (start now : ℕ → Below) → Joining left whole before except ks start now →
      ((x : ℕ) → left x ≡ false) → IsJoined whole before except ks start now
  joining-end left whole start now t h = record {
    names = t.names;
    children = t.children;
    within = λ x j.
        sym (ap (λ (b : Bool). (b && not (holds before x except) && has_number j ks) || has_number j (now x).within)
        (h x)) ∙ t.within x j;
  }

  pub parting-start : (whole : ℕ → Bool) (start : ℕ → Below) → Parting whole whole before except ks start start
  parting-start whole start = record { names = λ x. refl; children = λ x. refl; within = λ x j. refl }

  pub parting-next : (left left' whole : ℕ → Bool) (start now next : ℕ → Below) (a : ℕ) → Parting left whole before
      except ks start now → IsParted (λ x. nat_eq x a) before except ks now next
      → ((x : ℕ) → left x ≡ (nat_eq x a || left' x)) → Parting left' whole before except ks start next
  parting-next left left' whole start now next a t d h = record {
    names = λ x. d.names x ∙ t.names x;
    children = λ x.
        d.children x ∙ t.children x;
    within = λ x j. within x j;
  }
    where
      by : (a b c d w : Bool) → (not (b && c && d) && (not (a && c && d) && w)) ≡ (not ((a || b) && c && d) && w)
      by true true true true w = refl
      by true true true false w = refl
      by true true false d w = refl
      by true false true true w = refl
      by true false true false w = refl
      by true false false d w = refl
      by false true true true w = refl
      by false true true false w = refl
      by false true false d w = refl
      by false false c d w = refl

      within : (x j : ℕ) → (not (left' x && not (holds before x except) && has_number j ks)
          && has_number j (next x).within) ≡ (not (whole x && not (holds before x except) && has_number j ks)
          && has_number j (start x).within)
      within x j =
          ap (λ (b : Bool). not (left' x && not (holds before x except) && has_number j ks) && b) (d.within x j)
          ∙ by (nat_eq x a) (left' x) (not (holds before x except)) (has_number j ks) (has_number j (now x).within)
          ∙ ap (λ (b : Bool). not (b && not (holds before x except) && has_number j ks)
          && has_number j (now x).within) (sym (h x)) ∙ t.within x j

  pub parting-end : (left whole : ℕ → Bool) (start now : ℕ → Below) → Parting left whole before except ks start now →
      ((x : ℕ) → left x ≡ false) → IsParted whole before except ks start now
  parting-end left whole start now t h = record {
    names = t.names;
    children = t.children;
    within = λ x j.
        sym (ap (λ (b : Bool). not (b && not (holds before x except) && has_number j ks) && has_number j (now x).within)
        (h x)) ∙ t.within x j;
  }

-- what a set holds is what it is over
pub holds-is : (i : ℕ) (p : Places) (b : ℕ → Below) → IsListed i p b → (x : ℕ) (o : Option ℕ) → holds b x o ≡
    over_any i p x o
holds-is i p b l x None = refl
holds-is i p b l x (Some k) = l.within x k

-- from one place to another: the old steps go, the new ones come, and so do the sets along the two ways up
pub moved_after : (k : ℕ) (old new : Option Place) (i : ℕ) (p : Places) (b b1 b2 b3 b4 : ℕ → Below)
    (n n1 n2 n4 : Steps) (up up' : Option ℕ) (ks : List ℕ) → IsListed i p b
    → up ≡ above_in old → up' ≡ above_in new → ks ≡ (b k).within → IsUnlinked k old n n1 b b1 →
    IsLinked k new n1 n2 b1 b2
    → IsParted (λ x. over_any i p x up) b up' ks b2 b3 → IsJoined (λ x. over_any i p x up') b up ks b3 b4 →
    ((a : ℕ) (x : List TypeAndKey) → (b4 a).names ≡ (b2 a).names → n4 a x ≡ n2 a x)
    → IsAfter k old new i p n n4 b b4
moved_after k old new i p b b1 b2 b3 b4 n n1 n2 n4 up up' ks l e e' f u v w y same = record {
  steps = λ a x. same a x (y.names a ∙ w.names a) ∙ v.steps a x
      ∙ ap (λ (o : Option ℕ). cond (stands_at a x new) (Some k) o) (u.steps a x);
  children = λ a j. ap (has_number j) (y.children a ∙ w.children a) ∙ v.children a j
      ∙ ap (λ (c : Bool). (stands_under a new && nat_eq j k) || c) (u.children a j);
  within = λ a j. within a j;
}
  where
    within : (a j : ℕ) → has_number j (b4 a).within ≡ over_after (is_above i p a old) (is_above i p a new)
        (is_over i p k j) (has_number j (b a).within)
    within a j =
        y.within a j ∙ ap (λ (c : Bool). (over_any i p a up' && not (holds b a up) && has_number j ks) || c)
        (w.within a j)
        ∙ ap (λ (s : List ℕ). (over_any i p a up' && not (holds b a up) && has_number j ks) ||
        (not (over_any i p a up && not (holds b a up') && has_number j ks) && has_number j s)) (v.within a
        ∙ u.within a)
        ∙ ap (λ (c : Bool). (over_any i p a up' && not c && has_number j ks) ||
        (not (over_any i p a up && not (holds b a up') && has_number j ks) && has_number j (b a).within))
        (holds-is i p b l a up)
        ∙ ap (λ (c : Bool). (over_any i p a up' && not (over_any i p a up) && has_number j ks) ||
        (not (over_any i p a up && not c && has_number j ks) && has_number j (b a).within)) (holds-is i p b l a up')
        ∙ ap (λ (c : Bool). (over_any i p a up' && not (over_any i p a up) && c) ||
        (not (over_any i p a up && not (over_any i p a up') && c) && has_number j (b a).within))
        (ap (has_number j) f ∙ l.within k j)
        ∙ ap (λ (o : Option ℕ). over_after (over_any i p a o) (over_any i p a up') (is_over i p k j)
        (has_number j (b a).within)) e
        ∙ ap (λ (o : Option ℕ). over_after (is_above i p a old) (over_any i p a o) (is_over i p k j)
        (has_number j (b a).within)) e'

-- from no place to one, where nothing was kept of the number
pub new_after : (k : ℕ) (new : Option Place) (i : ℕ) (p : Places) (b b2 b4 before : ℕ → Below) (n n2 n4 : Steps)
    (up : Option ℕ) (ks : List ℕ) → IsListed i p b
    → p k ≡ None → up ≡ above_in new → ks ≡ (b k).within → IsLinked k new n n2 b b2
    → IsJoined (λ x. over_any i p x up) before None ks b2 b4 → ((a : ℕ) (x : List TypeAndKey) → (b4 a).names ≡
    (b2 a).names → n4 a x ≡ n2 a x)
    → IsAfter k (p k) new i p n n4 b b4
new_after k new i p b b2 b4 before n n2 n4 up ks l absent e f v y same =
    let none : Option ℕ = None in
    subst (λ (o : Option Place). IsAfter k o new i p n n4 b b4) (sym absent)
    (moved_after k None new i p b b b2 b2 b4 n n n2 n4 none up ks l refl e f
    (record { steps = λ a x. refl; children = λ a j. refl; within = λ a. refl }) v
    (record { names = λ x. refl; children = λ x. refl; within = λ x j. refl })
    (record { names = y.names; children = y.children; within = y.within }) same)

-- from a place to none
pub left_after : (k : ℕ) (old : Option Place) (i : ℕ) (p : Places) (b b1 b2 : ℕ → Below) (n n1 n2 : Steps)
    (up : Option ℕ) (ks : List ℕ) → IsListed i p b
    → up ≡ above_in old → ks ≡ (b k).within → IsUnlinked k old n n1 b b1 → IsParted (λ x. over_any i p x up) b None ks
    b1 b2 → ((a : ℕ) (x : List TypeAndKey) → (b2 a).names ≡ (b1 a).names → n2 a x ≡ n1 a x)
    → IsAfter k old None i p n n2 b b2
left_after k old i p b b1 b2 n n1 n2 up ks l e f u w same = record {
  steps = λ a x. same a x (w.names a) ∙ u.steps a x;
  children = λ a j. ap (has_number j) (w.children a) ∙ u.children a j;
  within = λ a j. within a j;
}
  where
    within : (a j : ℕ) → has_number j (b2 a).within ≡ over_after (is_above i p a old) false (is_over i p k j)
        (has_number j (b a).within)
    within a j =
        w.within a j ∙ ap (λ (s : List ℕ). not (over_any i p a up && true && has_number j ks) && has_number j s)
        (u.within a)
        ∙ ap (λ (c : Bool). not (over_any i p a up && true && c) && has_number j (b a).within) (ap (has_number j) f
        ∙ l.within k j)
        ∙ ap (λ (o : Option ℕ). not (over_any i p a o && true && is_over i p k j) && has_number j (b a).within) e
