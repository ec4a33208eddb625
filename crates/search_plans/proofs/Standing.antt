-- Texts that stand in texts.
use Rattle.std.proofs.Common.{◌≡◌, ℕ, Bool, true, false, ◌&&◌, ◌||◌, List, [], ◌∷◌, ◌++◌, length, take, drop, refl, sym, ap, subst, ◌∙◌, ◌⊎◌, inl, inr, append_assoc}
use Rattle.std.proofs.lemmas.List.{take-append-drop, take_at}
use Rattle.std.proofs.lemmas.Slice.Eq.{bytes_eq-Decides}
use Rattle.std.specs.List.{list_any}
use Rattle.std.specs.Str.{bytes_eq}
use Rattle.ldap_eval.specs.ldap_match.Parts.{is_at_start, tails}
use Rattle.dir_index.specs.Postings.{stands_in}

pub and_parts : (a b : Bool) → (a && b) ≡ true → (a ≡ true) × (b ≡ true)
and_parts true b h = (refl, h)
and_parts false b h = cc

pub and_from : (a b : Bool) → a ≡ true → b ≡ true → (a && b) ≡ true
and_from true b g h = h
and_from false b g h = cc

pub or_parts : (a b : Bool) → (a || b) ≡ true → (a ≡ true) ⊎ (b ≡ true)
or_parts true b h = inl refl
or_parts false b h = inr h

pub or_left : (a b : Bool) → a ≡ true → (a || b) ≡ true
or_left true b h = refl
or_left false b h = cc

pub or_right : (a b : Bool) → b ≡ true → (a || b) ≡ true
or_right true b h = refl
or_right false b h = h

pub same_bytes : (x y : List ℕ) → bytes_eq x y ≡ true → x ≡ y
same_bytes x y h = (bytes_eq-Decides x y).0 h

pub bytes_same : (x y : List ℕ) → x ≡ y → bytes_eq x y ≡ true
bytes_same x y e = (bytes_eq-Decides x y).1 e

-- a text stands in another, between a front and a back
pub record StandsAt (g x : List ℕ) : Type 0 where
  pub front : List ℕ
  pub back : List ℕ
  pub is : x ≡ front ++ (g ++ back)

-- what passes the whole passes some tail
tails_first : (p : List ℕ → Bool) (x : List ℕ) → p x ≡ true → list_any p (tails x) ≡ true
tails_first p [] h = or_left _ _ h
tails_first p (a ∷ x) h = or_left _ _ h

at_start : (g y : List ℕ) → is_at_start g (g ++ y) ≡ true
at_start g y = bytes_same _ _ (take_at g y (length g) refl)

stands_from : (f g b : List ℕ) → stands_in g (f ++ (g ++ b)) ≡ true
stands_from [] g b = tails_first (is_at_start g) (g ++ b) (at_start g b)
stands_from (a ∷ f) g b = or_right _ _ (stands_from f g b)

pub stands_of : (g x : List ℕ) → StandsAt g x → stands_in g x ≡ true
stands_of g x s = subst (λ (y : List ℕ). stands_in g y ≡ true) (sym s.is) (stands_from s.front g s.back)

start_split : (g x : List ℕ) → is_at_start g x ≡ true → x ≡ g ++ drop (length g) x
start_split g x h = sym (take-append-drop (length g) x) ∙ ap (λ (y : List ℕ). y ++ drop (length g) x) (same_bytes _ _ h)

pub stands_at_start : (g x : List ℕ) → is_at_start g x ≡ true → StandsAt g x
stands_at_start g x h = record { front = []; back = drop (length g) x; is = start_split g x h }

stands_later : (g : List ℕ) (a : ℕ) (x : List ℕ) → StandsAt g x → StandsAt g (a ∷ x)
stands_later g a x s = record { front = a ∷ s.front; back = s.back; is = ap (λ (y : List ℕ). a ∷ y) s.is }

pub stands_at : (g x : List ℕ) → stands_in g x ≡ true → StandsAt g x
stands_at g [] h = elim (or_parts _ _ h) [ inl u ↦ stands_at_start g [] u | inr u ↦ let k : false ≡ true = u in cc ]
stands_at g (a ∷ x) h = elim (or_parts _ _ h)
    [ inl u ↦ stands_at_start g (a ∷ x) u | inr u ↦ stands_later g a x (stands_at g x u) ]

pub stands_trans : (g p x : List ℕ) → StandsAt g p → StandsAt p x → StandsAt g x
stands_trans g p x s t = record {
  front = t.front ++ s.front;
  back = s.back ++ t.back;
  is = t.is ∙ ap (λ (y : List ℕ). t.front ++ (y ++ t.back)) s.is ∙ simp append_assoc;
}

pub stands_behind : (g : List ℕ) (n : ℕ) (x : List ℕ) → StandsAt g (drop n x) → StandsAt g x
stands_behind g n x s = record {
  front = take n x ++ s.front;
  back = s.back;
  is = sym (take-append-drop n x) ∙ ap (λ (y : List ℕ). take n x ++ y) s.is
      ∙ sym (append_assoc (take n x) s.front (g ++ s.back));
}

pub stands_in_front : (g : List ℕ) (n : ℕ) (x : List ℕ) → StandsAt g (take n x) → StandsAt g x
stands_in_front g n x s = record {
  front = s.front;
  back = s.back ++ drop n x;
  is = sym (take-append-drop n x) ∙ ap (λ (y : List ℕ). y ++ drop n x) s.is ∙ simp append_assoc;
}
