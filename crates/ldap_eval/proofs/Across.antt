-- What goes type by type against what goes attribute by attribute, or pair by pair.
use Rattle.std.proofs.Common.{ℕ, ◌+◌, ◌<◌, ◌≤◌, List, [], ◌∷◌, ◌++◌, Bool, true, false, cond, ◌≡◌, refl, ap, ap₂, sym, subst, ◌∙◌, map, filter, length, nat_eq, nat_lt, arith}
use Rattle.dir_entry.specs.ldap_schema.Schema.{TypeModel}
use Rattle.dir_entry.specs.ldap_match.Truth.{truth_or, disjunction}
use Rattle.dir_entry.specs.ldap_match.declared.truth.Truth.{Truth}
use Rattle.dir_entry.specs.ldap_match.declared.truth.Truth.TheVariants.{False}
use Rattle.ldap_eval.proofs.Leaves.{same_number, is_number, is_other, less_is_other, more_is_other, is_less, is_not_less}
use Rattle.ldap_eval.proofs.Truths.{or_false, or_swap, or_assoc}

-- the `or` of two rows
pub or_append : {A : Type 0} (f : A → Truth) (xs ys : List A) → disjunction (map f (xs ++ ys)) ≡
    truth_or (disjunction (map f xs)) (disjunction (map f ys))
or_append f [] ys = refl
or_append f (x ∷ xs) ys = ap (truth_or (f x)) (or_append f xs ys)
    ∙ sym (or_assoc (f x) (disjunction (map f xs)) (disjunction (map f ys)))

pub same_map : {A : Type 0} (f g : A → Truth) → ((x : A) → f x ≡ g x) → (xs : List A) → map f xs ≡ map g xs
same_map f g h [] = refl
same_map f g h (x ∷ xs) = ap₂ (λ (y : Truth) (ys : List Truth). y ∷ ys) (h x) (same_map f g h xs)

-- an `or` with one in it, where it is chosen
abbrev pub or_where : Bool → Truth → Truth → Truth
or_where true a b = truth_or a b
or_where false a b = b

module _ {A : Type 0} (kind : A → ℕ) (chosen : ℕ → Bool) (f : ℕ → A → Truth) where
  -- of one type, on one
  abbrev pub on : ℕ → A → Truth
  on i a = cond (nat_eq (kind a) i) (f i a) False

  -- the `or` over the types from a number on
  abbrev pub by_type : List A → List TypeModel → ℕ → Truth
  by_type e [] i = False
  by_type e (x ∷ xs) i = or_where (chosen i) (disjunction (map (on i) e)) (by_type e xs (i + 1))

  -- the same on one
  abbrev pub on_one : A → List TypeModel → ℕ → Truth
  on_one a [] i = False
  on_one a (x ∷ xs) i = or_where (chosen i) (on i a) (on_one a xs (i + 1))

  none_where : (b : Bool) (r : Truth) → r ≡ False → or_where b False r ≡ False
  none_where true r h = h
  none_where false r h = h

  none_by_type : (xs : List TypeModel) (i : ℕ) → by_type [] xs i ≡ False
  none_by_type [] i = refl
  none_by_type (x ∷ xs) i = none_where (chosen i) (by_type [] xs (i + 1)) (none_by_type xs (i + 1))

  split_where : (b : Bool) (here there first rest all : Truth) → all ≡ truth_or first rest →
      or_where b (truth_or here there) all ≡ truth_or (or_where b here first) (or_where b there rest)
  split_where true here there first rest all h = ap (truth_or (truth_or here there)) h ∙ or_swap here there first rest
  split_where false here there first rest all h = h

  one_more : (a : A) (e : List A) (xs : List TypeModel) (i : ℕ) → by_type (a ∷ e) xs i ≡ truth_or (on_one a xs i)
      (by_type e xs i)
  one_more a e [] i = refl
  one_more a e (x ∷ xs) i = split_where (chosen i) (on i a) (disjunction (map (on i) e)) (on_one a xs (i + 1))
      (by_type e xs (i + 1)) (by_type (a ∷ e) xs (i + 1)) (one_more a e xs (i + 1))

  other_kind : (a : A) (i : ℕ) → nat_eq (kind a) i ≡ false → on i a ≡ False
  other_kind a i h = ap (λ (b : Bool). cond b (f i a) False) h

  own_kind : (a : A) (i : ℕ) → kind a ≡ i → on i a ≡ f (kind a) a
  own_kind a i h = subst (λ (j : ℕ). on j a ≡ f (kind a) a) h (ap (λ (b : Bool). cond b (f (kind a) a) False)
      (same_number (kind a)))

  skip_where : (b : Bool) (here rest : Truth) → here ≡ False → or_where b here rest ≡ rest
  skip_where true here rest h = ap (λ (x : Truth). truth_or x rest) h
  skip_where false here rest h = refl

  past_own : (a : A) (xs : List TypeModel) (i : ℕ) → kind a < i → on_one a xs i ≡ False
  past_own a [] i lt = refl
  past_own a (x ∷ xs) i lt = skip_where (chosen i) (on i a) (on_one a xs (i + 1))
      (other_kind a i (less_is_other (kind a) i lt)) ∙ past_own a xs (i + 1) (omega (arith, lt))

  beyond : (a : A) (xs : List TypeModel) (i : ℕ) → i + length xs ≤ kind a → on_one a xs i ≡ False
  beyond a [] i h = refl
  beyond a (x ∷ xs) i h = skip_where (chosen i) (on i a) (on_one a xs (i + 1))
      (other_kind a i (more_is_other (kind a) i (omega (arith, h)))) ∙ beyond a xs (i + 1) (omega (arith, h))

  own_where : (b : Bool) (here rest x : Truth) → here ≡ x → rest ≡ False → or_where b here rest ≡ cond b x False
  own_where true here rest x h k = ap₂ truth_or h k ∙ or_false x
  own_where false here rest x h k = k

  at_or_later : (a : A) (x : TypeModel) (xs : List TypeModel) (i : ℕ) (b : Bool) → nat_eq (kind a) i ≡ b → i ≤ kind a
      → (i + 1 ≤ kind a → on_one a xs (i + 1) ≡ cond (chosen (kind a)) (f (kind a) a) False) → on_one a (x ∷ xs) i ≡
      cond (chosen (kind a)) (f (kind a) a) False
  at_or_later a x xs i true e low further =
      own_where (chosen i) (on i a) (on_one a xs (i + 1)) (f (kind a) a) (own_kind a i (is_number (kind a) i e))
      (past_own a xs (i + 1) (omega (arith, is_number (kind a) i e)))
      ∙ ap (λ (j : ℕ). cond (chosen j) (f (kind a) a) False) (sym (is_number (kind a) i e))
  at_or_later a x xs i false e low further =
      skip_where (chosen i) (on i a) (on_one a xs (i + 1)) (other_kind a i e)
      ∙ further (omega (arith, is_other (kind a) i e, low))

  at_own : (a : A) (xs : List TypeModel) (i : ℕ) → i ≤ kind a → kind a < i + length xs → on_one a xs i ≡
      cond (chosen (kind a)) (f (kind a) a) False
  at_own a [] i low high = absurd (omega (arith, low, high))
  at_own a (x ∷ xs) i low high = at_or_later a x xs i (nat_eq (kind a) i) refl low (λ more. at_own a xs (i + 1) more
      (omega (arith, high)))

  by_range : (a : A) (xs : List TypeModel) → ((k : ℕ) → length xs ≤ k → chosen k ≡ false) → (b : Bool) →
      nat_lt (kind a) (length xs) ≡ b → on_one a xs 0 ≡ cond (chosen (kind a)) (f (kind a) a) False
  by_range a xs out true h = at_own a xs 0 (omega arith) (omega (arith, is_less (kind a) (length xs) h))
  by_range a xs out false h =
      beyond a xs 0 (omega (arith, is_not_less (kind a) (length xs) h))
      ∙ ap (λ (b : Bool). cond b (f (kind a) a) False) (sym (out (kind a) (is_not_less (kind a) (length xs) h)))

  if_chosen : (b : Bool) (a : A) (e : List A) → truth_or (cond b (f (kind a) a) False)
      (disjunction (map (λ y. f (kind y) y) e)) ≡ disjunction (map (λ y. f (kind y) y) (cond b (a ∷ e) e))
  if_chosen true a e = refl
  if_chosen false a e = refl

  -- type by type is one by one, over those whose types are chosen
  pub by_kind : (xs : List TypeModel) (e : List A) → ((k : ℕ) → length xs ≤ k → chosen k ≡ false) → by_type e xs 0 ≡
      disjunction (map (λ a. f (kind a) a) (filter (λ a. chosen (kind a)) e))
  by_kind xs [] out = none_by_type xs 0
  by_kind xs (a ∷ e) out =
      one_more a e xs 0
      ∙ ap₂ truth_or (by_range a xs out (nat_lt (kind a) (length xs)) refl) (by_kind xs e out)
      ∙ if_chosen (chosen (kind a)) a (filter (λ y. chosen (kind y)) e)
