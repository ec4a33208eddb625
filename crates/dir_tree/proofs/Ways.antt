-- Ways up from an entry to the root.
use Rattle.std.proofs.Common.{◌≡◌, ℕ, zero, suc, ◌≤◌, Bool, true, false, List, [], ◌∷◌, ◌++◌, ◌||◌, refl, ap, ◌∙◌, arith, nat_eq, Option, Some, None}
use Rattle.std.specs.Option.{option_map_or}
use Rattle.dir_entry.specs.ldap_dn.Names.{RdnModel}
use Rattle.dir_tree.specs.declared.place.Place.{Place}
use Rattle.dir_tree.specs.declared.place.Place.TheVariants.{Root, Under}
use Rattle.dir_tree.specs.Superiors.{Places, name_in, name_up}
use Rattle.dir_tree.specs.private.Superiors.{above_in, ends, is_over}
use Rattle.dir_tree.proofs.Kept.{own_eq}

-- a place with a number above it
pub record IsUnder (o : Option Place) (a : ℕ) : Type 0 where
  pub rdn : RdnModel
  pub is : o ≡ Some (Under a rdn)

pub under-above : (o : Option Place) (a : ℕ) → above_in o ≡ Some a → IsUnder o a
under-above None a h = absurd (cc h)
under-above (Some (Root name)) a h = absurd (cc h)
under-above (Some (Under b rdn)) a h = record {
  rdn = rdn;
  is = let e : b ≡ a =
      cc h in ap (λ (n : ℕ). Some (Under n rdn)) e;
}

pub under-one : (b a : ℕ) (s r : RdnModel) → Some (Under b s) ≡ Some (Under a r) → (b ≡ a) × (s ≡ r)
under-one b a s r h = (cc h, cc h)

-- ---- enough steps

pub name-enough : (p : Places) (i j k : ℕ) → ends i p k ≡ true → ends j p k ≡ true → name_up i p k ≡ name_up j p k
name-enough p zero j k h g = absurd (cc h)
name-enough p (suc i) zero k h g = absurd (cc g)
name-enough p (suc i) (suc j) k h g = by (p k) (λ a. name-enough p i j a) h g
  where
    by : (o : Option Place) → ((a : ℕ) → ends i p a ≡ true → ends j p a ≡ true → name_up i p a ≡ name_up j p a)
        → option_map_or (ends i p) (above_in o) true ≡ true → option_map_or (ends j p) (above_in o) true ≡ true →
        name_in (name_up i p) o ≡ name_in (name_up j p) o
    by None rest h g = refl
    by (Some (Root name)) rest h g = refl
    by (Some (Under a r)) rest h g = ap (λ (l : List RdnModel). l ++ r ∷ []) (rest a h g)

pub over-enough : (p : Places) (x i j k : ℕ) → ends i p k ≡ true → ends j p k ≡ true → is_over i p x k ≡ is_over j p x k
over-enough p x zero j k h g = absurd (cc h)
over-enough p x (suc i) zero k h g = absurd (cc g)
over-enough p x (suc i) (suc j) k h g = by (above_in (p k)) (λ a. over-enough p x i j a) h g
  where
    by : (o : Option ℕ) → ((a : ℕ) → ends i p a ≡ true → ends j p a ≡ true → is_over i p x a ≡ is_over j p x a)
        → option_map_or (ends i p) o true ≡ true → option_map_or (ends j p) o true ≡ true
        → (nat_eq x k || option_map_or (is_over i p x) o false) ≡ (nat_eq x k || option_map_or (is_over j p x) o false)
    by None rest h g = refl
    by (Some a) rest h g = ap (λ (b : Bool). nat_eq x k || b) (rest a h g)

pub ends-more : (p : Places) (i j k : ℕ) → i ≤ j → ends i p k ≡ true → ends j p k ≡ true
ends-more p zero j k l h = absurd (cc h)
ends-more p (suc i) zero k l h = absurd (omega arith)
ends-more p (suc i) (suc j) k l h = by (above_in (p k)) (λ a. ends-more p i j a (omega arith)) h
  where
    by : (o : Option ℕ) → ((a : ℕ) → ends i p a ≡ true → ends j p a ≡ true) → option_map_or (ends i p) o true ≡ true →
        option_map_or (ends j p) o true ≡ true
    by None rest h = refl
    by (Some a) rest h = rest a h

-- ---- ways that a change leaves alone

pub record IsApart (q : ℕ → Bool) (p p' : Places) : Type 0 where
  pub same : (j : ℕ) → q j ≡ true → p' j ≡ p j
  pub closed : (j a : ℕ) → q j ≡ true → above_in (p j) ≡ Some a → q a ≡ true

module _ (q : ℕ → Bool) (p p' : Places) (t : IsApart q p p') where
  pub ends-apart : (i j : ℕ) → q j ≡ true → ends i p' j ≡ ends i p j
  ends-apart zero j h = refl
  ends-apart (suc i) j h = ap (λ (o : Option Place). option_map_or (ends i p') (above_in o) true) (t.same j h)
      ∙ by (above_in (p j)) refl (ends-apart i)
    where
      by : (o : Option ℕ) → above_in (p j) ≡ o → ((a : ℕ) → q a ≡ true → ends i p' a ≡ ends i p a) →
          option_map_or (ends i p') o true ≡ option_map_or (ends i p) o true
      by None e rest = refl
      by (Some a) e rest = rest a (t.closed j a h e)

  pub over-apart : (x i j : ℕ) → q j ≡ true → is_over i p' x j ≡ is_over i p x j
  over-apart x zero j h = refl
  over-apart x (suc i) j h = ap (λ (o : Option Place). nat_eq x j || option_map_or (is_over i p' x) (above_in o)
      false) (t.same j h) ∙ by (above_in (p j)) refl (over-apart x i)
    where
      by : (o : Option ℕ) → above_in (p j) ≡ o → ((a : ℕ) → q a ≡ true → is_over i p' x a ≡ is_over i p x a)
          → (nat_eq x j || option_map_or (is_over i p' x) o false) ≡ (nat_eq x j || option_map_or (is_over i p x) o
          false)
      by None e rest = refl
      by (Some a) e rest = ap (λ (b : Bool). nat_eq x j || b) (rest a (t.closed j a h e))

  pub name-apart : (i j : ℕ) → q j ≡ true → name_up i p' j ≡ name_up i p j
  name-apart zero j h = refl
  name-apart (suc i) j h = ap (λ (o : Option Place). name_in (name_up i p') o) (t.same j h)
      ∙ by (p j) refl (name-apart i)
    where
      by : (o : Option Place) → p j ≡ o → ((a : ℕ) → q a ≡ true → name_up i p' a ≡ name_up i p a) →
          name_in (name_up i p') o ≡ name_in (name_up i p) o
      by None e rest = refl
      by (Some (Root n)) e rest = refl
      by (Some (Under a r)) e rest = ap (λ (l : List RdnModel). l ++ r ∷ [])
          (rest a (t.closed j a h (ap (λ (o : Option Place). above_in o) e)))

-- ---- where each way ends within i steps, a bound is no matter

module _ (i : ℕ) (p : Places) (all : (k : ℕ) → ends i p k ≡ true) where
  pub over-step : (x k : ℕ) → is_over i p x k ≡ (nat_eq x k || option_map_or (is_over i p x) (above_in (p k)) false)
  over-step x k = over-enough p x i (suc i) k (all k) (ends-more p i (suc i) k (omega arith) (all k))

  pub name-step : (k : ℕ) → name_up i p k ≡ name_in (name_up i p) (p k)
  name-step k = name-enough p i (suc i) k (all k) (ends-more p i (suc i) k (omega arith) (all k))

  pub over-top : (x k : ℕ) → above_in (p k) ≡ None → is_over i p x k ≡ nat_eq x k
  over-top x k h = over-step x k ∙ ap (λ (o : Option ℕ). nat_eq x k || option_map_or (is_over i p x) o false) h
      ∙ or-false (nat_eq x k)
    where
      or-false : (b : Bool) → (b || false) ≡ b
      or-false true = refl
      or-false false = refl

  pub over-under : (x k a : ℕ) → above_in (p k) ≡ Some a → is_over i p x k ≡ (nat_eq x k || is_over i p x a)
  over-under x k a h = over-step x k ∙ ap (λ (o : Option ℕ). nat_eq x k || option_map_or (is_over i p x) o false) h

  pub name-under : (k a : ℕ) (r : RdnModel) → p k ≡ Some (Under a r) → name_up i p k ≡ name_up i p a ++ r ∷ []
  name-under k a r h = name-step k ∙ ap (λ (o : Option Place). name_in (name_up i p) o) h

  pub name-root : (k : ℕ) (n : List RdnModel) → p k ≡ Some (Root n) → name_up i p k ≡ n
  name-root k n h = name-step k ∙ ap (λ (o : Option Place). name_in (name_up i p) o) h

  pub over-own : (k : ℕ) → is_over i p k k ≡ true
  over-own k = over-step k k ∙ ap (λ (b : Bool). b || option_map_or (is_over i p k) (above_in (p k)) false) (own_eq k)

  -- what holds of the first number of each way, and of a number where it holds of the one above, holds of all
  pub climb : (C : ℕ → Type 0) → ((k : ℕ) → above_in (p k) ≡ None → C k) → ((k a : ℕ) → above_in (p k) ≡ Some a →
      C a → C k) → (k : ℕ) → C k
  climb C top step k = go i k (all k)
    where
      go : (j k : ℕ) → ends j p k ≡ true → C k
      go zero k h = absurd (cc h)
      go (suc j) k h = by (above_in (p k)) refl h (go j)
        where
          by : (o : Option ℕ) → above_in (p k) ≡ o → option_map_or (ends j p) o true ≡ true →
              ((k : ℕ) → ends j p k ≡ true → C k) → C k
          by None e f rest = top k e
          by (Some a) e f rest = step k a e (rest a f)
