-- What a table of what is in effect tells of types is so, and where it tells nothing new it has all.
use Rattle.std.proofs.Common.{ℕ, ◌<◌, ◌≤◌, zero, suc, List, [], ◌∷◌, Option, None, Some, ◌≡◌, ◌⊎◌, inl, inr, refl, ap, sym, ◌∙◌, length, set, slice_get, arith}
use Rattle.std.proofs.Math.ListN.{length-set}
use Rattle.std.proofs.lemmas.Option.{slice_get_past}
use Rattle.std.proofs.lemmas.Bool.{cases_lt}
use Rattle.schema_text.specs.Descriptions.{DescriptionModel}
use Rattle.schema_meaning.specs.declared.inheriting.Way.{Way}
use Rattle.schema_meaning.specs.declared.inheriting.Way.TheVariants.{Ends, IsLost, GoesTo}
use Rattle.schema_meaning.specs.declared.inheriting.Effect.{Effect}
use Rattle.schema_meaning.specs.Inheriting.{way_from, way_of, own_at}
use Rattle.schema_meaning.specs.private.Settling.{settled, settled_under, settled_within, gone_on, effect_at, effect_in, effect_by, new_if, new_effect, Knows, HasAll}
use Rattle.schema_meaning.proofs.Settling.{settled_is, settled_step, not_above, none_some, under_later as under_told}

told_by : (types : List DescriptionModel) (table : List (Option Effect)) (t : ℕ) (w : Way) (e : Effect) →
    Knows types table → gone_on types t w (effect_at table) ≡ Some e → gone_on types t w (settled types) ≡ Some e
told_by types table t Ends e k h = h
told_by types table t IsLost e k h = absurd (none_some h)
told_by types table t (GoesTo u) e k h = under_told types t (effect_at table u) (settled types u) e (k.right u) h

pub told : (types : List DescriptionModel) (table : List (Option Effect)) (t : ℕ) (e : Effect) → Knows types table →
    effect_by types table t ≡ Some e → settled types t ≡ Some e
told types table t e k h = settled_step types t ∙ told_by types table t (way_from types t) e k h

-- one more type that is noted
set_at : (os : List (Option Effect)) (i t : ℕ) (o : Option Effect) → (slice_get (set os i o) t ≡ slice_get os t)
    ⊎ ((t ≡ i) × (slice_get (set os i o) t ≡ Some o))
set_at [] i t o = inl refl
set_at (x ∷ os) zero zero o = inr (refl, refl)
set_at (x ∷ os) zero (suc t) o = inl refl
set_at (x ∷ os) (suc i) zero o = inl refl
set_at (x ∷ os) (suc i) (suc t) o = later (set_at os i t o)
  where
    later : (slice_get (set os i o) t ≡ slice_get os t) ⊎ ((t ≡ i) × (slice_get (set os i o) t ≡ Some o)) →
        (slice_get (set os i o) t ≡ slice_get os t) ⊎ ((suc t ≡ suc i) × (slice_get (set os i o) t ≡ Some o))
    later (inl e) = inl e
    later (inr p) = inr (ap suc p.0, p.1)

right_by : (types : List DescriptionModel) (table : List (Option Effect)) (i t : ℕ) (o : Option Effect) (e : Effect) →
    Knows types table → ((d : Effect) → o ≡ Some d → settled types i ≡ Some d)
    → (slice_get (set table i o) t ≡ slice_get table t) ⊎ ((t ≡ i) × (slice_get (set table i o) t ≡ Some o)) →
    effect_at (set table i o) t ≡ Some e → settled types t ≡ Some e
right_by types table i t o e k h (inl s) f = k.right t e (sym (ap effect_in s) ∙ f)
right_by types table i t o e k h (inr s) f = ap (settled types) s.0 ∙ h e (sym (ap effect_in s.1) ∙ f)

pub knows_more : (types : List DescriptionModel) (table : List (Option Effect)) (i : ℕ) (o : Option Effect) →
    Knows types table → ((d : Effect) → o ≡ Some d → settled types i ≡ Some d) → Knows types (set table i o)
knows_more types table i o k h = record {
  count = length-set table i o ∙ k.count;
  right = λ t e f. right_by types table i t o e k h (set_at table i t o) f;
}

pub knows_told : (types : List DescriptionModel) (table : List (Option Effect)) (i : ℕ) (o : Option Effect) →
    Knows types table → o ≡ effect_by types table i → Knows types (set table i o)
knows_told types table i o k h = knows_more types table i o k (λ d e. told types table i d k (sym h ∙ e))

-- what is new
new_none : (o p : Option Effect) (e : Effect) → new_if o p ≡ Some e → o ≡ None
new_none None p e h = refl
new_none (Some d) p e h = absurd (none_some h)

new_some : (o p : Option Effect) (e : Effect) → new_if o p ≡ Some e → p ≡ Some e
new_some None p e h = h
new_some (Some d) p e h = absurd (none_some h)

pub knows_news : (types : List DescriptionModel) (table : List (Option Effect)) (i : ℕ) (e : Effect) →
    Knows types table → new_effect types table i ≡ Some e → Knows types (set table i (Some e))
knows_news types table i e k h = knows_told types table i (Some e) k
    (sym (new_some (effect_at table i) (effect_by types table i) e h))

-- how many types a table has nothing for
abbrev pub lack : Option Effect → ℕ → ℕ
lack None n = suc n
lack (Some e) n = n

abbrev pub lacking : List (Option Effect) → ℕ
lacking [] = zero
lacking (o ∷ os) = lack o (lacking os)

fewer_first : (o : Option Effect) (n : ℕ) → o ≡ None → n < lack o n
fewer_first None n h = omega arith
fewer_first (Some e) n h = absurd (none_some (sym h))

fewer_later : (o : Option Effect) (m n : ℕ) → m < n → lack o m < lack o n
fewer_later None m n h = omega (arith, h)
fewer_later (Some e) m n h = h

fewer_at : (os : List (Option Effect)) (i : ℕ) (e : Effect) → i < length os → effect_at os i ≡ None →
    lacking (set os i (Some e)) < lacking os
fewer_at [] i e lt h = absurd (omega (arith, lt))
fewer_at (o ∷ os) zero e lt h = fewer_first o (lacking os) h
fewer_at (o ∷ os) (suc i) e lt h = fewer_later o (lacking (set os i (Some e))) (lacking os)
    (fewer_at os i e (omega (arith, lt)) h)

pub fewer : (types : List DescriptionModel) (table : List (Option Effect)) (i : ℕ) (e : Effect) → i < length table →
    new_effect types table i ≡ Some e → lacking (set table i (Some e)) < lacking table
fewer types table i e lt h = fewer_at table i e lt (new_none (effect_at table i) (effect_by types table i) e h)

-- a table that tells nothing new has all
closed_in : (types : List DescriptionModel) (table : List (Option Effect)) (t : ℕ) (o : Option Effect) →
    new_if o (effect_by types table t) ≡ None → o ≡ None → effect_by types table t ≡ None
closed_in types table t None n h = n
closed_in types table t (Some e) n h = absurd (none_some (sym h))

behind : (types : List DescriptionModel) (table : List (Option Effect)) (t : ℕ) → length types ≤ t →
    effect_by types table t ≡ None
behind types table t le = ap (λ (o : Option DescriptionModel). gone_on types t (way_of types o) (effect_at table))
    (slice_get_past types t le)

closed_by : (types : List DescriptionModel) (table : List (Option Effect)) (t : ℕ) → length table ≡ length types →
    ((u : ℕ) → u < length table → new_effect types table u ≡ None)
    → (t < length types) ⊎ (length types ≤ t) → effect_at table t ≡ None → effect_by types table t ≡ None
closed_by types table t c n (inl lt) h = closed_in types table t (effect_at table t) (n t (omega (arith, lt, c))) h
closed_by types table t c n (inr le) h = behind types table t le

none_by : (types : List DescriptionModel) (table : List (Option Effect)) (k t : ℕ) (w : Way) →
    ((u : ℕ) → effect_at table u ≡ None → settled_within types k u ≡ None) → gone_on types t w (effect_at table) ≡
    None → gone_on types t w (λ u. settled_within types k u) ≡ None
none_by types table k t Ends f h = h
none_by types table k t IsLost f h = refl
none_by types table k t (GoesTo u) f h = ap (settled_under types t) (f u (not_above types t (effect_at table u) h))

none_within : (types : List DescriptionModel) (table : List (Option Effect)) (k t : ℕ) →
    ((u : ℕ) → effect_at table u ≡ None → effect_by types table u ≡ None) → effect_at table t ≡ None →
    settled_within types k t ≡ None
none_within types table zero t f h = refl
none_within types table (suc k) t f h = none_by types table k t (way_from types t) (λ u g. none_within types table k u
    f g) (f t h)

all_by : (types : List DescriptionModel) (table : List (Option Effect)) (t : ℕ) (o : Option Effect) →
    Knows types table → ((u : ℕ) → effect_at table u ≡ None → effect_by types table u ≡ None) → effect_at table t ≡
    o → settled types t ≡ o
all_by types table t None k f e = settled_is types t ∙ none_within types table (length types) t f e
all_by types table t (Some d) k f e = k.right t d e

pub has_all : (types : List DescriptionModel) (table : List (Option Effect)) → Knows types table →
    ((t : ℕ) → t < length table → new_effect types table t ≡ None) → HasAll types table
has_all types table k n = record {
  all = λ t. all_by types table t (effect_at table t) k (λ u h. closed_by types table u k.count n
      (cases_lt u (length types)) h) refl;
}

-- what is in effect for a type
abbrev pub or_own : List DescriptionModel → ℕ → Option Effect → Effect
or_own types t None = own_at types t
or_own types t (Some e) = e
