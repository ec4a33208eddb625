-- Chains of SUPs a step at a time: more steps than there are types find nothing more.
use Rattle.std.proofs.Common.{ℕ, ◌<◌, ◌≤◌, zero, suc, List, [], ◌∷◌, ◌++◌, Bool, true, false, ◌||◌, Option, None, Some, is_some, ◌≡◌, ◌⊎◌, inl, inr, refl, ap, sym, subst, ◌∙◌, length, reverse, nat_eq, arith}
use Rattle.std.specs.List.{IsDistinct, AllByRecursion, list_any}
use Rattle.std.proofs.lemmas.List.{reverse-append}
use Rattle.std.proofs.lemmas.Option.{slice_get_past}
use Rattle.std.proofs.lemmas.Map.Keys.{IsDistinct-cons}
use Rattle.std.proofs.lemmas.Map.Steps.{length-le_from_distinct_below}
use Rattle.std.proofs.lemmas.Bool.{cases_lt}
use Rattle.std.proofs.lemmas.Bool.Decides.{nat_tests}
use Rattle.schema_text.specs.Descriptions.{DescriptionModel}
use Rattle.schema_meaning.specs.declared.inheriting.Way.{Way}
use Rattle.schema_meaning.specs.declared.inheriting.Way.TheVariants.{Ends, IsLost, GoesTo}
use Rattle.schema_meaning.specs.declared.inheriting.Effect.{Effect}
use Rattle.schema_meaning.specs.Inheriting.{gone, lineage_from, way_from, way_of, nothing, effect_down}
use Rattle.schema_meaning.specs.private.Settling.{settled_by, settled, settled_under, gone_on, settled_within}

-- the chain and the steps say the same
abbrev down_from : List DescriptionModel → List ℕ → Option Effect → Option Effect
down_from types found None = None
down_from types found (Some e) = Some (effect_down types e (reverse found))

turned : (found : List ℕ) (t : ℕ) → reverse (found ++ t ∷ []) ≡ t ∷ reverse found
turned found t = reverse-append found (t ∷ [])

one_down : (types : List DescriptionModel) (found : List ℕ) (t : ℕ) (o : Option Effect) →
    down_from types (found ++ t ∷ []) o ≡ down_from types found (settled_under types t o)
one_down types found t None = refl
one_down types found t (Some e) = ap (λ (r : List ℕ). Some (effect_down types e r)) (turned found t)

gone_down : (types : List DescriptionModel) (found : List ℕ) (t k : ℕ) (w : Way) (f : List ℕ → ℕ → Option (List ℕ))
    → ((u : ℕ) → settled_by types (f ((found ++ t ∷ []) ++ u ∷ []) u) ≡ down_from types (found ++ t ∷ [])
    (settled_within types k u))
    → settled_by types (gone (found ++ t ∷ []) w f) ≡ down_from types found
    (gone_on types t w (λ u. settled_within types k u))
gone_down types found t k Ends f h = one_down types found t (Some nothing)
gone_down types found t k IsLost f h = refl
gone_down types found t k (GoesTo u) f h = h u ∙ one_down types found t (settled_within types k u)

lineage_down : (types : List DescriptionModel) (found : List ℕ) (t : ℕ) (xs : List DescriptionModel) →
    settled_by types (lineage_from types (found ++ t ∷ []) t xs) ≡ down_from types found
    (settled_within types (length xs) t)
lineage_down types found t [] = refl
lineage_down types found t (x ∷ xs) = gone_down types found t (length xs) (way_from types t)
    (λ more u. lineage_from types more u xs) (λ u. lineage_down types (found ++ t ∷ []) u xs)

none_above : (types : List DescriptionModel) (o : Option Effect) → down_from types [] o ≡ o
none_above types None = refl
none_above types (Some e) = refl

pub settled_is : (types : List DescriptionModel) (t : ℕ) → settled types t ≡ settled_within types (length types) t
settled_is types t = lineage_down types [] t types ∙ none_above types (settled_within types (length types) t)

-- what is found in some steps is found in more
pub none_some : {A : Type 0} {x : A} → None ≡ Some x → ⊥
none_some h = cc

pub under_later : (types : List DescriptionModel) (t : ℕ) (o p : Option Effect) (e : Effect) →
    ((d : Effect) → o ≡ Some d → p ≡ Some d) → settled_under types t o ≡ Some e → settled_under types t p ≡ Some e
under_later types t None p e s h = absurd (none_some h)
under_later types t (Some d) p e s h = ap (settled_under types t) (s d refl) ∙ h

later_by : (types : List DescriptionModel) (t : ℕ) (w : Way) (f g : ℕ → Option Effect) (e : Effect) →
    ((u : ℕ) (d : Effect) → f u ≡ Some d → g u ≡ Some d) → gone_on types t w f ≡ Some e → gone_on types t w g ≡ Some e
later_by types t Ends f g e s h = h
later_by types t IsLost f g e s h = absurd (none_some h)
later_by types t (GoesTo u) f g e s h = under_later types t (f u) (g u) e (s u) h

later : (types : List DescriptionModel) (k t : ℕ) (e : Effect) → settled_within types k t ≡ Some e →
    settled_within types (suc k) t ≡ Some e
later types zero t e h = absurd (none_some h)
later types (suc k) t e h = later_by types t (way_from types t) (λ u. settled_within types k u)
    (λ u. settled_within types (suc k) u) e (λ u d g. later types k u d g) h

-- the types of a chain, in so many steps
abbrev on : Way → (ℕ → List ℕ) → List ℕ
on Ends f = []
on IsLost f = []
on (GoesTo u) f = f u

abbrev trail : List DescriptionModel → ℕ → ℕ → List ℕ
trail types zero t = []
trail types (suc k) t = t ∷ on (way_from types t) (λ u. trail types k u)

false_true : false ≡ true → ⊥
false_true h = cc

or_cases : {P : Type 0} (a b : Bool) → (a || b) ≡ true → (a ≡ true → P) → (b ≡ true → P) → P
or_cases true b h f g = f refl
or_cases false b h f g = g h

same_number : (a b : ℕ) → nat_eq a b ≡ true → a ≡ b
same_number a b h = grind (arith, nat_tests, h)

there_later : (types : List DescriptionModel) (k t : ℕ) (o : Option Effect) → settled_within types k t ≡ o →
    is_some o ≡ true → is_some (settled_within types (suc k) t) ≡ true
there_later types k t None e h = absurd (false_true h)
there_later types k t (Some d) e h = ap is_some (later types k t d e)

there_above : (types : List DescriptionModel) (t : ℕ) (o : Option Effect) → is_some (settled_under types t o) ≡ true →
    is_some o ≡ true
there_above types t None h = h
there_above types t (Some e) h = refl

pub not_above : (types : List DescriptionModel) (t : ℕ) (o : Option Effect) → settled_under types t o ≡ None → o ≡ None
not_above types t None h = refl
not_above types t (Some e) h = absurd (none_some (sym h))

-- each of them has a chain that ends in as many steps
on_zero : (w : Way) (q : ℕ) → list_any (nat_eq q) (on w (λ u. [])) ≡ true → ⊥
on_zero Ends q h = false_true h
on_zero IsLost q h = false_true h
on_zero (GoesTo u) q h = false_true h

at_first : (types : List DescriptionModel) (k t q : ℕ) → is_some (settled_within types k t) ≡ true →
    nat_eq q t ≡ true → is_some (settled_within types k q) ≡ true
at_first types k t q h e = subst (λ (x : ℕ). is_some (settled_within types k x) ≡ true) (sym (same_number q t e)) h

among_by : (types : List DescriptionModel) (k t q : ℕ) (w : Way) →
    ((u : ℕ) → is_some (settled_within types (suc k) u) ≡ true → list_any (nat_eq q) (trail types (suc k) u) ≡ true →
    is_some (settled_within types (suc k) q) ≡ true)
    → is_some (gone_on types t w (λ u. settled_within types (suc k) u)) ≡ true →
    list_any (nat_eq q) (on w (λ u. trail types (suc k) u)) ≡ true → is_some (settled_within types (suc k) q) ≡ true
among_by types k t q Ends f h m = absurd (false_true m)
among_by types k t q IsLost f h m = absurd (false_true m)
among_by types k t q (GoesTo u) f h m = f u (there_above types t (settled_within types (suc k) u) h) m

among : (types : List DescriptionModel) (k t q : ℕ) → is_some (settled_within types (suc k) t) ≡ true →
    list_any (nat_eq q) (trail types (suc k) t) ≡ true → is_some (settled_within types (suc k) q) ≡ true
among types zero t q h m = or_cases (nat_eq q t) (list_any (nat_eq q) (on (way_from types t) (λ u. []))) m
    (λ e. at_first types (suc zero) t q h e) (λ n. absurd (on_zero (way_from types t) q n))
among types (suc k) t q h m =
    or_cases (nat_eq q t) (list_any (nat_eq q) (on (way_from types t) (λ u. trail types (suc k) u))) m
    (λ e. at_first types (suc (suc k)) t q h e)
    (λ n. there_later types (suc k) q _ refl (among_by types k t q (way_from types t) (λ u g l. among types k u q g l)
    h n))

-- and none of them comes twice, where no fewer steps would do
apart_by : (b : Bool) → (b ≡ true → ⊥) → b ≡ false
apart_by true f = absurd (f refl)
apart_by false f = refl

or_left : (a b : Bool) → (a || b) ≡ false → a ≡ false
or_left true b h = absurd (cc)
or_left false b h = refl

or_right : (a b : Bool) → (a || b) ≡ false → b ≡ false
or_right true b h = absurd (cc)
or_right false b h = h

apart : (t : ℕ) (us : List ℕ) → list_any (nat_eq t) us ≡ false → AllByRecursion (λ y. nat_eq t y ≡ false) us
apart t [] h = tt
apart t (u ∷ us) h = (or_left (nat_eq t u) _ h, apart t us (or_right (nat_eq t u) _ h))

one_distinct : (t : ℕ) → IsDistinct nat_eq (t ∷ [])
unfolding IsDistinct
one_distinct t = (tt, tt)

distinct_one : (t : ℕ) (w : Way) → IsDistinct nat_eq (t ∷ on w (λ u. []))
distinct_one t Ends = one_distinct t
distinct_one t IsLost = one_distinct t
distinct_one t (GoesTo u) = one_distinct t

none_there : (o : Option Effect) → o ≡ None → is_some o ≡ true → ⊥
none_there o e h = false_true (sym (ap is_some e) ∙ h)

distinct_by : (types : List DescriptionModel) (k t : ℕ) (w : Way) → ((u : ℕ) → settled_within types k u ≡ None →
    is_some (settled_within types (suc k) u) ≡ true → IsDistinct nat_eq (trail types (suc k) u))
    → settled_within types (suc k) t ≡ None → gone_on types t w (λ u. settled_within types k u) ≡ None →
    is_some (gone_on types t w (λ u. settled_within types (suc k) u)) ≡ true →
    IsDistinct nat_eq (t ∷ on w (λ u. trail types (suc k) u))
distinct_by types k t Ends f z n h = one_distinct t
distinct_by types k t IsLost f z n h = one_distinct t
distinct_by types k t (GoesTo u) f z n h =
    let above : is_some (settled_within types (suc k) u) ≡ true = there_above types t (settled_within types (suc k) u)
    h in
    IsDistinct-cons nat_eq t (trail types (suc k) u)
    (apart t (trail types (suc k) u) (apart_by (list_any (nat_eq t) (trail types (suc k) u))
    (λ m. none_there (settled_within types (suc k) t) z (among types k u t above m))))
    (f u (not_above types t (settled_within types k u) n) above)

distinct : (types : List DescriptionModel) (k t : ℕ) → settled_within types k t ≡ None →
    is_some (settled_within types (suc k) t) ≡ true → IsDistinct nat_eq (trail types (suc k) t)
distinct types zero t n h = distinct_one t (way_from types t)
distinct types (suc k) t n h = distinct_by types k t (way_from types t) (λ u m g. distinct types k u m g) n n h

-- and there are as many as steps
long_by : (types : List DescriptionModel) (k t : ℕ) (w : Way) → ((u : ℕ) → settled_within types k u ≡ None →
    is_some (settled_within types (suc k) u) ≡ true → length (trail types (suc k) u) ≡ suc k)
    → gone_on types t w (λ u. settled_within types k u) ≡ None →
    is_some (gone_on types t w (λ u. settled_within types (suc k) u)) ≡ true →
    length (on w (λ u. trail types (suc k) u)) ≡ suc k
long_by types k t Ends f n h = absurd (none_some (sym n))
long_by types k t IsLost f n h = absurd (false_true h)
long_by types k t (GoesTo u) f n h = f u (not_above types t (settled_within types k u) n)
    (there_above types t (settled_within types (suc k) u) h)

on_none : (w : Way) → length (on w (λ u. [])) ≡ zero
on_none Ends = refl
on_none IsLost = refl
on_none (GoesTo u) = refl

long : (types : List DescriptionModel) (k t : ℕ) → settled_within types k t ≡ None →
    is_some (settled_within types (suc k) t) ≡ true → length (trail types (suc k) t) ≡ suc k
long types zero t n h = ap suc (on_none (way_from types t))
long types (suc k) t n h = ap suc (long_by types k t (way_from types t) (λ u m g. long types k u m g) n h)

-- each of them is a type of the list
lost : (types : List DescriptionModel) (k q : ℕ) → length types ≤ q → settled_within types k q ≡ None
lost types zero q le = refl
lost types (suc k) q le = ap (λ (o : Option DescriptionModel). gone_on types q (way_of types o)
    (λ u. settled_within types k u)) (slice_get_past types q le)

inside_by : (types : List DescriptionModel) (k q : ℕ) → is_some (settled_within types k q) ≡ true → (q < length types)
    ⊎ (length types ≤ q) → q < length types
inside_by types k q h (inl lt) = lt
inside_by types k q h (inr le) = absurd (none_there (settled_within types k q) (lost types k q le) h)

too_many : (types : List DescriptionModel) (t : ℕ) → settled_within types (length types) t ≡ None →
    is_some (settled_within types (suc (length types)) t) ≡ true → ⊥
too_many types t n h =
    let n_types : ℕ = length types in
    let l : length (trail types (suc n_types) t) ≡ suc n_types = long types n_types t n h in
    let m : length (trail types (suc n_types) t) ≤ n_types = length-le_from_distinct_below
    (trail types (suc n_types) t) n_types (distinct types n_types t n h)
    (λ q g. inside_by types (suc n_types) q (among types n_types t q h g) (cases_lt q n_types)) in
    omega (arith, l, m)

stays_by : (types : List DescriptionModel) (t : ℕ) (o p : Option Effect) → settled_within types (length types) t ≡ o →
    settled_within types (suc (length types)) t ≡ p → p ≡ o
stays_by types t None None e f = refl
stays_by types t None (Some d) e f = absurd (too_many types t e (ap is_some f))
stays_by types t (Some d) p e f = sym f ∙ later types (length types) t d e

-- in a step more than there are types nothing more is found
stays : (types : List DescriptionModel) (t : ℕ) → settled_within types (suc (length types)) t ≡ settled_within types
    (length types) t
stays types t = stays_by types t _ _ refl refl

-- what is in effect for a type, by its superior
gone_same : (types : List DescriptionModel) (t : ℕ) (w : Way) (f g : ℕ → Option Effect) → ((u : ℕ) → f u ≡ g u) →
    gone_on types t w f ≡ gone_on types t w g
gone_same types t Ends f g h = refl
gone_same types t IsLost f g h = refl
gone_same types t (GoesTo u) f g h = ap (settled_under types t) (h u)

pub settled_step : (types : List DescriptionModel) (t : ℕ) → settled types t ≡ gone_on types t (way_from types t)
    (settled types)
settled_step types t =
    settled_is types t ∙ sym (stays types t)
    ∙ gone_same types t (way_from types t) (λ u. settled_within types (length types) u) (settled types)
    (λ u. sym (settled_is types u))
