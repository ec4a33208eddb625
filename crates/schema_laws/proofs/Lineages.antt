-- The classes above classes: what is filled in, and the chain of superclasses.
use Rattle.std.proofs.Common.{ℕ, ◌+◌, ◌<◌, ◌≤◌, zero, suc, List, [], ◌∷◌, ◌++◌, Bool, true, false, cond, ◌||◌, Option, None, Some, Ok, ◌≡◌, refl, ap, sym, subst, ◌∙◌, length, take, drop, slice_get, nat_eq, nat_lt, append_assoc, append-nil, length-append, add-one, arith}
use Rattle.std.specs.List.{IsDistinct, flat_map, list_all}
use Rattle.std.specs.Cmp.{nat_eq_equiv}
use Rattle.std.proofs.Math.Seq.{drop-append_seam}
use Rattle.std.proofs.lemmas.List.{take-append-le, take-append-drop}
use Rattle.std.proofs.lemmas.List.Concat.{flat_map-cons}
use Rattle.std.proofs.lemmas.Grind.{flat_map-append}
use Rattle.std.proofs.lemmas.List.Folds.{list_any-append}
use Rattle.std.proofs.lemmas.Map.Keys.{IsDistinct-push}
use Rattle.std.proofs.lemmas.Map.Steps.{length-le_from_distinct_below}
use Rattle.std.proofs.lemmas.Bool.{eqb-true, eq-eqb}
use Rattle.std.proofs.lemmas.Bool.Decides.{nat_tests}
use Rattle.ldap_match.specs.ldap_schema.Schema.{ClassModel, SchemaModel}
use Rattle.ldap_match.specs.ldap_schema.Superclasses.{is_among, superclasses_in, direct_superclasses, with_missing, gone_on, filled_from, filled, missing_superclasses, IsSubclass, is_itself, goes_up, has_known_superclasses, AreSuperclassesKnown}
use Rattle.schema_reader.specs.schema_text.Texts.{read_text}
use Rattle.schema_reader.specs.Described.{schema_of}
use Rattle.schema_reader.specs.Reading.{fault_of, schema_of_text}
use Rattle.schema_reader.proofs.Judged.{known_of}
use Rattle.ldap_dn.proofs.Spelled.{none_some, some_same}
use Rattle.schema_laws.specs.Chains.{LoopsOfClassesLeadBack, IsAbove, IsMissing, MissingAreAbove, MissingStandOnce, MissingComeInTurn}
use Rattle.schema_laws.proofs.FirstFound.{no_fault, dot_by as or_second}
use Rattle.schema_laws.proofs.Joined.{left_true, right_true}
use Rattle.schema_laws.proofs.Lettered.{not_left, not_right, either as or_cases}

or_first : (a b : Bool) → a ≡ true → (a || b) ≡ true
or_first true b h = refl
or_first false b h = absurd (cc)

false_true : false ≡ true → ⊥
false_true h = cc

-- ---- members of a list and of another behind it

in_front : (xs ys : List ℕ) (c : ℕ) → is_among xs c ≡ true → is_among (xs ++ ys) c ≡ true
in_front xs ys c h = list_any-append (nat_eq c) xs ys ∙ or_first (is_among xs c) (is_among ys c) h

in_back : (xs ys : List ℕ) (c : ℕ) → is_among ys c ≡ true → is_among (xs ++ ys) c ≡ true
in_back xs ys c h = list_any-append (nat_eq c) xs ys ∙ or_second (is_among xs c) (is_among ys c) h

in_either : {P : Type 0} (xs ys : List ℕ) (c : ℕ) → is_among (xs ++ ys) c ≡ true → (is_among xs c ≡ true → P) →
    (is_among ys c ≡ true → P) → P
in_either xs ys c h f g = or_cases (is_among xs c) (is_among ys c) (sym (list_any-append (nat_eq c) xs ys) ∙ h) f g

not_in_front : (xs ys : List ℕ) (c : ℕ) → is_among (xs ++ ys) c ≡ false → is_among xs c ≡ false
not_in_front xs ys c h = not_left (is_among xs c) (is_among ys c) (sym (list_any-append (nat_eq c) xs ys) ∙ h)

not_in_back : (xs ys : List ℕ) (c : ℕ) → is_among (xs ++ ys) c ≡ false → is_among ys c ≡ false
not_in_back xs ys c h = not_right (is_among xs c) (is_among ys c) (sym (list_any-append (nat_eq c) xs ys) ∙ h)

in_one : (c d : ℕ) → is_among (d ∷ []) c ≡ true → c ≡ d
in_one c d h = or_cases (nat_eq c d) false h (λ e. eqb-true c d e) (λ z. absurd (false_true z))

one_in : (c : ℕ) → is_among (c ∷ []) c ≡ true
one_in c = or_first (nat_eq c c) false (eq-eqb c c refl)

-- ---- the classes at first, and behind them others that were missing, each once

record HasGrown (Q : ℕ → Type 0) (n : ℕ) (cs have : List ℕ) : Type 0 where
  more : List ℕ
  is : have ≡ cs ++ more
  once : IsDistinct nat_eq more
  fresh : (x : ℕ) → is_among more x ≡ true → is_among cs x ≡ false
  low : (x : ℕ) → is_among more x ≡ true → x < n
  holds : (x : ℕ) → is_among have x ≡ true → Q x

none_once : IsDistinct nat_eq []
unfolding IsDistinct
none_once = tt

none_yet : (Q : ℕ → Type 0) (n : ℕ) (cs : List ℕ) → ((x : ℕ) → is_among cs x ≡ true → Q x) → HasGrown Q n cs cs
none_yet Q n cs h = record {
  more = [];
  is = sym (append-nil cs);
  once = none_once;
  fresh = λ x m.
      absurd (false_true m);
  low = λ x m. absurd (false_true m);
  holds = h;
}

one_more : (Q : ℕ → Type 0) (n : ℕ) (cs have : List ℕ) (c : ℕ) (b : Bool) → is_among have c ≡ b → Q c → c < n →
    HasGrown Q n cs have → HasGrown Q n cs (cond b have (have ++ c ∷ []))
one_more Q n cs have c true e q lt g = g
one_more Q n cs have c false e q lt g =
    let new : is_among (cs ++ g.more) c ≡ false = ap (λ (l : List ℕ). is_among l c) (sym g.is) ∙ e in
    record {
      more = g.more ++ c ∷ [];
      is = ap (λ (l : List ℕ). l ++ c ∷ []) g.is ∙ append_assoc cs g.more (c ∷ []);
      once = IsDistinct-push nat_eq_equiv g.more c g.once (not_in_back cs g.more c new);
      fresh = λ x m. in_either g.more (c ∷ []) x m (g.fresh x) (λ k. ap (is_among cs) (in_one x c k)
          ∙ not_in_front cs g.more c new);
      low = λ x m. in_either g.more (c ∷ []) x m (g.low x) (λ k. subst (λ y. y < n) (sym (in_one x c k)) lt);
      holds = λ x m. in_either have (c ∷ []) x m (g.holds x) (λ k. subst Q (sym (in_one x c k)) q);
    }

all_more : (Q : ℕ → Type 0) (n : ℕ) (cs have ds : List ℕ) → ((x : ℕ) → is_among ds x ≡ true → Q x) →
    ((x : ℕ) → is_among ds x ≡ true → x < n) → HasGrown Q n cs have → HasGrown Q n cs (with_missing have ds)
all_more Q n cs have [] q lt g = g
all_more Q n cs have (d ∷ ds) q lt g =
    let here : is_among (d ∷ ds) d ≡ true = or_first (nat_eq d d) (is_among ds d) (eq-eqb d d refl) in
    all_more Q n cs (cond (is_among have d) have (have ++ d ∷ [])) ds
    (λ x m. q x (or_second (nat_eq x d) (is_among ds x) m))
    (λ x m. lt x (or_second (nat_eq x d) (is_among ds x) m))
    (one_more Q n cs have d (is_among have d) refl (q d here) (lt d here) g)

-- ---- what is filled in stands behind

more_by : (have : List ℕ) (c : ℕ) (cs : List ℕ) (b : Bool) → is_among have c ≡ b → ((h : List ℕ) → (more : List ℕ)
    × (with_missing h cs ≡ h ++ more)) → (more : List ℕ) × (with_missing have (c ∷ cs) ≡ have ++ more)
more_by have c cs true e further = let m = further have
    in (m.0, ap (λ (x : Bool). with_missing (cond x have (have ++ c ∷ [])) cs) e ∙ m.1)
more_by have c cs false e further =
    let m = further (have ++ c ∷ []) in (
      c ∷ m.0,
      ap (λ (x : Bool). with_missing (cond x have (have ++ c ∷ [])) cs) e ∙ m.1 ∙ append_assoc have (c ∷
          []) m.0,
    )

more_of : (have cs : List ℕ) → (more : List ℕ) × (with_missing have cs ≡ have ++ more)
more_of have [] = ([], sym (append-nil have))
more_of have (c ∷ cs) = more_by have c cs (is_among have c) refl (λ h. more_of h cs)

kept : (have cs : List ℕ) (c : ℕ) → is_among have c ≡ true → is_among (with_missing have cs) c ≡ true
kept have cs c h = let m = more_of have cs in ap (λ (x : List ℕ). is_among x c) m.1 ∙ in_front have m.0 c h

now_in : (have : List ℕ) (c : ℕ) (b : Bool) → is_among have c ≡ b → is_among (cond b have (have ++ c ∷ [])) c ≡ true
now_in have c true e = e
now_in have c false e = in_back have (c ∷ []) c (one_in c)

all_in : (have cs : List ℕ) (u : ℕ) → is_among cs u ≡ true → is_among (with_missing have cs) u ≡ true
all_in have [] u h = absurd (false_true h)
all_in have (c ∷ cs) u h =
    or_cases (nat_eq u c) (is_among cs u) h
    (λ e. subst (λ (x : ℕ). is_among (with_missing (cond (is_among have c) have (have ++ c ∷ [])) cs) x ≡ true)
    (sym (eqb-true u c e))
    (kept (cond (is_among have c) have (have ++ c ∷ [])) cs c (now_in have c (is_among have c) refl)))
    (all_in (cond (is_among have c) have (have ++ c ∷ [])) cs u)

-- ---- the class at a place

at_in : (xs : List ℕ) (i c : ℕ) → slice_get xs i ≡ Some c → is_among xs c ≡ true
at_in [] i c e = absurd (none_some e)
at_in (x ∷ xs) zero c e = or_first (nat_eq c x) (is_among xs c) (eq-eqb c x (sym (some_same e)))
at_in (x ∷ xs) (suc i) c e = or_second (nat_eq c x) (is_among xs c) (at_in xs i c e)

front_with : (xs : List ℕ) (i c : ℕ) → slice_get xs i ≡ Some c → take (suc i) xs ≡ take i xs ++ c ∷ []
front_with [] i c e = absurd (none_some e)
front_with (x ∷ xs) zero c e = ap (λ (y : ℕ). y ∷ []) (some_same e)
front_with (x ∷ xs) (suc i) c e = ap (λ (y : List ℕ). x ∷ y) (front_with xs i c e)

at_within : (xs : List ℕ) (i c : ℕ) → slice_get xs i ≡ Some c → i < length xs
at_within [] i c e = absurd (none_some e)
at_within (x ∷ xs) zero c e = omega arith
at_within (x ∷ xs) (suc i) c e = omega (arith, at_within xs i c e)

past_of : (xs : List ℕ) (i : ℕ) → slice_get xs i ≡ None → length xs ≤ i
past_of [] i e = omega arith
past_of (x ∷ xs) zero e = absurd (none_some (sym e))
past_of (x ∷ xs) (suc i) e = omega (arith, past_of xs i e)

whole : (xs : List ℕ) (i : ℕ) → length xs ≤ i → take i xs ≡ xs
whole [] zero h = refl
whole [] (suc i) h = refl
whole (x ∷ xs) zero h = absurd (omega (arith, h))
whole (x ∷ xs) (suc i) h = ap (λ (y : List ℕ). x ∷ y) (whole xs i (omega (arith, h)))

-- ---- superclasses are classes of the schema

below_of : (n : ℕ) (cs : List ℕ) (u : ℕ) → list_all (λ d. nat_lt d n) cs ≡ true → is_among cs u ≡ true → u < n
below_of n [] u h m = absurd (false_true m)
below_of n (c ∷ cs) u h m =
    or_cases (nat_eq u c) (is_among cs u) m
    (λ e. let lt : nat_lt c n ≡ true = left_true (nat_lt c n) (list_all (λ d. nat_lt d n) cs) h in let same : u ≡ c =
    eqb-true u c e in grind (arith, nat_tests, lt, same))
    (below_of n cs u (right_true (nat_lt c n) (list_all (λ d. nat_lt d n) cs) h))

known_at : (n : ℕ) (classes : List ClassModel) (c : ℕ) (x : ClassModel) → list_all (has_known_superclasses n)
    classes ≡ true → slice_get classes c ≡ Some x → has_known_superclasses n x ≡ true
known_at n [] c x h e = absurd (none_some e)
known_at n (y ∷ classes) zero x h e = ap (has_known_superclasses n) (sym (some_same e))
    ∙ left_true (has_known_superclasses n y) (list_all (has_known_superclasses n) classes) h
known_at n (y ∷ classes) (suc c) x h e = known_at n classes c x (right_true (has_known_superclasses n y)
    (list_all (has_known_superclasses n) classes) h) e

direct_of : (classes : List ClassModel) (c u : ℕ) (o : Option ClassModel) → slice_get classes c ≡ o →
    AreSuperclassesKnown classes → is_among (superclasses_in o) u ≡ true → u < length classes
direct_of classes c u None e known h = absurd (false_true h)
direct_of classes c u (Some x) e known h = below_of (length classes) x.superiors u (known_at (length classes) classes
    c x known e) h

direct_below : (classes : List ClassModel) (c u : ℕ) → AreSuperclassesKnown classes →
    is_among (direct_superclasses classes c) u ≡ true → u < length classes
direct_below classes c u known h = direct_of classes c u (slice_get classes c) refl known h

-- ---- the filled list is closed

abbrev IsClosed : List ClassModel → List ℕ → Type 0
IsClosed classes have = (c u : ℕ) → is_among have c ≡ true → is_among (direct_superclasses classes c) u ≡ true →
    is_among have u ≡ true

abbrev IsDone : List ClassModel → ℕ → List ℕ → Type 0
IsDone classes i have = (c u : ℕ) → is_among (take i have) c ≡ true → is_among (direct_superclasses classes c) u ≡
    true → is_among have u ≡ true

closed_at_end : (classes : List ClassModel) (i : ℕ) (have : List ℕ) → length have ≤ i → IsDone classes i have →
    IsClosed classes have
closed_at_end classes i have le d c u h = d c u (ap (λ (x : List ℕ). is_among x c) (whole have i le) ∙ h)

done_more : (classes : List ClassModel) (i c : ℕ) (have : List ℕ) → slice_get have i ≡ Some c →
    IsDone classes i have → IsDone classes (i + 1) (with_missing have (direct_superclasses classes c))
done_more classes i c have e d x u h up =
    let m = more_of have (direct_superclasses classes c) in
    let within : i < length have = at_within have i c e in
    let front : take (i + 1) (with_missing have (direct_superclasses classes c)) ≡ take i have ++ c ∷ [] =
    ap (take (i + 1)) m.1 ∙ take-append-le (i + 1) have m.0 (omega (arith, within)) ∙ ap (λ (n : ℕ). take n have)
    (add-one i) ∙ front_with have i c e in
    in_either (take i have) (c ∷ []) x (sym (ap (λ (l : List ℕ). is_among l x) front) ∙ h)
    (λ k. kept have (direct_superclasses classes c) u (d x u k up))
    (λ k. all_in have (direct_superclasses classes c) u
    (subst (λ (y : ℕ). is_among (direct_superclasses classes y) u ≡ true) (in_one x c k) up))

-- the classes at first with all that is above them
record IsFilled (s : SchemaModel) (cs have : List ℕ) : Type 0 where
  grown : HasGrown (IsAbove s cs) (length s.classes) cs have
  closed : IsClosed s.classes have

not_longer : (Q : ℕ → Type 0) (n : ℕ) (cs have : List ℕ) → HasGrown Q n cs have → length have ≤ length cs + n
not_longer Q n cs have g =
    let few : length g.more ≤ n = length-le_from_distinct_below g.more n g.once g.low in
    let both : length have ≡ length cs + length g.more = ap length g.is ∙ length-append cs g.more in
    omega (arith, few, both)

up_further : (s : SchemaModel) {a b : ℕ} (u : ℕ) → IsSubclass s a b → is_among (direct_superclasses s.classes b) u ≡
    true → IsSubclass s a u
up_further s u is_itself h = goes_up u h is_itself
up_further s u (goes_up v e rest) h = goes_up v e (up_further s u rest h)

above_further : (s : SchemaModel) (cs : List ℕ) (c u : ℕ) → IsAbove s cs c →
    is_among (direct_superclasses s.classes c) u ≡ true → IsAbove s cs u
above_further s cs c u a h = record { below = a.below; is_one = a.is_one; is_above = up_further s u a.is_above h }

abbrev next_of : List ClassModel → ℕ → ℕ → List ℕ → ℕ → List ℕ
next_of classes k i have c = filled_from k classes (i + 1) (with_missing have (direct_superclasses classes c))

fill_by : (s : SchemaModel) (cs : List ℕ) (k i : ℕ) (have : List ℕ) (o : Option ℕ) →
    HasGrown (IsAbove s cs) (length s.classes) cs have → IsDone s.classes i have → slice_get have i ≡ o
    → ((c : ℕ) → slice_get have i ≡ Some c → IsFilled s cs (next_of s.classes k i have c)) →
    IsFilled s cs (gone_on o have (next_of s.classes k i have))
fill_by s cs k i have None g d e f = record { grown = g; closed = closed_at_end s.classes i have (past_of have i e) d }
fill_by s cs k i have (Some c) g d e f = f c e

fill : (s : SchemaModel) → AreSuperclassesKnown s.classes → (cs : List ℕ) (k i : ℕ) (have : List ℕ) →
    HasGrown (IsAbove s cs) (length s.classes) cs have → IsDone s.classes i have → length cs + length s.classes ≤ k +
    i → IsFilled s cs (filled_from k s.classes i have)
fill s known cs zero i have g d le = record {
  grown = g;
  closed = closed_at_end s.classes i have
      (omega (arith, le, not_longer (IsAbove s cs) (length s.classes) cs have g)) d;
}
fill s known cs (suc k) i have g d le =
    fill_by s cs k i have (slice_get have i) g d refl (λ c e.
    fill s known cs k (i + 1) (with_missing have (direct_superclasses s.classes c))
    (all_more (IsAbove s cs) (length s.classes) cs have (direct_superclasses s.classes c)
    (λ u m. above_further s cs c u (g.holds c (at_in have i c e)) m)
    (λ u m. direct_below s.classes c u known m)
    g)
    (done_more s.classes i c have e d) (omega (arith, le)))

filled_is : (s : SchemaModel) → AreSuperclassesKnown s.classes → (cs : List ℕ) → IsFilled s cs (filled s.classes cs)
filled_is s known cs =
    fill s known cs (length cs + length s.classes) 0 cs
    (none_yet (IsAbove s cs) (length s.classes) cs (λ x m. record { below = x; is_one = m; is_above = is_itself }))
    (λ c u m h. absurd (false_true m)) (omega arith)

climbed : (s : SchemaModel) (row : List ℕ) → IsClosed s.classes row → {a b : ℕ} → IsSubclass s a b → is_among row a ≡
    true → is_among row b ≡ true
climbed s row closed is_itself h = h
climbed s row closed (goes_up {a} u e rest) h = climbed s row closed rest (closed a u h e)

above_in : (s : SchemaModel) (cs : List ℕ) (f : IsFilled s cs (filled s.classes cs)) (c : ℕ) → IsAbove s cs c →
    is_among (filled s.classes cs) c ≡ true
above_in s cs f c a =
    climbed s (filled s.classes cs) f.closed a.is_above (ap (λ (l : List ℕ). is_among l a.below) f.grown.is
    ∙ in_front cs f.grown.more a.below a.is_one)

-- ---- the laws

known_in : (text : List ℕ) → AreSuperclassesKnown (schema_of (read_text text)).classes
known_in text = known_of (read_text text) (schema_of (read_text text)).classes refl

pub loops_of_classes : LoopsOfClassesLeadBack
loops_of_classes text c =
    let s = schema_of (read_text text) in
    let f = filled_is s (known_in text) (direct_superclasses s.classes c) in (
      λ h. let a = f.grown.holds c h in record { first = a.below; goes = a.is_one; comes_back = a.is_above },
      λ b. above_in s (direct_superclasses s.classes c) f c (record {
        below = b.first;
        is_one = b.goes;
        is_above =
            b.comes_back;
      }),
    )

known_of_text : (text : List ℕ) (s : SchemaModel) → schema_of_text text ≡ Ok s → AreSuperclassesKnown s.classes
known_of_text text s h =
    let t = read_text text in
    subst (λ (x : SchemaModel). AreSuperclassesKnown x.classes) (no_fault (schema_of t) s (fault_of t (schema_of t))
    h).1 (known_in text)

behind : (s : SchemaModel) (cs : List ℕ) (f : IsFilled s cs (filled s.classes cs)) → missing_superclasses s cs ≡
    f.grown.more
behind s cs f = ap (drop (length cs)) f.grown.is ∙ drop-append_seam cs f.grown.more

missing_is : (s : SchemaModel) (cs : List ℕ) (f : IsFilled s cs (filled s.classes cs)) (c : ℕ) →
    is_among f.grown.more c ≡ true → IsMissing s cs c
missing_is s cs f c h = record {
  above = f.grown.holds c (ap (λ (l : List ℕ). is_among l c) f.grown.is ∙ in_back cs f.grown.more c h);
  is_not_there = f.grown.fresh c h;
}

is_behind : (s : SchemaModel) (cs : List ℕ) (f : IsFilled s cs (filled s.classes cs)) (c : ℕ) → IsMissing s cs c →
    is_among f.grown.more c ≡ true
is_behind s cs f c m =
    in_either cs f.grown.more c (sym (ap (λ (l : List ℕ). is_among l c) f.grown.is) ∙ above_in s cs f c m.above)
    (λ h. absurd (false_true (sym m.is_not_there ∙ h)))
    (λ h. h)

pub missing_are_above : MissingAreAbove
missing_are_above text s h cs c =
    let f = filled_is s (known_of_text text s h) cs in (
      λ m. missing_is s cs f c (sym (ap (λ (l : List ℕ). is_among l c) (behind s cs f)) ∙ m),
      λ m. ap (λ (l : List ℕ). is_among l c) (behind s cs f) ∙ is_behind s cs f c m,
    )

pub missing_stand_once : MissingStandOnce
missing_stand_once text s h cs =
    let f = filled_is s (known_of_text text s h) cs in
    subst (IsDistinct nat_eq) (sym (behind s cs f)) f.grown.once

-- ---- the order

abbrev above_all : List ClassModel → List ℕ → List ℕ
above_all classes cs = flat_map (direct_superclasses classes) cs

missing_of_both : (have xs ys : List ℕ) → with_missing have (xs ++ ys) ≡ with_missing (with_missing have xs) ys
missing_of_both have [] ys = refl
missing_of_both have (x ∷ xs) ys = missing_of_both (cond (is_among have x) have (have ++ x ∷ [])) xs ys

above_one_more : (classes : List ClassModel) (xs : List ℕ) (c : ℕ) → above_all classes (xs ++ c ∷ []) ≡
    above_all classes xs ++ direct_superclasses classes c
above_one_more classes xs c =
    flat_map-append (direct_superclasses classes) xs (c ∷ [])
    ∙ ap (λ (l : List ℕ). above_all classes xs ++ l) (flat_map-cons (direct_superclasses classes) c []
    ∙ append-nil (direct_superclasses classes c))

-- of so many at the front the superclasses were taken, in turn
record IsInTurn (classes : List ClassModel) (cs row : List ℕ) : Type 0 where
  taken : ℕ
  is : row ≡ with_missing cs (above_all classes (take taken row))

turn_more : (classes : List ClassModel) (cs : List ℕ) (i c : ℕ) (have : List ℕ) → slice_get have i ≡ Some c →
    have ≡ with_missing cs (above_all classes (take i have))
    → with_missing have (direct_superclasses classes c) ≡ with_missing cs
    (above_all classes (take (i + 1) (with_missing have (direct_superclasses classes c))))
turn_more classes cs i c have e h =
    let m = more_of have (direct_superclasses classes c) in
    let within : i < length have = at_within have i c e in
    let front : take (i + 1) (with_missing have (direct_superclasses classes c)) ≡ take i have ++ c ∷ [] =
    ap (take (i + 1)) m.1 ∙ take-append-le (i + 1) have m.0 (omega (arith, within)) ∙ ap (λ (n : ℕ). take n have)
    (add-one i) ∙ front_with have i c e in
    ap (λ (l : List ℕ). with_missing l (direct_superclasses classes c)) h
    ∙ sym (missing_of_both cs (above_all classes (take i have)) (direct_superclasses classes c))
    ∙ ap (with_missing cs) (sym (above_one_more classes (take i have) c))
    ∙ ap (λ (l : List ℕ). with_missing cs (above_all classes l)) (sym front)

turn_by : (classes : List ClassModel) (cs : List ℕ) (k i : ℕ) (have : List ℕ) (o : Option ℕ) →
    have ≡ with_missing cs (above_all classes (take i have))
    → ((c : ℕ) → o ≡ Some c → IsInTurn classes cs (next_of classes k i have c)) →
    IsInTurn classes cs (gone_on o have (next_of classes k i have))
turn_by classes cs k i have None h f = record { taken = i; is = h }
turn_by classes cs k i have (Some c) h f = f c refl

in_turn : (classes : List ClassModel) (cs : List ℕ) (k i : ℕ) (have : List ℕ) →
    have ≡ with_missing cs (above_all classes (take i have)) → IsInTurn classes cs (filled_from k classes i have)
in_turn classes cs zero i have h = record { taken = i; is = h }
in_turn classes cs (suc k) i have h =
    turn_by classes cs k i have (slice_get have i) h (λ c e. in_turn classes cs k (i + 1)
    (with_missing have (direct_superclasses classes c)) (turn_more classes cs i c have e h))

absorbed : (row ys : List ℕ) → ((u : ℕ) → is_among ys u ≡ true → is_among row u ≡ true) → with_missing row ys ≡ row
absorbed row [] f = refl
absorbed row (y ∷ ys) f =
    ap (λ (b : Bool). with_missing (cond b row (row ++ y ∷ [])) ys)
    (f y (or_first (nat_eq y y) (is_among ys y) (eq-eqb y y refl)))
    ∙ absorbed row ys (λ u m. f u (or_second (nat_eq u y) (is_among ys u) m))

nothing_above : (classes : List ClassModel) (row xs : List ℕ) → ((c : ℕ) → is_among xs c ≡ true → is_among row c ≡
    true) → IsClosed classes row → with_missing row (above_all classes xs) ≡ row
nothing_above classes row [] f closed = refl
nothing_above classes row (x ∷ xs) f closed =
    ap (with_missing row) (flat_map-cons (direct_superclasses classes) x xs)
    ∙ missing_of_both row (direct_superclasses classes x) (above_all classes xs)
    ∙ ap (λ (l : List ℕ). with_missing l (above_all classes xs)) (absorbed row (direct_superclasses classes x)
    (λ u m. closed x u (f x (or_first (nat_eq x x) (is_among xs x) (eq-eqb x x refl))) m))
    ∙ nothing_above classes row xs (λ c m. f c (or_second (nat_eq c x) (is_among xs c) m)) closed

settled : (classes : List ClassModel) (cs row : List ℕ) → IsInTurn classes cs row → IsClosed classes row →
    row ≡ with_missing cs (above_all classes row)
settled classes cs row t closed =
    let first : List ℕ = take t.taken row in
    let rest : List ℕ = drop t.taken row in
    let cut : first ++ rest ≡ row = take-append-drop t.taken row in
    sym (ap (λ (l : List ℕ). with_missing cs (above_all classes l)) (sym cut)
    ∙ ap (with_missing cs) (flat_map-append (direct_superclasses classes) first rest)
    ∙ missing_of_both cs (above_all classes first) (above_all classes rest)
    ∙ ap (λ (l : List ℕ). with_missing l (above_all classes rest)) (sym t.is)
    ∙ nothing_above classes row rest (λ c m. ap (λ (l : List ℕ). is_among l c) (sym cut) ∙ in_back first rest c m)
    closed)

pub missing_come_in_turn : MissingComeInTurn
missing_come_in_turn text s h cs =
    let f = filled_is s (known_of_text text s h) cs in
    let row : filled s.classes cs ≡ cs ++ missing_superclasses s cs = f.grown.is ∙ ap (λ (l : List ℕ). cs ++ l)
    (sym (behind s cs f)) in
    let t = in_turn s.classes cs (length cs + length s.classes) 0 cs refl in
    sym row ∙ settled s.classes cs (filled s.classes cs) t f.closed
    ∙ ap (λ (l : List ℕ). with_missing cs (above_all s.classes l)) row
