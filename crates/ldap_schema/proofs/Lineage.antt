-- The filled list of a class against the chain of superclasses.
use Rattle.std.proofs.Common.{IsTrue, ◌↔◌, ℕ, ◌+◌, ◌<◌, ◌≤◌, zero, suc, List, [], ◌∷◌, ◌++◌, Bool, true, false, cond, Option, None, Some, ◌≡◌, refl, ap, sym, subst, ◌∙◌, length, take, nat_eq, nat_lt, append_assoc, add-one, arith}
use Rattle.std.specs.List.{IsDistinct, list_all, slice_get}
use Rattle.std.specs.Cmp.{nat_eq_equiv}
use Rattle.std.proofs.lemmas.List.{take-append-le}
use Rattle.std.proofs.lemmas.List.Folds.{list_any-append}
use Rattle.std.proofs.lemmas.Map.Keys.{IsDistinct-push}
use Rattle.std.proofs.lemmas.Map.Steps.{length-le_from_distinct_below}
use Rattle.std.proofs.lemmas.Bool.Decides.{nat_tests}
use Rattle.ldap_schema.specs.Schema.{ClassModel, SchemaModel}
use Rattle.ldap_schema.specs.Superclasses.{is_among, superclasses_in, direct_superclasses, with_missing, gone_on, filled_from, with_superclasses, is_subclass, IsSubclass, is_itself, goes_up, has_known_superclasses, AreSuperclassesKnown}
use Rattle.ldap_schema.proofs.Steps.{append-nil}
use Rattle.ldap_schema.proofs.Called.{or_true as or_first}
use Rattle.ldap_schema.proofs.Chains.{and_one, and_two, or_cases, or_second}

false_true : false ≡ true → ⊥
false_true h = cc

same_number : (a b : ℕ) → nat_eq a b ≡ true → a ≡ b
same_number a b h = grind (arith, nat_tests, h)

number_same : (a : ℕ) → nat_eq a a ≡ true
number_same a = grind (arith, nat_tests)

-- members of a list and of another behind it

in_front : (xs ys : List ℕ) (c : ℕ) → is_among xs c ≡ true → is_among (xs ++ ys) c ≡ true
in_front xs ys c h = list_any-append (nat_eq c) xs ys ∙ or_first _ _ h

in_back : (xs ys : List ℕ) (c : ℕ) → is_among ys c ≡ true → is_among (xs ++ ys) c ≡ true
in_back xs ys c h = list_any-append (nat_eq c) xs ys ∙ or_second _ _ h

in_either : {P : Type 0} (xs ys : List ℕ) (c : ℕ) → is_among (xs ++ ys) c ≡ true → (is_among xs c ≡ true → P) →
    (is_among ys c ≡ true → P) → P
in_either xs ys c h f g = or_cases (is_among xs c) (is_among ys c) (sym (list_any-append (nat_eq c) xs ys) ∙ h) f g

in_one : (c d : ℕ) → is_among (d ∷ []) c ≡ true → c ≡ d
in_one c d h = or_cases (nat_eq c d) false h (same_number c d) (λ z. absurd (false_true z))

one_in : (c : ℕ) → is_among (c ∷ []) c ≡ true
one_in c = or_first _ _ (number_same c)

-- what is added for the missing ones stands behind

more_by : (have : List ℕ) (c : ℕ) (cs : List ℕ) (b : Bool) → is_among have c ≡ b → ((h : List ℕ) → (more : List ℕ)
    × (with_missing h cs ≡ h ++ more)) → (more : List ℕ) × (with_missing have (c ∷ cs) ≡ have ++ more)
more_by have c cs true e further = let m = further have
    in (m.0, ap (λ (x : Bool). with_missing (cond x have (have ++ c ∷ [])) cs) e ∙ m.1)
more_by have c cs false e further =
    let m = further (have ++ c ∷ []) in (
      c ∷ m.0,
      ap (λ (x : Bool). with_missing (cond x have (have ++ c ∷ [])) cs) e ∙ m.1 ∙ append_assoc have (c ∷
          []) m.0,
    )

more_of : (have cs : List ℕ) → (more : List ℕ) × (with_missing have cs ≡ have ++ more)
more_of have [] = ([], sym (append-nil have))
more_of have (c ∷ cs) = more_by have c cs (is_among have c) refl (λ h. more_of h cs)

kept : (have cs : List ℕ) (c : ℕ) → is_among have c ≡ true → is_among (with_missing have cs) c ≡ true
kept have cs c h = let m = more_of have cs in ap (λ (x : List ℕ). is_among x c) m.1 ∙ in_front have m.0 c h

now_in : (have : List ℕ) (c : ℕ) (b : Bool) → is_among have c ≡ b → is_among (cond b have (have ++ c ∷ [])) c ≡ true
now_in have c true e = e
now_in have c false e = in_back have (c ∷ []) c (one_in c)

all_in : (have cs : List ℕ) (u : ℕ) → is_among cs u ≡ true → is_among (with_missing have cs) u ≡ true
all_in have [] u h = absurd (false_true h)
all_in have (c ∷ cs) u h =
    or_cases (nat_eq u c) (is_among cs u) h
    (λ e. subst (λ (x : ℕ). is_among (with_missing (cond (is_among have c) have (have ++ c ∷ [])) cs) x ≡ true)
    (sym (same_number u c e))
    (kept (cond (is_among have c) have (have ++ c ∷ [])) cs c (now_in have c (is_among have c) refl)))
    (all_in (cond (is_among have c) have (have ++ c ∷ [])) cs u)

-- what holds of all members goes on holding

grown_by : (Q : ℕ → Type 0) (have : List ℕ) (c : ℕ) (b : Bool) → ((x : ℕ) → is_among have x ≡ true → Q x) → Q c →
    (x : ℕ) → is_among (cond b have (have ++ c ∷ [])) x ≡ true → Q x
grown_by Q have c true all q x h = all x h
grown_by Q have c false all q x h = in_either have (c ∷ []) x h (all x) (λ e. subst Q (sym (in_one x c e)) q)

all_hold : (Q : ℕ → Type 0) (have cs : List ℕ) → ((x : ℕ) → is_among have x ≡ true → Q x) →
    ((x : ℕ) → is_among cs x ≡ true → Q x) → (x : ℕ) → is_among (with_missing have cs) x ≡ true → Q x
all_hold Q have [] old new x h = old x h
all_hold Q have (c ∷ cs) old new x h =
    all_hold Q (cond (is_among have c) have (have ++ c ∷ [])) cs (grown_by Q have c (is_among have c) old
    (new c (or_first _ _ (number_same c))))
    (λ y k. new y (or_second _ _ k)) x h

distinct_by : (have : List ℕ) (c : ℕ) (b : Bool) → is_among have c ≡ b → IsDistinct nat_eq have →
    IsDistinct nat_eq (cond b have (have ++ c ∷ []))
distinct_by have c true e d = d
distinct_by have c false e d = IsDistinct-push nat_eq_equiv have c d e

distinct : (have cs : List ℕ) → IsDistinct nat_eq have → IsDistinct nat_eq (with_missing have cs)
distinct have [] d = d
distinct have (c ∷ cs) d = distinct (cond (is_among have c) have (have ++ c ∷ [])) cs
    (distinct_by have c (is_among have c) refl d)

-- the class at a place

at_in : (xs : List ℕ) (i c : ℕ) → slice_get xs i ≡ Some c → is_among xs c ≡ true
at_in [] zero c e = absurd (cc)
at_in [] (suc i) c e = absurd (cc)
at_in (x ∷ xs) zero c e = or_first _ _ (let h : x ≡ c = cc in subst (λ (y : ℕ). nat_eq c y ≡ true) (sym h)
    (number_same c))
at_in (x ∷ xs) (suc i) c e = or_second _ _ (at_in xs i c e)

front_with : (xs : List ℕ) (i c : ℕ) → slice_get xs i ≡ Some c → take (suc i) xs ≡ take i xs ++ c ∷ []
front_with [] zero c e = absurd (cc)
front_with [] (suc i) c e = absurd (cc)
front_with (x ∷ xs) zero c e = let h : x ≡ c = cc in ap (λ (y : ℕ). y ∷ []) h
front_with (x ∷ xs) (suc i) c e = ap (λ (y : List ℕ). x ∷ y) (front_with xs i c e)

at_within : (xs : List ℕ) (i c : ℕ) → slice_get xs i ≡ Some c → i < length xs
at_within [] zero c e = absurd (cc)
at_within [] (suc i) c e = absurd (cc)
at_within (x ∷ xs) zero c e = omega arith
at_within (x ∷ xs) (suc i) c e = omega (arith, at_within xs i c e)

past_of : (xs : List ℕ) (i : ℕ) → slice_get xs i ≡ None → length xs ≤ i
past_of [] i e = omega arith
past_of (x ∷ xs) zero e = absurd (cc)
past_of (x ∷ xs) (suc i) e = omega (arith, past_of xs i e)

whole : (xs : List ℕ) (i : ℕ) → length xs ≤ i → take i xs ≡ xs
whole [] zero h = refl
whole [] (suc i) h = refl
whole (x ∷ xs) zero h = absurd (omega (arith, h))
whole (x ∷ xs) (suc i) h = ap (λ (y : List ℕ). x ∷ y) (whole xs i (omega (arith, h)))

-- superclasses are classes of the table

below_of : (n : ℕ) (cs : List ℕ) (u : ℕ) → list_all (λ d. nat_lt d n) cs ≡ true → is_among cs u ≡ true → u < n
below_of n [] u h m = absurd (false_true m)
below_of n (c ∷ cs) u h m =
    or_cases (nat_eq u c) (is_among cs u) m
    (λ e. let lt : nat_lt c n ≡ true = and_one _ _ h in let same : u ≡ c = same_number u c e in grind
    (arith, nat_tests, lt, same))
    (below_of n cs u (and_two _ _ h))

known_at : (n : ℕ) (classes : List ClassModel) (c : ℕ) (x : ClassModel) → list_all (has_known_superclasses n)
    classes ≡ true → slice_get classes c ≡ Some x → has_known_superclasses n x ≡ true
known_at n [] zero x h e = absurd (cc)
known_at n [] (suc c) x h e = absurd (cc)
known_at n (y ∷ classes) zero x h e = let s : y ≡ x = cc in subst (λ (z : ClassModel). has_known_superclasses n z ≡
    true) s (and_one _ _ h)
known_at n (y ∷ classes) (suc c) x h e = known_at n classes c x (and_two _ _ h) e

direct_of : (classes : List ClassModel) (c u : ℕ) (o : Option ClassModel) → slice_get classes c ≡ o →
    AreSuperclassesKnown classes → is_among (superclasses_in o) u ≡ true → u < length classes
direct_of classes c u None e known h = absurd (false_true h)
direct_of classes c u (Some x) e known h = below_of (length classes) x.superiors u (known_at (length classes) classes
    c x known e) h

direct_below : (classes : List ClassModel) (c u : ℕ) → AreSuperclassesKnown classes →
    is_among (direct_superclasses classes c) u ≡ true → u < length classes
direct_below classes c u known h = direct_of classes c u (slice_get classes c) refl known h

pub within_of : (classes : List ClassModel) (c u : ℕ) → is_among (direct_superclasses classes c) u ≡ true →
    c < length classes
within_of [] zero u h = absurd (false_true h)
within_of [] (suc c) u h = absurd (false_true h)
within_of (x ∷ classes) zero u h = omega arith
within_of (x ∷ classes) (suc c) u h = omega (arith, within_of classes c u h)

-- the filled list is closed

abbrev Closed : List ClassModel → List ℕ → Type 0
Closed classes have = (c u : ℕ) → is_among have c ≡ true → is_among (direct_superclasses classes c) u ≡ true →
    is_among have u ≡ true

abbrev Done : List ClassModel → ℕ → List ℕ → Type 0
Done classes i have = (c u : ℕ) → is_among (take i have) c ≡ true → is_among (direct_superclasses classes c) u ≡
    true → is_among have u ≡ true

closed_at_end : (classes : List ClassModel) (i : ℕ) (have : List ℕ) → length have ≤ i → Done classes i have →
    Closed classes have
closed_at_end classes i have le d c u h = d c u (ap (λ (x : List ℕ). is_among x c) (whole have i le) ∙ h)

done_more : (classes : List ClassModel) (i c : ℕ) (have : List ℕ) → slice_get have i ≡ Some c → Done classes i have →
    Done classes (i + 1) (with_missing have (direct_superclasses classes c))
done_more classes i c have e d x u h up =
    let m = more_of have (direct_superclasses classes c) in
    let within : i < length have = at_within have i c e in
    let front : take (i + 1) (with_missing have (direct_superclasses classes c)) ≡ take i have ++ c ∷ [] =
    ap (take (i + 1)) m.1 ∙ take-append-le (i + 1) have m.0 (omega arith) ∙ ap (λ (n : ℕ). take n have) (add-one i)
    ∙ front_with have i c e in
    in_either (take i have) (c ∷ []) x (sym (ap (λ (l : List ℕ). is_among l x) front) ∙ h)
    (λ k. kept have (direct_superclasses classes c) u (d x u k up))
    (λ k. all_in have (direct_superclasses classes c) u
    (subst (λ (y : ℕ). is_among (direct_superclasses classes y) u ≡ true) (in_one x c k) up))

abbrev next_of : List ClassModel → ℕ → ℕ → List ℕ → ℕ → List ℕ
next_of classes k i have c = filled_from k classes (i + 1) (with_missing have (direct_superclasses classes c))

closed_by : (classes : List ClassModel) (k i : ℕ) (have : List ℕ) → Done classes i have → (o : Option ℕ) →
    slice_get have i ≡ o → ((c : ℕ) → slice_get have i ≡ Some c → Closed classes (next_of classes k i have c))
    → Closed classes (gone_on o have (next_of classes k i have))
closed_by classes k i have done None e further = closed_at_end classes i have (past_of have i e) done
closed_by classes k i have done (Some c) e further = further c e

filled_closed : (classes : List ClassModel) → AreSuperclassesKnown classes → (k i : ℕ) (have : List ℕ) →
    IsDistinct nat_eq have → ((x : ℕ) → is_among have x ≡ true → x < length classes) → Done classes i have →
    length classes ≤ k + i
    → Closed classes (filled_from k classes i have)
filled_closed classes known zero i have d below done le =
    closed_at_end classes i have (let n : length have ≤ length classes = length-le_from_distinct_below have
    (length classes) d below in omega arith) done
filled_closed classes known (suc k) i have d below done le =
    closed_by classes k i have done (slice_get have i) refl
    (λ c e. filled_closed classes known k (i + 1) (with_missing have (direct_superclasses classes c))
    (distinct have (direct_superclasses classes c) d)
    (all_hold (λ x. x < length classes) have (direct_superclasses classes c) below (λ u h. direct_below classes c u
    known h))
    (done_more classes i c have e done) (omega (arith, le)))

start_by : (classes : List ClassModel) (k i : ℕ) (have : List ℕ) (a : ℕ) → is_among have a ≡ true → (o : Option ℕ) →
    ((c : ℕ) → is_among (next_of classes k i have c) a ≡ true) → is_among (gone_on o have (next_of classes k i have))
    a ≡ true
start_by classes k i have a h None further = h
start_by classes k i have a h (Some c) further = further c

start_kept : (classes : List ClassModel) (k i : ℕ) (have : List ℕ) (a : ℕ) → is_among have a ≡ true →
    is_among (filled_from k classes i have) a ≡ true
start_kept classes zero i have a h = h
start_kept classes (suc k) i have a h =
    start_by classes k i have a h (slice_get have i) (λ c. start_kept classes k (i + 1)
    (with_missing have (direct_superclasses classes c)) a (kept have (direct_superclasses classes c) a h))

-- the chain and the filled list

climbed : (s : SchemaModel) (a b : ℕ) (row : List ℕ) → IsSubclass s a b → is_among row a ≡ true →
    Closed s.classes row → is_among row b ≡ true
climbed s a b row is_itself h closed = h
climbed s a b row (goes_up u e rest) h closed = climbed s u b row rest (closed a u h e) closed

up_further : (s : SchemaModel) (a b u : ℕ) → IsSubclass s a b → is_among (direct_superclasses s.classes b) u ≡ true →
    IsSubclass s a u
up_further s a b u is_itself h = goes_up u h is_itself
up_further s a b u (goes_up v e rest) h = goes_up v e (up_further s v b u rest h)

chain_by : (s : SchemaModel) (a k i : ℕ) (have : List ℕ) → ((x : ℕ) → is_among have x ≡ true → IsSubclass s a x) →
    (x : ℕ) (o : Option ℕ) → slice_get have i ≡ o
    → ((c : ℕ) → slice_get have i ≡ Some c → is_among (next_of s.classes k i have c) x ≡ true → IsSubclass s a x) →
    is_among (gone_on o have (next_of s.classes k i have)) x ≡ true → IsSubclass s a x
chain_by s a k i have all x None e further h = all x h
chain_by s a k i have all x (Some c) e further h = further c e h

chain_of : (s : SchemaModel) (a k i : ℕ) (have : List ℕ) → ((x : ℕ) → is_among have x ≡ true → IsSubclass s a x) →
    (x : ℕ) → is_among (filled_from k s.classes i have) x ≡ true → IsSubclass s a x
chain_of s a zero i have all x h = all x h
chain_of s a (suc k) i have all x h =
    chain_by s a k i have all x (slice_get have i) refl
    (λ c e. chain_of s a k (i + 1) (with_missing have (direct_superclasses s.classes c))
    (all_hold (IsSubclass s a) have (direct_superclasses s.classes c) all
    (λ u m. up_further s a c u (all c (at_in have i c e)) m)) x) h

pub chain_from_list : (s : SchemaModel) (a b : ℕ) → is_subclass s a b ≡ true → IsSubclass s a b
chain_from_list s a b h =
    or_cases (nat_eq a b) (is_among (with_superclasses s (a ∷ [])) b) h
    (λ e. subst (λ (x : ℕ). IsSubclass s a x) (same_number a b e) is_itself)
    (chain_of s a (1 + length s.classes) 0 (a ∷ []) (λ x m. subst (λ (y : ℕ). IsSubclass s a y) (sym (in_one x a m))
    is_itself) b)

one_distinct : (a : ℕ) → IsDistinct nat_eq (a ∷ [])
unfolding IsDistinct
one_distinct a = (tt, tt)

pub list_from_chain : (s : SchemaModel) (a b : ℕ) → AreSuperclassesKnown s.classes → IsSubclass s a b →
    is_subclass s a b ≡ true
list_from_chain s a b known is_itself = or_first _ _ (number_same a)
list_from_chain s a b known (goes_up u e rest) =
    or_second (nat_eq a b) _
    (climbed s a b (with_superclasses s (a ∷ [])) (goes_up u e rest) (start_kept s.classes (1 + length s.classes) 0
    (a ∷ []) a (one_in a))
    (filled_closed s.classes known (1 + length s.classes) 0 (a ∷ []) (one_distinct a)
    (λ x m. subst (λ (y : ℕ). y < length s.classes) (sym (in_one x a m)) (within_of s.classes a u e))
    (λ x v m. absurd (false_true m)) (omega arith)))

-- a test that says what the list says, as the chain
pub as_lineage : (s : SchemaModel) (a b : ℕ) (r : Bool) → AreSuperclassesKnown s.classes → r ≡ is_subclass s a b →
    IsTrue r ↔ IsSubclass s a b
as_lineage s a b r known e = (λ t. chain_from_list s a b (sym e ∙ t), λ u. e ∙ list_from_chain s a b known u)
