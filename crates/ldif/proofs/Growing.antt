-- LDIF and messages: the attributes of one line more. Shown by the lines that are the first of their type, whose types
-- differ from one another: another line either adds one of these, or its value belongs to exactly one of them.
use Rattle.std.proofs.Common.{◌≡◌, ℕ, zero, suc, ◌+◌, ◌≤◌, ◌<◌, List, [], ◌∷◌, ◌++◌, length, take, get_or, set, Bool, true, false, ◌||◌, cond, Option, None, Some, map, filter, refl, sym, ap, ap₂, ◌∙◌, arith}
use Rattle.std.proofs.lemmas.List.{append_assoc, map-append, append-nil, take_more, length-map}
use Rattle.std.proofs.Math.Bool.{or-true, or-false, or_assoc}
use Rattle.std.proofs.lemmas.List.Elements.{filter-append}
use Rattle.std.proofs.lemmas.List.Folds.{list_any-append}
use Rattle.std.specs.List.{list_any, position_from}
use Rattle.std.specs.Str.{bytes_eq}
use Rattle.std.proofs.lemmas.Slice.Eq.{bytes_eq-Decides}
use Rattle.ldif.specs.Records.{ValueModel}
use Rattle.ldap_msg.specs.Messages.{PartialAttributeValue}
use Rattle.ldif.specs.Adds.{is_of, values_of, if_first, firsts, attribute_of, attributes_of}
use Rattle.ldif.specs.private.Adding.{lower_type, has_type, with_value, joined, with_line, kept_or}

-- two texts are the same where the test says so
same : (a b : List ℕ) → bytes_eq a b ≡ true → a ≡ b
same a b h = (bytes_eq-Decides a b).0 h

differ_by : (a b : List ℕ) (t : Bool) → bytes_eq b a ≡ t → bytes_eq a b ≡ false → t ≡ false
differ_by a b true e h = sym e ∙ ap (λ z. bytes_eq z a) (same b a e) ∙ ap (bytes_eq a) (sym (same b a e)) ∙ h
differ_by a b false e h = refl

differ : (a b : List ℕ) → bytes_eq a b ≡ false → bytes_eq b a ≡ false
differ a b h = differ_by a b (bytes_eq b a) refl h

-- the lines that are the first of their type, when another line comes
pub firsts_snoc : (before xs : List ValueModel) (v : ValueModel) → firsts before (xs ++ v ∷ []) ≡ firsts before
    xs ++ if_first (before ++ xs) v
firsts_snoc before [] v = append-nil (if_first before v) ∙ ap (λ l. if_first l v) (sym (append-nil before))
firsts_snoc before (x ∷ xs) v =
    ap (λ l. if_first before x ++ l) (firsts_snoc (before ++ x ∷ []) xs v)
    ∙ ap (λ l. if_first before x ++ (firsts (before ++ x ∷ []) xs ++ if_first l v)) (append_assoc before (x ∷ []) xs)
    ∙ sym (append_assoc (if_first before x) (firsts (before ++ x ∷ []) xs) (if_first (before ++ x ∷ xs) v))

-- a type that some line before has is no type of the firsts
known_by : (q : List ℕ) (before : List ValueModel) (x : ValueModel) (t u : Bool) → list_any (is_of x.description)
    before ≡ t → has_type q x ≡ u → list_any (has_type q) before ≡ true
    → list_any (has_type q) (cond t [] (x ∷ [])) ≡ false
known_by q before x true u c e h = refl
known_by q before x false true c e h = let s : q ≡ lower_type x = same q (lower_type x) e in let n : true ≡ false =
    sym h ∙ ap (λ z. list_any (has_type z) before) s ∙ c in cc
known_by q before x false false c e h = ap (λ b. b || false) e

pub known : (q : List ℕ) (before xs : List ValueModel) → list_any (has_type q) before ≡ true →
    list_any (has_type q) (firsts before xs) ≡ false
known q before [] e = refl
known q before (x ∷ xs) e =
    list_any-append (has_type q) (if_first before x) (firsts (before ++ x ∷ []) xs)
    ∙ ap₂ (λ a b. a || b) (known_by q before x (list_any (is_of x.description) before) (has_type q x) refl refl e)
    (known q (before ++ x ∷ []) xs (list_any-append (has_type q) before (x ∷ [])
    ∙ ap (λ b. b || list_any (has_type q) (x ∷ [])) e))

-- lines whose types differ from one another
abbrev pub Distinct : List ValueModel → Type 0
Distinct [] = Unit {0}
Distinct (u ∷ us) = (list_any (has_type (lower_type u)) us ≡ false) × Distinct us

distinct_by : (before xs : List ValueModel) (x : ValueModel) (t : Bool) → list_any (has_type (lower_type x))
    (before ++ x ∷ []) ≡ true → Distinct (firsts (before ++ x ∷ []) xs)
    → Distinct (cond t [] (x ∷ []) ++ firsts (before ++ x ∷ []) xs)
distinct_by before xs x true e d = d
distinct_by before xs x false e d = (known (lower_type x) (before ++ x ∷ []) xs e, d)

-- a line's type is among those of lines that it stands behind
own_type : (before : List ValueModel) (x : ValueModel) → list_any (has_type (lower_type x)) (before ++ x ∷ []) ≡ true
own_type before x = list_any-append (has_type (lower_type x)) before (x ∷ [])
    ∙ ap (λ b. list_any (has_type (lower_type x)) before || (b || false))
    ((bytes_eq-Decides (lower_type x) (lower_type x)).1 refl) ∙ or-true (list_any (has_type (lower_type x)) before)

pub firsts_are_distinct : (before xs : List ValueModel) → Distinct (firsts before xs)
firsts_are_distinct before [] = tt
firsts_are_distinct before (x ∷ xs) = distinct_by before xs x (list_any (is_of x.description) before)
    (own_type before x) (firsts_are_distinct (before ++ x ∷ []) xs)

-- the firsts have the types that the lines have
has_all_by : (q : List ℕ) (before : List ValueModel) (x : ValueModel) (t u : Bool) (rest all : Bool) →
    list_any (is_of x.description) before ≡ t → has_type q x ≡ u
    → (list_any (has_type q) before || u || rest) ≡ (list_any (has_type q) before || u || all)
    → (list_any (has_type q) before || (list_any (has_type q) (cond t [] (x ∷ [])) || rest)) ≡
    (list_any (has_type q) before || (u || all))
has_all_by q before x true true rest all c e h =
    let seen : list_any (has_type q) before ≡ true = ap (λ z. list_any (has_type z) before) (same q (lower_type x) e)
    ∙ c in
    ap (λ b. b || (false || rest)) seen ∙ sym (ap (λ b. b || (true || all)) seen)
has_all_by q before x true false rest all c e h = sym (or_assoc (list_any (has_type q) before) false rest) ∙ h
    ∙ or_assoc (list_any (has_type q) before) false all
has_all_by q before x false true rest all c e h = ap (λ z. list_any (has_type q) before || ((z || false) || rest)) e
has_all_by q before x false false rest all c e h =
    ap (λ z. list_any (has_type q) before || ((z || false) || rest)) e
    ∙ sym (or_assoc (list_any (has_type q) before) false rest) ∙ h ∙ or_assoc (list_any (has_type q) before) false
    all

pub have_all : (q : List ℕ) (before xs : List ValueModel) →
    (list_any (has_type q) before || list_any (has_type q) (firsts before xs)) ≡
    (list_any (has_type q) before || list_any (has_type q) xs)
have_all q before [] = refl
have_all q before (x ∷ xs) =
    ap (λ b. list_any (has_type q) before || b) (list_any-append (has_type q) (if_first before x)
    (firsts (before ++ x ∷ []) xs))
    ∙ has_all_by q before x (list_any (is_of x.description) before) (has_type q x)
    (list_any (has_type q) (firsts (before ++ x ∷ []) xs)) (list_any (has_type q) xs) refl refl
    (sym (ap (λ b. b || list_any (has_type q) (firsts (before ++ x ∷ []) xs)) (list_any-append (has_type q) before
    (x ∷ []) ∙ ap (λ b. list_any (has_type q) before || b) (or-false (has_type q x))))
    ∙ have_all q (before ++ x ∷ []) xs
    ∙ ap (λ b. b || list_any (has_type q) xs) (list_any-append (has_type q) before (x ∷ [])
    ∙ ap (λ b. list_any (has_type q) before || b) (or-false (has_type q x))))

-- the values of a type, when another line comes
pub values_snoc : (w : List ℕ) (xs : List ValueModel) (v : ValueModel) → values_of w (xs ++ v ∷ []) ≡
    values_of w xs ++ values_of w (v ∷ [])
values_snoc w xs v = ap (map (λ x. x.octets)) (filter-append (is_of w) xs (v ∷ [])) ∙ map-append (λ x. x.octets)
    (filter (is_of w) xs) (filter (is_of w) (v ∷ []))

none_by : (w : List ℕ) (x : ValueModel) (xs : List ValueModel) (t : Bool) → is_of w x ≡ t →
    (t || list_any (is_of w) xs) ≡ false → values_of w xs ≡ [] → values_of w (x ∷ xs) ≡ []
none_by w x xs true e h so_far = cc
none_by w x xs false e h so_far =
    ap (λ b. map (λ z. z.octets) (cond b (x ∷ filter (is_of w) xs) (filter (is_of w) xs))) e ∙ so_far

rest_has_none : (t u : Bool) → (t || u) ≡ false → u ≡ false
rest_has_none true u h = cc
rest_has_none false u h = h

pub no_values : (w : List ℕ) (xs : List ValueModel) → list_any (is_of w) xs ≡ false → values_of w xs ≡ []
no_values w [] h = refl
no_values w (x ∷ xs) h = none_by w x xs (is_of w x) refl h
    (no_values w xs (rest_has_none (is_of w x) (list_any (is_of w) xs) h))

-- an attribute, when a line of its type or of another type comes
other_by : (xs : List ValueModel) (v u : ValueModel) (t : Bool) → is_of u.description v ≡ t → t ≡ false →
    attribute_of (xs ++ v ∷ []) u ≡ attribute_of xs u
other_by xs v u true e h = cc
other_by xs v u false e h =
    ap (λ vs. record { description = u.description; values = vs })
    (values_snoc u.description xs v ∙ ap (λ b. values_of u.description xs ++ map (λ z. z.octets) (cond b (v ∷ []) []))
    e ∙ append-nil (values_of u.description xs))

own_by : (xs : List ValueModel) (v u : ValueModel) → is_of u.description v ≡ true → attribute_of (xs ++ v ∷ []) u ≡
    with_value (attribute_of xs u) v.octets
own_by xs v u e =
    ap (λ vs. record { description = u.description; values = vs })
    (values_snoc u.description xs v ∙ ap (λ b. values_of u.description xs ++ map (λ z. z.octets) (cond b (v ∷ []) []))
    e)

head_has_none : (t u : Bool) → (t || u) ≡ false → t ≡ false
head_has_none true u h = cc
head_has_none false u h = refl

pub others : (xs : List ValueModel) (v : ValueModel) (us : List ValueModel) → list_any (has_type (lower_type v)) us ≡
    false → map (attribute_of (xs ++ v ∷ [])) us ≡ map (attribute_of xs) us
others xs v [] h = refl
others xs v (u ∷ us) h =
    ap₂ (λ a more. a ∷ more)
    (other_by xs v u (is_of u.description v) refl (differ (lower_type v) (lower_type u)
    (head_has_none (has_type (lower_type v) u) (list_any (has_type (lower_type v)) us) h)))
    (others xs v us (rest_has_none (has_type (lower_type v) u) (list_any (has_type (lower_type v)) us) h))

-- an index that is found is not before the first that is asked
past_by : (k m : ℕ) (t : Bool) (o : Option ℕ) → (o ≡ Some m → k + 1 ≤ m) → cond t (Some k) o ≡ Some m → k ≤ m
past_by k m true o f h = let s : k ≡ m = cc in omega (arith, s)
past_by k m false o f h = omega (arith, f h)

past : {A : Type 0} (p : A → Bool) (k : ℕ) (xs : List A) (m : ℕ) → position_from p k xs ≡ Some m → k ≤ m
past p k [] m h = cc
past p k (x ∷ xs) m h = past_by k m (p x) (position_from p (k + 1) xs) (λ e. past p (k + 1) xs m e) h

-- the attributes, when the value goes to the one at an index
joins_by : (xs : List ValueModel) (v u : ValueModel) (us : List ValueModel) (k n : ℕ) (t : Bool) →
    has_type (lower_type v) u ≡ t → Distinct (u ∷ us)
    → cond t (Some k) (position_from (has_type (lower_type v)) (k + 1) us) ≡ Some (k + n)
    → ((m : ℕ) → position_from (has_type (lower_type v)) (k + 1) us ≡ Some (k + 1 + m) →
    map (attribute_of (xs ++ v ∷ [])) us ≡ joined (map (attribute_of xs) us) m v.octets)
    → map (attribute_of (xs ++ v ∷ [])) (u ∷ us) ≡ joined (map (attribute_of xs) (u ∷ us)) n v.octets
joins_by xs v u us k zero true e d h more =
    ap₂ (λ a rest. a ∷ rest)
    (own_by xs v u (ap (λ z. bytes_eq (lower_type u) z) (same (lower_type v) (lower_type u) e)
    ∙ (bytes_eq-Decides (lower_type u) (lower_type u)).1 refl))
    (others xs v us (ap (λ z. list_any (has_type z) us) (same (lower_type v) (lower_type u) e) ∙ d.0))
joins_by xs v u us k (suc n) true e d h more = let s : k ≡ k + suc n = cc in absurd (omega (arith, s))
joins_by xs v u us k zero false e d h more = let s : k + 1 ≤ k + zero = past (has_type (lower_type v)) (k + 1) us
    (k + zero) h in absurd (omega (arith, s))
joins_by xs v u us k (suc n) false e d h more =
    ap₂ (λ a rest. a ∷ rest) (other_by xs v u (is_of u.description v) refl (differ (lower_type v) (lower_type u) e))
    (more n (h ∙ ap Some (omega arith)))

pub joins_at : (xs : List ValueModel) (v : ValueModel) (us : List ValueModel) (k n : ℕ) → Distinct us →
    position_from (has_type (lower_type v)) k us ≡ Some (k + n)
    → map (attribute_of (xs ++ v ∷ [])) us ≡ joined (map (attribute_of xs) us) n v.octets
joins_at xs v [] k n d h = cc
joins_at xs v (u ∷ us) k n d h = joins_by xs v u us k n (has_type (lower_type v) u) refl d h
    (λ m e. joins_at xs v us (k + 1) m d.1 e)

-- what is found among lines and a further one
found_more_by : (q : List ℕ) (us : List ValueModel) (v : ValueModel) (k : ℕ) (t : Bool) → position_from (has_type q)
    (k + 1) (us ++ v ∷ []) ≡ kept_or (position_from (has_type q) (k + 1) us) (has_type q v) (k + 1 + length us)
    → cond t (Some k) (position_from (has_type q) (k + 1) (us ++ v ∷ [])) ≡
    kept_or (cond t (Some k) (position_from (has_type q) (k + 1) us)) (has_type q v) (k + suc (length us))
found_more_by q us v k true h = refl
found_more_by q us v k false h = h ∙ ap (kept_or (position_from (has_type q) (k + 1) us) (has_type q v)) (omega arith)

pub found_more : (q : List ℕ) (us : List ValueModel) (v : ValueModel) (k : ℕ) → position_from (has_type q) k
    (us ++ v ∷ []) ≡ kept_or (position_from (has_type q) k us) (has_type q v) (k + length us)
found_more q [] v k = ap (λ i. cond (has_type q v) (Some i) None) (omega arith)
found_more q (u ∷ us) v k = found_more_by q us v k (has_type q u) (found_more q us v (k + 1))

-- whether a type is found
is_found_by : (q : List ℕ) (us : List ValueModel) (k : ℕ) (t : Bool) (o : Option ℕ) →
    (o ≡ None → list_any (has_type q) us ≡ false) → cond t (Some k) o ≡ None → (t || list_any (has_type q) us) ≡ false
is_found_by q us k true o f h = cc
is_found_by q us k false o f h = f h

pub not_found : (q : List ℕ) (us : List ValueModel) (k : ℕ) → position_from (has_type q) k us ≡ None →
    list_any (has_type q) us ≡ false
not_found q [] k h = refl
not_found q (u ∷ us) k h = is_found_by q us k (has_type q u) (position_from (has_type q) (k + 1) us)
    (λ e. not_found q us (k + 1) e) h

there_by : (us : List ValueModel) (q : List ℕ) (k n : ℕ) (t : Bool) (o : Option ℕ) →
    (o ≡ Some n → list_any (has_type q) us ≡ true) → cond t (Some k) o ≡ Some n → (t || list_any (has_type q) us) ≡ true
there_by us q k n true o f h = refl
there_by us q k n false o f h = f h

pub is_there : (q : List ℕ) (us : List ValueModel) (k n : ℕ) → position_from (has_type q) k us ≡ Some n →
    list_any (has_type q) us ≡ true
is_there q [] k n h = cc
is_there q (u ∷ us) k n h = there_by us q k n (has_type q u) (position_from (has_type q) (k + 1) us)
    (λ e. is_there q us (k + 1) n e) h

-- The attributes of one line more, from those before it.
attributes_by : (xs : List ValueModel) (v : ValueModel) (t : Bool) (o : Option ℕ) → list_any (has_type (lower_type v))
    xs ≡ t → position_from (has_type (lower_type v)) 0 (firsts [] xs) ≡ o
    → list_any (has_type (lower_type v)) (firsts [] xs) ≡ t
    → with_line (attributes_of xs) o v ≡ map (attribute_of (xs ++ v ∷ [])) (firsts [] xs ++ cond t [] (v ∷ []))
attributes_by xs v true None c p l = let n : true ≡ false = sym l ∙ not_found (lower_type v) (firsts [] xs) 0 p in cc
attributes_by xs v true (Some n) c p l =
    sym (joins_at xs v (firsts [] xs) 0 n (firsts_are_distinct [] xs) (p ∙ ap Some (omega arith)))
    ∙ ap (map (attribute_of (xs ++ v ∷ []))) (sym (append-nil (firsts [] xs)))
attributes_by xs v false (Some n) c p l = let f : true ≡ false = sym (is_there (lower_type v) (firsts [] xs) 0 n p)
    ∙ l in cc
attributes_by xs v false None c p l =
    ap₂ (λ a b. a ++ record { description = v.description; values = b } ∷ []) (sym (others xs v (firsts [] xs) l))
    (sym (values_snoc v.description xs v ∙ ap₂ (λ a b. a ++ map (λ z. z.octets) (cond b (v ∷ []) []))
    (no_values v.description xs c) ((bytes_eq-Decides (lower_type v) (lower_type v)).1 refl)))
    ∙ sym (map-append (attribute_of (xs ++ v ∷ [])) (firsts [] xs) (v ∷ []))

pub attributes_more : (xs : List ValueModel) (v : ValueModel) (o : Option ℕ) →
    o ≡ position_from (has_type (lower_type v)) 0 (firsts [] xs)
    → with_line (attributes_of xs) o v ≡ attributes_of (xs ++ v ∷ [])
attributes_more xs v o p =
    attributes_by xs v (list_any (has_type (lower_type v)) xs) o refl (sym p) (have_all (lower_type v) [] xs)
    ∙ ap (map (attribute_of (xs ++ v ∷ []))) (sym (firsts_snoc [] xs v))

-- The indexes of one line more.
stays_found : (q : List ℕ) (us : List ValueModel) (v : ValueModel) (t : Bool) (o : Option ℕ) (n : ℕ) → has_type q v ≡
    t → position_from (has_type q) 0 us ≡ o
    → list_any (has_type (lower_type v)) us ≡ true → o ≡ kept_or o t n
stays_found q us v t (Some m) n e p l = refl
stays_found q us v false None n e p l = refl
stays_found q us v true None n e p l = let f : true ≡ false = sym l ∙ ap (λ z. list_any (has_type z) us)
    (sym (same q (lower_type v) e)) ∙ not_found q us 0 p in cc

indexes_by : (q : List ℕ) (xs : List ValueModel) (v : ValueModel) (t : Bool) → list_any (has_type (lower_type v))
    (firsts [] xs) ≡ t
    → position_from (has_type q) 0 (firsts [] xs ++ cond t [] (v ∷ [])) ≡
    kept_or (position_from (has_type q) 0 (firsts [] xs)) (has_type q v) (length (firsts [] xs))
indexes_by q xs v true l =
    ap (position_from (has_type q) 0) (append-nil (firsts [] xs))
    ∙ stays_found q (firsts [] xs) v (has_type q v) (position_from (has_type q) 0 (firsts [] xs))
    (length (firsts [] xs)) refl refl l
indexes_by q xs v false l = found_more q (firsts [] xs) v 0
    ∙ ap (kept_or (position_from (has_type q) 0 (firsts [] xs)) (has_type q v)) (omega arith)

pub indexes_more : (q : List ℕ) (xs : List ValueModel) (v : ValueModel)
    → position_from (has_type q) 0 (firsts [] (xs ++ v ∷ [])) ≡ kept_or (position_from (has_type q) 0 (firsts [] xs))
    (has_type q v) (length (firsts [] xs))
indexes_more q xs v =
    ap (position_from (has_type q) 0) (firsts_snoc [] xs v) ∙ indexes_by q xs v (list_any (has_type (lower_type v))
    xs) (have_all (lower_type v) [] xs)

-- the lines before an index and the one at it
pub taken_more : (vs : List ValueModel) (i : ℕ) (v : ValueModel) → i < length vs → v ≡ get_or vs i v →
    take (i + 1) vs ≡ take i vs ++ v ∷ []
taken_more vs i v lt is = take_more vs i v lt ∙ ap (λ x. take i vs ++ x ∷ []) (sym is)

-- two lists of which each element is made of one of the other's are of one length
pub counted : {A B C : Type 0} (f : A → C) (g : B → C) (xs : List A) (ys : List B) → map f xs ≡ map g ys →
    length xs ≡ length ys
counted f g xs ys h = sym (length-map xs f) ∙ ap length h ∙ length-map ys g

-- the attributes, where the one at an index is replaced
pub replaced : {A : Type 0} (view : A → PartialAttributeValue) (xs : List A) (n : ℕ) (a d : A) (octets : List ℕ) →
    n < length xs → view a ≡ with_value (view (get_or xs n d)) octets
    → map view (set xs n a) ≡ joined (map view xs) n octets
replaced view [] n a d octets lt h = absurd (omega (arith, lt))
replaced view (x ∷ xs) zero a d octets lt h = ap (λ b. b ∷ map view xs) h
replaced view (x ∷ xs) (suc n) a d octets lt h = ap (λ l. view x ∷ l) (replaced view xs n a d octets
    (omega (arith, lt)) h)

-- where there is none at an index, none is changed
pub past_all : (all : List PartialAttributeValue) (n : ℕ) (octets : List ℕ) → length all ≤ n → joined all n octets ≡ all
past_all [] n octets le = refl
past_all (a ∷ more) zero octets le = absurd (omega (arith, le))
past_all (a ∷ more) (suc n) octets le = ap (λ l. a ∷ l) (past_all more n octets (omega (arith, le)))
