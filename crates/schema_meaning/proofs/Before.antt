-- First lines by octets, after a change of the map, and what they say of descriptions.
use Rattle.std.proofs.Common.{◌≡◌, ◌<◌, ◌+◌, ℕ, Bool, true, false, cond, ◌||◌, ◌&&◌, List, [], ◌∷◌, Option, Some, None, is_some, refl, sym, ap, ◌∙◌, drop, length, get_or, map, nat_lt, arith}
use Rattle.std.specs.List.{list_any}
use Rattle.std.specs.Char.{to_ascii_lowercase}
use Rattle.std.specs.Str.{bytes_eq}
use Rattle.std.proofs.lemmas.Bool.Decides.{nat_tests}
use Rattle.std.proofs.lemmas.Slice.Eq.{bytes_eq-Decides}
use Rattle.schema_text.specs.Descriptions.{DescriptionModel}
use Rattle.schema_text.specs.Texts.{SchemaTextModel}
use Rattle.schema_meaning.specs.private.Octets.{has_folded}
use Rattle.schema_meaning.specs.Naming.{names_of, is_name_among, has_twice, share_a_name, is_before}
use Rattle.schema_meaning.specs.Faults.{earlier_of}
use Rattle.schema_meaning.specs.private.FirstLines.{noted, first_line, line_in, is_less}
pub use Rattle.schema_text.proofs.ldap_words.NumbersKept.{opened, number_lookup as line_lookup, number_put as line_put}

-- the lower line is put
noted_by : (f : List ℕ → Option ℕ) (k q : List ℕ) (line first : ℕ) (b : Bool) → bytes_eq q k ≡ b →
    Some first ≡ earlier_of line (f k) → cond b (Some first) (f q) ≡ noted b line (f q)
noted_by f k q line first true e h = h ∙ ap (λ (x : List ℕ). earlier_of line (f x)) (sym ((bytes_eq-Decides q k).0 e))
noted_by f k q line first false e h = refl

pub noted_put : (f : List ℕ → Option ℕ) (k q : List ℕ) (line first : ℕ) → Some first ≡ earlier_of line (f k) →
    cond (bytes_eq q k) (Some first) (f q) ≡ noted (bytes_eq q k) line (f q)
noted_put f k q line first h = noted_by f k q line first (bytes_eq q k) refl h

-- a line noted twice
again_by : (line m : ℕ) (b : Bool) → nat_lt m line ≡ b → earlier_of line (Some (cond b m line)) ≡ Some (cond b m line)
again_by line m true h = ap (λ (b : Bool). Some (cond b m line)) h
again_by line m false h = let e : nat_lt line line ≡ false = grind (arith, nat_tests)
    in ap (λ (b : Bool). Some (cond b line line)) e

again : (line : ℕ) (o : Option ℕ) → earlier_of line (earlier_of line o) ≡ earlier_of line o
again line None = let e : nat_lt line line ≡ false = grind (arith, nat_tests)
    in ap (λ (b : Bool). Some (cond b line line)) e
again line (Some m) = again_by line m (nat_lt m line) refl

noted_twice : (a b : Bool) (line : ℕ) (o : Option ℕ) → noted b line (noted a line o) ≡ noted (a || b) line o
noted_twice true true line o = again line o
noted_twice true false line o = refl
noted_twice false b line o = refl

-- one more name
pub noted_more : {A : Type 0} (p : A → Bool) (xs : List A) (i : ℕ) (x : A) (o new all : Option ℕ) (line : ℕ) →
    i < length xs → x ≡ get_or xs i x → new ≡ noted (p x) line o
    → noted (list_any p (drop i xs)) line o ≡ all → noted (list_any p (drop (i + 1) xs)) line new ≡ all
noted_more p xs i x o new all line lt is put so_far =
    ap (λ z. noted (list_any p (drop (i + 1) xs)) line z) put
    ∙ noted_twice (p x) (list_any p (drop (i + 1) xs)) line o
    ∙ ap (λ (ys : List _). noted (list_any p ys) line o) (sym (opened xs i x lt is))
    ∙ so_far

pub any_map : {A B : Type 0} (p : B → Bool) (f : A → B) (xs : List A) → list_any p (map f xs) ≡
    list_any (λ x. p (f x)) xs
any_map p f [] = refl
any_map p f (x ∷ xs) = rw (any_map p f xs) refl

pub names_noted : {A : Type 0} (p : A → Bool) (xs rest : List A) (o all : Option ℕ) (line : ℕ) → rest ≡ [] →
    noted (list_any p rest) line o ≡ all → o ≡ all
names_noted p xs rest o all line e h = ap (λ (ys : List _). noted (list_any p ys) line o) (sym e) ∙ h

-- one more description
pub line_more : (p : DescriptionModel → Bool) (xs : List DescriptionModel) (i : ℕ) (x : DescriptionModel)
    (o new all : Option ℕ) → i < length xs → x ≡ get_or xs i x → new ≡ noted (p x) x.line o
    → first_line p (drop i xs) o ≡ all → first_line p (drop (i + 1) xs) new ≡ all
line_more p xs i x o new all lt is put so_far =
    ap (first_line p (drop (i + 1) xs)) put
    ∙ ap (λ (ys : List DescriptionModel). first_line p ys o) (sym (opened xs i x lt is))
    ∙ so_far

-- whether the first line is before another
or_nothing : (a b : Bool) → a ≡ (a || (b && false))
or_nothing true b = refl
or_nothing false true = refl
or_nothing false false = refl

and_all : (a : Bool) → a ≡ (a && true)
and_all true = refl
and_all false = refl

or_none : (a : Bool) → a ≡ (a || false)
or_none true = refl
or_none false = refl

or_assoc : (a b d : Bool) → ((a || b) || d) ≡ (a || (b || d))
or_assoc true b d = refl
or_assoc false b d = refl

lower_less : (l m line : ℕ) (b : Bool) → nat_lt m l ≡ b → nat_lt (cond b m l) line ≡
    (nat_lt m line || (nat_lt l line && true))
lower_less l m line true h = lower_is (nat_lt m line) (nat_lt l line) refl refl
  where
    lower_is : (a d : Bool) → nat_lt m line ≡ a → nat_lt l line ≡ d → nat_lt m line ≡ (a || (d && true))
    lower_is true d e f = e
    lower_is false true e f = absurd (let g : nat_lt m line ≡ true = grind (arith, nat_tests, h, f) in cc)
    lower_is false false e f = e
lower_less l m line false h = higher_is (nat_lt m line) (nat_lt l line) refl refl
  where
    higher_is : (a d : Bool) → nat_lt m line ≡ a → nat_lt l line ≡ d → nat_lt l line ≡ (a || (d && true))
    higher_is true d e f = grind (arith, nat_tests, h, e)
    higher_is false true e f = f
    higher_is false false e f = f

less_noted : (b : Bool) (l line : ℕ) (o : Option ℕ) → is_less (noted b l o) line ≡
    (is_less o line || (nat_lt l line && b))
less_noted false l line o = or_nothing (is_less o line) (nat_lt l line)
less_noted true l line None = and_all (nat_lt l line)
less_noted true l line (Some m) = lower_less l m line (nat_lt m l) refl

less_first : (p : DescriptionModel → Bool) (ds : List DescriptionModel) (o : Option ℕ) (line : ℕ) →
    is_less (first_line p ds o) line ≡ (is_less o line || list_any (λ e. nat_lt e.line line && p e) ds)
less_first p [] o line = or_none (is_less o line)
less_first p (d ∷ ds) o line =
    less_first p ds (noted (p d) d.line o) line
    ∙ ap (λ (b : Bool). b || list_any (λ e. nat_lt e.line line && p e) ds) (less_noted (p d) d.line line o)
    ∙ or_assoc (is_less o line) (nat_lt d.line line && p d) (list_any (λ e. nat_lt e.line line && p e) ds)

less_in : (s : SchemaTextModel) (p : DescriptionModel → Bool) (line : ℕ) → is_less (line_in s p) line ≡
    (list_any (λ e. nat_lt e.line line && p e) s.types || list_any (λ e. nat_lt e.line line && p e) s.classes)
less_in s p line =
    less_first p s.classes (first_line p s.types None) line
    ∙ ap (λ (b : Bool). b || list_any (λ e. nat_lt e.line line && p e) s.classes) (less_first p s.types None line)

-- names of some descriptions, and descriptions of some names
any_none : {A : Type 0} (xs : List A) → list_any (λ x. false) xs ≡ false
any_none [] = refl
any_none (x ∷ xs) = any_none xs

any_with : {A : Type 0} (b : Bool) (p : A → Bool) (xs : List A) → list_any (λ x. b && p x) xs ≡ (b && list_any p xs)
any_with true p xs = refl
any_with false p xs = any_none xs

mixed : (a b c d : Bool) → ((a || b) || (c || d)) ≡ ((a || c) || (b || d))
mixed true b c d = refl
mixed false true true d = refl
mixed false false true d = refl
mixed false true false d = refl
mixed false false false d = refl

pub any_or : {A : Type 0} (p r : A → Bool) (xs : List A) → list_any (λ x. p x || r x) xs ≡
    (list_any p xs || list_any r xs)
any_or p r [] = refl
any_or p r (x ∷ xs) = ap (λ (b : Bool). (p x || r x) || b) (any_or p r xs) ∙ mixed (p x) (r x) (list_any p xs)
    (list_any r xs)

share_is_any : (ns ms : List (List ℕ)) → list_any (λ n. is_name_among ms n) ns ≡ share_a_name ns ms
share_is_any [] ms = refl
share_is_any (n ∷ ns) ms = ap (λ (b : Bool). is_name_among ms n || b) (share_is_any ns ms)

one_joined : (b q x z y w : Bool) → (z || y) ≡ w → (((b && q) || z) || ((b && x) || y)) ≡ ((b && (q || x)) || w)
one_joined true true x z y w h = refl
one_joined true false true z y w h = or_true z
  where
    or_true : (a : Bool) → (a || true) ≡ true
    or_true true = refl
    or_true false = refl
one_joined true false false z y w h = h
one_joined false q x z y w h = h

joined : (line : ℕ) (oid : List ℕ) (ns : List (List ℕ)) (es : List DescriptionModel)
    → (list_any (λ e. nat_lt e.line line && bytes_eq oid e.oid) es || list_any (λ n. list_any (λ e. nat_lt e.line line
    && is_name_among (names_of e) n) es) ns)
    ≡ list_any (λ e. nat_lt e.line line && (bytes_eq oid e.oid || share_a_name ns (names_of e))) es
joined line oid ns [] = any_none ns
joined line oid ns (e ∷ es) =
    ap (λ (b : Bool). ((nat_lt e.line line && bytes_eq oid e.oid) || list_any (λ x. nat_lt x.line line
    && bytes_eq oid x.oid) es) || b)
    (any_or (λ n. nat_lt e.line line && is_name_among (names_of e) n) (λ n. list_any (λ x. nat_lt x.line line
    && is_name_among (names_of x) n) es) ns
    ∙ ap (λ (b : Bool). b || list_any (λ n. list_any (λ x. nat_lt x.line line && is_name_among (names_of x) n) es) ns)
    (any_with (nat_lt e.line line) (λ n. is_name_among (names_of e) n) ns ∙ ap (λ (b : Bool). nat_lt e.line line && b)
    (share_is_any ns (names_of e))))
    ∙ one_joined (nat_lt e.line line) (bytes_eq oid e.oid) (share_a_name ns (names_of e)) _ _ _ (joined line oid ns es)

any_same : {A : Type 0} (p r : A → Bool) (xs : List A) → ((x : A) → p x ≡ r x) → list_any p xs ≡ list_any r xs
any_same p r [] h = refl
any_same p r (x ∷ xs) h = ap (λ (b : Bool). b || list_any p xs) (h x) ∙ ap (λ (b : Bool). r x || b) (any_same p r xs h)

-- an earlier description has the object identifier, or one of the names
pub earlier_found : (s : SchemaTextModel) (by_name by_oid : List ℕ → Option ℕ) (d : DescriptionModel)
    → ((q : List ℕ) → by_name q ≡ line_in s (λ e. has_folded q (names_of e))) →
    ((q : List ℕ) → by_oid q ≡ line_in s (λ e. bytes_eq q e.oid))
    → (is_less (by_oid d.oid) d.line || list_any (λ n. is_less (by_name (map to_ascii_lowercase n)) d.line)
    (names_of d)) ≡ (list_any (is_before d) s.types || list_any (is_before d) s.classes)
earlier_found s by_name by_oid d f g =
    ap (λ (b : Bool). b || list_any (λ n. is_less (by_name (map to_ascii_lowercase n)) d.line) (names_of d))
    (ap (λ (o : Option ℕ). is_less o d.line) (g d.oid) ∙ less_in s (λ e. bytes_eq d.oid e.oid) d.line)
    ∙ ap (λ (b : Bool). (list_any (λ e. nat_lt e.line d.line && bytes_eq d.oid e.oid) s.types || list_any
    (λ e. nat_lt e.line d.line && bytes_eq d.oid e.oid) s.classes) || b)
    (any_same _ _ (names_of d)
    (λ n. ap (λ (o : Option ℕ). is_less o d.line) (f (map to_ascii_lowercase n))
    ∙ less_in s (λ e. has_folded (map to_ascii_lowercase n) (names_of e)) d.line)
    ∙ any_or (λ n. list_any (λ e. nat_lt e.line d.line && is_name_among (names_of e) n) s.types)
    (λ n. list_any (λ e. nat_lt e.line d.line && is_name_among (names_of e) n) s.classes) (names_of d))
    ∙ mixed (list_any (λ e. nat_lt e.line d.line && bytes_eq d.oid e.oid) s.types)
    (list_any (λ e. nat_lt e.line d.line && bytes_eq d.oid e.oid) s.classes)
    (list_any (λ n. list_any (λ e. nat_lt e.line d.line && is_name_among (names_of e) n) s.types) (names_of d))
    (list_any (λ n. list_any (λ e. nat_lt e.line d.line && is_name_among (names_of e) n) s.classes) (names_of d))
    ∙ ap (λ (b : Bool). b || (list_any (λ e. nat_lt e.line d.line && bytes_eq d.oid e.oid) s.classes || list_any
    (λ n. list_any (λ e. nat_lt e.line d.line && is_name_among (names_of e) n) s.classes) (names_of d)))
    (joined d.line d.oid (names_of d) s.types)
    ∙ ap (λ (b : Bool). list_any (is_before d) s.types || b) (joined d.line d.oid (names_of d) s.classes)

-- names seen
seen_one : (f g : List ℕ → Option ℕ) (k q : List ℕ) → g q ≡ cond (bytes_eq q k) (Some 0) (f q) → is_some (g q) ≡
    (is_some (f q) || bytes_eq q k)
seen_one f g k q h = ap is_some h ∙ by (bytes_eq q k) (f q)
  where
    by : (b : Bool) (o : Option ℕ) → is_some (cond b (Some 0) o) ≡ (is_some o || b)
    by true None = refl
    by true (Some n) = refl
    by false None = refl
    by false (Some n) = refl

turned_by : (xs ys : List ℕ) (a b : Bool) → bytes_eq xs ys ≡ a → bytes_eq ys xs ≡ b → a ≡ b
turned_by xs ys true true e f = refl
turned_by xs ys false false e f = refl
turned_by xs ys true false e f = let z : bytes_eq ys xs ≡ true = (bytes_eq-Decides ys xs).1
    (sym ((bytes_eq-Decides xs ys).0 e)) in cc
turned_by xs ys false true e f = let z : bytes_eq xs ys ≡ true = (bytes_eq-Decides xs ys).1
    (sym ((bytes_eq-Decides ys xs).0 f)) in cc

turned : (xs ys : List ℕ) → bytes_eq xs ys ≡ bytes_eq ys xs
turned xs ys = turned_by xs ys (bytes_eq xs ys) (bytes_eq ys xs) refl refl

abbrev pub is_seen : (List ℕ → Option ℕ) → List (List ℕ) → Bool
is_seen f ns = list_any (λ n. is_some (f (map to_ascii_lowercase n))) ns

seen_names : (f g : List ℕ → Option ℕ) (n : List ℕ) (ns : List (List ℕ)) →
    ((q : List ℕ) → g q ≡ cond (bytes_eq q (map to_ascii_lowercase n)) (Some 0) (f q)) → is_seen g ns ≡
    (is_seen f ns || is_name_among ns n)
seen_names f g n ns h =
    any_same _ _ ns (λ m. seen_one f g (map to_ascii_lowercase n) (map to_ascii_lowercase m)
    (h (map to_ascii_lowercase m)) ∙ ap (λ (b : Bool). is_some (f (map to_ascii_lowercase m)) || b)
    (turned (map to_ascii_lowercase m) (map to_ascii_lowercase n)))
    ∙ any_or (λ m. is_some (f (map to_ascii_lowercase m))) (λ m. bytes_eq (map to_ascii_lowercase n)
    (map to_ascii_lowercase m)) ns

-- one more name, which was not seen
pub seen_more : (f g : List ℕ → Option ℕ) (n : List ℕ) (ns : List (List ℕ)) →
    ((q : List ℕ) → g q ≡ cond (bytes_eq q (map to_ascii_lowercase n)) (Some 0) (f q)) →
    is_some (f (map to_ascii_lowercase n)) ≡ false
    → (is_seen g ns || has_twice ns) ≡ (is_seen f (n ∷ ns) || has_twice (n ∷ ns))
seen_more f g n ns h new =
    ap (λ (b : Bool). b || has_twice ns) (seen_names f g n ns h)
    ∙ or_assoc (is_seen f ns) (is_name_among ns n) (has_twice ns)
    ∙ sym (ap (λ (b : Bool). (b || is_seen f ns) || has_twice (n ∷ ns)) new)

pub none_seen : (ns : List (List ℕ)) → is_seen (λ q. None) ns ≡ false
none_seen ns = any_none ns
