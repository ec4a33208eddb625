-- Each type of a schema that is read from a text is found by its first name.
use Rattle.std.proofs.Common.{ℕ, ◌+◌, ◌<◌, ◌≤◌, zero, suc, List, [], ◌∷◌, Bool, true, false, cond, not, ◌&&◌, ◌||◌, Option, None, Some, Ok, nat_eq, nat_lt, nat_le, ◌≡◌, refl, sym, ap, ap₂, ◌∙◌, subst, map, length, IsUtf8, arith}
use Rattle.std.proofs.lemmas.Bool.{eq-eqb, ltb-true}
use Rattle.std.proofs.lemmas.Bool.Decides.{nat_tests}
use Rattle.std.proofs.lemmas.Slice.Eq.{bytes_eq-Decides}
use Rattle.std.proofs.lemmas.Str.{IsUtf8-append, IsUtf8-nil, IsUtf8-encode, encode_ascii, is_utf8-from_IsUtf8}
use Rattle.std.specs.List.{AllByRecursion, list_all, list_any, position_from, slice_get, slice_split, onto_first}
use Rattle.std.specs.Char.{to_ascii_lowercase}
use Rattle.std.specs.Str.{bytes_eq}
use lib.Utf8.{low_scalar}
use Rattle.schema_reader.specs.schema_text.Words.{is_alpha, is_digit, is_key_octet, is_descr, is_number, is_numericoid}
use Rattle.schema_reader.specs.schema_text.Descriptions.{DescriptionModel}
use Rattle.schema_reader.specs.schema_text.Texts.{SchemaTextModel, read_text}
use Rattle.schema_reader.specs.schema_meaning.Naming.{names_of, is_name_among, share_a_name, is_before, is_repeated, has_twice}
use Rattle.schema_reader.specs.schema_meaning.Inheriting.{effect_of, is_unfit}
use Rattle.schema_reader.specs.schema_meaning.Faults.{is_bad_type, first_of_types, first_of_all, earlier, bad_line}
use Rattle.ldap_match.specs.ldap_words.Identifiers.{has_dot, are_numbers}
use Rattle.ldap_match.specs.ldap_schema.Schema.{SchemaModel, TypeModel, find, is_called, is_same_name, first_name_of}
use Rattle.schema_reader.specs.Described.{as_text, type_with, types_from, schema_of}
use Rattle.schema_reader.specs.Reading.{refused_at, fault_of, unknown_of, loop_fault, unless_refused, schema_of_text}
use Rattle.schema_reader.specs.declared.error.SchemaError.{SchemaError}
use Rattle.schema_reader.specs.declared.error.SchemaError.TheVariants.{BadDescription, UnknownName}
use Rattle.ldap_dn.specs.Printed.{name_of_type, type_name}
use Rattle.schema_laws.specs.PrintedRead.{is_name_octet}
use Rattle.schema_laws.proofs.TypeNames.{is_type_found, goes_by_its_name, go_by_their_names, TypesGoByTheirNames}
use Rattle.ldap_dn.proofs.Spelled.{none_some, some_same}
use Rattle.schema_laws.proofs.Lettered.{not_left, not_right}
use Rattle.schema_laws.proofs.Valued.{all_map, all_true}
use Rattle.schema_laws.proofs.Joined.{left_true, right_true, all_tests}
use Rattle.schema_laws.proofs.SoundTexts.{AreDescrs, IsWorded, AreRising, text_is_sound}

-- ---- words

key_is_name : (c : ℕ) → is_key_octet c ≡ true → is_name_octet c ≡ true
key_is_name c h = ap (λ b. b || nat_eq c 46) h

alpha_is_key : (c : ℕ) → is_alpha c ≡ true → is_key_octet c ≡ true
alpha_is_key c h = ap (λ b. b || is_digit c || nat_eq c 45) h

digit_by : (a b z : Bool) → b ≡ true → (a || b || z) ≡ true
digit_by true b z h = refl
digit_by false true z h = refl
digit_by false false z h = cc

digit_is_key : (c : ℕ) → is_digit c ≡ true → is_key_octet c ≡ true
digit_is_key c h = digit_by (is_alpha c) (is_digit c) (nat_eq c 45) h

pub dot_by : (a b : Bool) → b ≡ true → (a || b) ≡ true
dot_by true b h = refl
dot_by false b h = h

descr_octets : (n : List ℕ) → is_descr n ≡ true → AllByRecursion (λ c. is_name_octet c ≡ true) n
descr_octets [] h = tt
descr_octets (c ∷ cs) h = (
  key_is_name c (alpha_is_key c (left_true (is_alpha c) (list_all is_key_octet cs) h)),
  all_map (λ c. is_key_octet c ≡ true) (λ c. is_name_octet c ≡ true) key_is_name cs
      (all_tests is_key_octet cs (right_true (is_alpha c) (list_all is_key_octet cs) h)),
)

-- parts of digits with dots between them
digits_of : (p : List ℕ) → is_number p ≡ true → list_all is_digit p ≡ true
digits_of [] h = refl
digits_of (c ∷ []) h = rw h refl
digits_of (c ∷ d ∷ cs) h =
    let front = left_true (nat_lt 48 c && nat_le c 57) (list_all is_digit (d ∷ cs)) h in
    let low : 48 < c = ltb-true 48 c (left_true (nat_lt 48 c) (nat_le c 57) front) in
    let high : nat_le c 57 ≡ true = right_true (nat_lt 48 c) (nat_le c 57) front in
    rw (right_true (nat_lt 48 c && nat_le c 57) (list_all is_digit (d ∷ cs)) h) (grind (arith, nat_tests, low, high))

each_digits : (ps : List (List ℕ)) → list_all is_number ps ≡ true → AllByRecursion (λ p. list_all is_digit p ≡ true) ps
each_digits ps h = all_map (λ p. is_number p ≡ true) (λ p. list_all is_digit p ≡ true) digits_of ps
    (all_tests is_number ps h)

record IsDigitThen (c : ℕ) (ps : List (List ℕ)) : Type 0 where
  digit : is_digit c ≡ true
  rest : AllByRecursion (λ p. list_all is_digit p ≡ true) ps

first_part : (c : ℕ) (ps : List (List ℕ)) → AllByRecursion (λ p. list_all is_digit p ≡ true) (onto_first c ps) →
    IsDigitThen c ps
first_part c [] h = record { digit = left_true (is_digit c) true h.0; rest = tt }
first_part c (p ∷ ps) h = record {
  digit = left_true (is_digit c) (list_all is_digit p) h.0;
  rest =
      (right_true (is_digit c) (list_all is_digit p) h.0, h.1);
}

dotted_octets : (w : List ℕ) → AllByRecursion (λ p. list_all is_digit p ≡ true) (slice_split (λ c. nat_eq c 46) w) →
    AllByRecursion (λ c. is_name_octet c ≡ true) w
dotted_octets [] h = tt
dotted_octets (c ∷ cs) h = by (nat_eq c 46) c cs refl h (λ g. dotted_octets cs g) where
  by : (b : Bool) (c : ℕ) (cs : List ℕ) → nat_eq c 46 ≡ b → AllByRecursion (λ p. list_all is_digit p ≡ true)
      (cond b ([] ∷ slice_split (λ c. nat_eq c 46) cs) (onto_first c (slice_split (λ c. nat_eq c 46) cs)))
      → (AllByRecursion (λ p. list_all is_digit p ≡ true) (slice_split (λ c. nat_eq c 46) cs) →
      AllByRecursion (λ c. is_name_octet c ≡ true) cs) → (is_name_octet c ≡ true)
      × AllByRecursion (λ c. is_name_octet c ≡ true) cs
  by true c cs e h more = (dot_by (is_key_octet c) (nat_eq c 46) e, more h.1)
  by false c cs e h more = let f = first_part c (slice_split (λ c. nat_eq c 46) cs) h
      in (key_is_name c (digit_is_key c f.digit), more f.rest)

numbers_in : (w : List ℕ) → is_numericoid w ≡ true → list_all is_number (slice_split (λ c. nat_eq c 46) w) ≡ true
numbers_in w h = right_true (has_dot w) (are_numbers w) h

oid_octets : (w : List ℕ) → is_numericoid w ≡ true → AllByRecursion (λ c. is_name_octet c ≡ true) w
oid_octets w h = dotted_octets w (each_digits (slice_split (λ c. nat_eq c 46) w) (numbers_in w h))

-- the first octet
abbrev BeginsWithDigit : List ℕ → Type 0
BeginsWithDigit [] = ⊥
BeginsWithDigit (c ∷ cs) = is_digit c ≡ true

begins_digit : (w : List ℕ) → is_numericoid w ≡ true → BeginsWithDigit w
begins_digit [] h = cc
begins_digit (c ∷ cs) h = by (nat_eq c 46) c (slice_split (λ c. nat_eq c 46) cs) (numbers_in (c ∷ cs) h) where
  by : (b : Bool) (c : ℕ) (ps : List (List ℕ)) → list_all is_number (cond b ([] ∷ ps) (onto_first c ps)) ≡ true →
      is_digit c ≡ true
  by true c ps h = cc
  by false c [] h = left_true (is_digit c) true (digits_of (c ∷ []) (left_true (is_number (c ∷ [])) true h))
  by false c (p ∷ ps) h = left_true (is_digit c) (list_all is_digit p)
      (digits_of (c ∷ p) (left_true (is_number (c ∷ p)) (list_all is_number ps) h))

digit_is_low : (c : ℕ) → is_digit c ≡ true → c ≤ 57
digit_is_low c h = grind (arith, nat_tests)

low_stays : (c : ℕ) → c ≤ 57 → to_ascii_lowercase c ≡ c
low_stays c le = grind (arith, nat_tests)

alpha_is_high : (c : ℕ) → is_alpha c ≡ true → 65 ≤ to_ascii_lowercase c
alpha_is_high c h = grind (arith, nat_tests)

alpha_itself : (c : ℕ) → is_alpha c ≡ true → 65 ≤ c
alpha_itself c h = grind (arith, nat_tests)

apart : (a b : ℕ) → a ≤ 57 → 65 ≤ b → nat_eq a b ≡ false
apart a b l h = grind (arith, nat_tests)

apart_back : (a b : ℕ) → a ≤ 57 → 65 ≤ b → nat_eq b a ≡ false
apart_back a b l h = grind (arith, nat_tests)

-- a numericoid and a word differ, in any case
oid_no_name : (o n : List ℕ) → BeginsWithDigit o → is_descr n ≡ true → is_same_name o n ≡ false
oid_no_name [] n h e = absurd h
oid_no_name (c ∷ cs) [] h e = cc
oid_no_name (c ∷ cs) (m ∷ ms) h e =
    let low : c ≤ 57 = digit_is_low c h in
    let same : to_ascii_lowercase c ≡ c = low_stays c low in
    let high : 65 ≤ to_ascii_lowercase m = alpha_is_high m (left_true (is_alpha m) (list_all is_key_octet ms) e) in
    ap (λ b. b && bytes_eq (map to_ascii_lowercase cs) (map to_ascii_lowercase ms))
    (apart (to_ascii_lowercase c) (to_ascii_lowercase m) (omega arith) high)

name_no_oid : (n o : List ℕ) → is_descr n ≡ true → BeginsWithDigit o → bytes_eq n o ≡ false
name_no_oid n [] e h = absurd h
name_no_oid [] (c ∷ cs) e h = cc
name_no_oid (m ∷ ms) (c ∷ cs) e h =
    ap (λ b. b && bytes_eq ms cs) (apart_back c m (digit_is_low c h)
    (alpha_itself m (left_true (is_alpha m) (list_all is_key_octet ms) e)))

-- ---- octets as text

name_is_low : (c : ℕ) → is_name_octet c ≡ true → c < 128
name_is_low c h = grind (arith, nat_tests)

text_of_name : (w : List ℕ) → AllByRecursion (λ c. is_name_octet c ≡ true) w → IsUtf8 w
text_of_name [] h = IsUtf8-nil
text_of_name (c ∷ cs) h =
    let low : c < 128 = name_is_low c h.0 in
    IsUtf8-append (c ∷ []) cs (subst IsUtf8 (encode_ascii c low) (IsUtf8-encode c (low_scalar c (omega arith))))
    (text_of_name cs h.1)

as_it_is : (w : List ℕ) → AllByRecursion (λ c. is_name_octet c ≡ true) w → as_text w ≡ w
as_it_is w h = ap (λ b. cond b w []) (is_utf8-from_IsUtf8 w (text_of_name w h))

oid_as_it_is : (d : DescriptionModel) → IsWorded d → as_text d.oid ≡ d.oid
oid_as_it_is d w = as_it_is d.oid (oid_octets d.oid w.has_oid)

names_as_they_are : (ns : List (List ℕ)) → AreDescrs ns → map as_text ns ≡ ns
names_as_they_are [] h = refl
names_as_they_are (n ∷ ns) h = ap₂ (λ (x : List ℕ) (y : List (List ℕ)). x ∷ y) (as_it_is n (descr_octets n h.0))
    (names_as_they_are ns h.1)

-- ---- hits and misses

abbrev goes_by : DescriptionModel → List ℕ
goes_by d = first_name_of d.oid (names_of d)

name_octets_by : (o : List ℕ) (ns : List (List ℕ)) → is_numericoid o ≡ true → AreDescrs ns →
    AllByRecursion (λ c. is_name_octet c ≡ true) (first_name_of o ns)
name_octets_by o [] h d = oid_octets o h
name_octets_by o (n ∷ ns) h d = descr_octets n d.0

abbrev calls_it : List ℕ → DescriptionModel → Bool
calls_it n e = is_called n (as_text e.oid) (map as_text (names_of e))

calls_plainly : (n : List ℕ) (e : DescriptionModel) → IsWorded e → calls_it n e ≡ is_called n e.oid (names_of e)
calls_plainly n e w = ap₂ (λ (o : List ℕ) (ns : List (List ℕ)). is_called n o ns) (oid_as_it_is e w)
    (names_as_they_are (names_of e) w.has_names)

either_true : (a b : Bool) → b ≡ true → (a || b) ≡ true
either_true true b h = refl
either_true false b h = h

hit_by : (o : List ℕ) (ns : List (List ℕ)) → is_called (first_name_of o ns) o ns ≡ true
hit_by o [] = ap (λ b. b || list_any (is_same_name o) []) ((bytes_eq-Decides o o).1 refl)
hit_by o (n ∷ ns) =
    either_true (bytes_eq n o) (list_any (is_same_name n) (n ∷ ns)) (ap (λ b. b || list_any (is_same_name n) ns)
    ((bytes_eq-Decides (map to_ascii_lowercase n) (map to_ascii_lowercase n)).1 refl))

no_name_by : (o : List ℕ) (ns : List (List ℕ)) → BeginsWithDigit o → AreDescrs ns → list_any (is_same_name o) ns ≡ false
no_name_by o [] h d = refl
no_name_by o (n ∷ ns) h d = ap (λ b. b || list_any (is_same_name o) ns) (oid_no_name o n h d.0) ∙ no_name_by o ns h d.1

both_false : (a b : Bool) → a ≡ false → b ≡ false → (a || b) ≡ false
both_false true b h e = cc
both_false false b h e = e

miss_by : (o p : List ℕ) (ns ms : List (List ℕ)) → is_numericoid o ≡ true → is_numericoid p ≡ true → AreDescrs ns →
    AreDescrs ms → bytes_eq o p ≡ false → share_a_name ns ms ≡ false → is_called (first_name_of o ns) p ms ≡ false
miss_by o p [] ms h i d e same share = both_false (bytes_eq o p) (list_any (is_same_name o) ms) same
    (no_name_by o ms (begins_digit o h) e)
miss_by o p (n ∷ ns) ms h i d e same share = both_false (bytes_eq n p) (list_any (is_same_name n) ms)
    (name_no_oid n p d.0 (begins_digit p i)) (not_left (is_name_among ms n) (share_a_name ns ms) share)

apart_by : (a b c : Bool) → a ≡ true → (a && (b || c)) ≡ false → (b ≡ false) × (c ≡ false)
apart_by true false false e h = (refl, refl)
apart_by true true c e h = cc
apart_by true false true e h = cc
apart_by false b c e h = cc

is_lower : (a b : ℕ) → a < b → nat_lt a b ≡ true
is_lower a b l = grind (arith, nat_tests)

miss : (d e : DescriptionModel) → IsWorded d → IsWorded e → e.line < d.line → is_before d e ≡ false →
    calls_it (goes_by d) e ≡ false
miss d e w v lt h =
    let no = apart_by (nat_lt e.line d.line) (bytes_eq d.oid e.oid) (share_a_name (names_of d) (names_of e))
    (is_lower e.line d.line lt) h in
    calls_plainly (goes_by d) e v ∙ miss_by d.oid e.oid (names_of d) (names_of e) w.has_oid v.has_oid w.has_names
    v.has_names no.0 no.1

hit : (d : DescriptionModel) → IsWorded d → calls_it (goes_by d) d ≡ true
hit d w = calls_plainly (goes_by d) d w ∙ hit_by d.oid (names_of d)

-- ---- among all types

pub get_all : {A : Type 0} (P : A → Type 0) (xs : List A) (i : ℕ) (x : A) → AllByRecursion P xs → slice_get xs i ≡
    Some x → P x
get_all P [] i x h e = absurd (none_some e)
get_all P (y ∷ xs) zero x h e = subst P (some_same e) h.0
get_all P (y ∷ xs) (suc i) x h e = get_all P xs i x h.1 e

seek : (all : List DescriptionModel) (d : DescriptionModel) → IsWorded d → (ds : List DescriptionModel) (k i : ℕ) →
    AllByRecursion IsWorded ds → AllByRecursion (λ e. is_before d e ≡ false) ds → AreRising ds → slice_get ds i ≡ Some d
    → position_from (λ t. is_called (goes_by d) t.oid t.names) k (types_from all k ds) ≡ Some (k + i)
seek all d w [] k i ws bs r e = absurd (none_some e)
seek all d w (x ∷ ds) k zero ws bs r e =
    let same : x ≡ d = some_same e in
    let h : calls_it (goes_by d) x ≡ true = ap (calls_it (goes_by d)) same ∙ hit d w in
    ap (λ b. cond b (Some k) (position_from (λ t. is_called (goes_by d) t.oid t.names) (k + 1)
    (types_from all (k + 1) ds))) h ∙ ap Some (omega arith)
seek all d w (x ∷ ds) k (suc i) ws bs r e =
    let lt : x.line < d.line = get_all (λ f. x.line < f.line) ds i d r.0 e in
    let h : calls_it (goes_by d) x ≡ false = miss d x w ws.0 lt bs.0 in
    ap (λ b. cond b (Some k) (position_from (λ t. is_called (goes_by d) t.oid t.names) (k + 1)
    (types_from all (k + 1) ds))) h
    ∙ seek all d w ds (k + 1) i ws.1 bs.1 r.1 e
    ∙ ap Some (omega arith)

pub type_at : (all ds : List DescriptionModel) (k i : ℕ) (d : DescriptionModel) → slice_get ds i ≡ Some d →
    slice_get (types_from all k ds) i ≡ Some (type_with all d (effect_of all (k + i)))
type_at all [] k i d e = absurd (none_some e)
type_at all (x ∷ ds) k zero d e = ap₂ (λ (y : DescriptionModel) (n : ℕ). Some (type_with all y (effect_of all n)))
    (some_same e) (omega arith)
type_at all (x ∷ ds) k (suc i) d e = type_at all ds (k + 1) i d e
    ∙ ap (λ (n : ℕ). Some (type_with all d (effect_of all n))) (omega arith)

none_of : (p : DescriptionModel → Bool) (ds : List DescriptionModel) → list_any p ds ≡ false →
    AllByRecursion (λ d. p d ≡ false) ds
none_of p [] h = tt
none_of p (d ∷ ds) h = (not_left (p d) (list_any p ds) h, none_of p ds (not_right (p d) (list_any p ds) h))

unrepeated : (types classes : List DescriptionModel) (d : DescriptionModel) → is_repeated types classes d ≡ false →
    AllByRecursion (λ e. is_before d e ≡ false) types
unrepeated types classes d h =
    none_of (is_before d) types (not_right (has_twice (names_of d)) (list_any (is_before d) types)
    (not_left (has_twice (names_of d) || list_any (is_before d) types) (list_any (is_before d) classes) h))

found : (all classes : List DescriptionModel) (s : SchemaModel) → s.types ≡ types_from all 0 all →
    AllByRecursion IsWorded all → AreRising all → AllByRecursion (λ d. is_repeated all classes d ≡ false) all
    → (i : ℕ) (d : DescriptionModel) → slice_get all i ≡ Some d → goes_by_its_name s i ≡ true
found all classes s same ws r un i d e =
    let w : IsWorded d = get_all IsWorded all i d ws e in
    let zero_first : 0 + i ≡ i = omega arith in
    let m : TypeModel = type_with all d (effect_of all (0 + i)) in
    let name : type_name s i ≡ goes_by d =
    ap (λ (ts : List TypeModel). name_of_type (slice_get ts i)) same ∙ ap name_of_type (type_at all all 0 i d e)
    ∙ ap₂ (λ (o : List ℕ) (ns : List (List ℕ)). first_name_of o ns) (oid_as_it_is d w) (names_as_they_are (names_of d)
    w.has_names) in
    let where_it_is : find s (type_name s i) ≡ Some i =
    ap (find s) name ∙ ap (position_from (λ t. is_called (goes_by d) t.oid t.names) 0) same
    ∙ seek all d w all 0 i ws (unrepeated all classes d (get_all (λ d. is_repeated all classes d ≡ false) all i d un
    e)) r e
    ∙ ap Some zero_first in
    let first : is_type_found i (find s (type_name s i)) ≡ true = ap (is_type_found i) where_it_is ∙ eq-eqb i i refl in
    let second : list_all is_name_octet (type_name s i) ≡ true = ap (list_all is_name_octet) name
    ∙ all_true is_name_octet (goes_by d) (name_octets_by d.oid (names_of d) w.has_oid w.has_names) in
    ap (λ b. b && list_all is_name_octet (type_name s i)) first ∙ second

-- ---- of a text without faults

pub some_at : {A : Type 0} (xs : List A) (i : ℕ) → i < length xs → (x : A) × (slice_get xs i ≡ Some x)
some_at [] i lt = absurd (omega (arith, lt))
some_at (x ∷ xs) zero lt = (x, refl)
some_at (x ∷ xs) (suc i) lt = some_at xs i (omega (arith, lt))

all_go : (s : SchemaModel) (xs : List TypeModel) (t : ℕ) → ((i : ℕ) → i < length xs → goes_by_its_name s (t + i) ≡
    true) → go_by_their_names s xs t ≡ true
all_go s [] t h = refl
all_go s (x ∷ xs) t h =
    let e : t + 0 ≡ t = omega arith in
    ap (λ b. b && go_by_their_names s xs (t + 1)) (ap (goes_by_its_name s) (sym e) ∙ h 0 (omega arith))
    ∙ all_go s xs (t + 1) (λ i lt. let f : (t + 1) + i ≡ t + suc i = omega arith in ap (goes_by_its_name s) f
    ∙ h (suc i) (omega (arith, lt)))

pub count_types : (types : List DescriptionModel) (t : ℕ) (ds : List DescriptionModel) →
    length (types_from types t ds) ≡ length ds
count_types types t [] = refl
count_types types t (d ∷ ds) = ap suc (count_types types (t + 1) ds)

pub refused_none : (o : Option ℕ) (f : ℕ → SchemaError) (rest : Option SchemaError) → refused_at o f rest ≡ None →
    o ≡ None
refused_none None f rest h = refl
refused_none (Some n) f rest h = absurd (none_some (sym h))

pub second_none : (a b : Option ℕ) → earlier a b ≡ None → b ≡ None
second_none None b h = h
second_none (Some n) None h = refl
second_none (Some n) (Some m) h = absurd (none_some (sym h))

pub first_none : (a b : Option ℕ) → earlier a b ≡ None → a ≡ None
first_none None b h = refl
first_none (Some n) None h = absurd (none_some (sym h))
first_none (Some n) (Some m) h = absurd (none_some (sym h))

pub none_bad_by : (b : Bool) (n : ℕ) (rest : Option ℕ) → cond b (Some n) rest ≡ None → (b ≡ false) × (rest ≡ None)
none_bad_by true n rest h = absurd (none_some (sym h))
none_bad_by false n rest h = (refl, h)

none_bad : (t : SchemaTextModel) (k : ℕ) (ds : List DescriptionModel) → first_of_types (is_bad_type t) k ds ≡ None →
    AllByRecursion (λ d. is_repeated t.types t.classes d ≡ false) ds
none_bad t k [] h = tt
none_bad t k (d ∷ ds) h =
    let f = none_bad_by (is_bad_type t k d) d.line (first_of_types (is_bad_type t) (k + 1) ds) h in
    (not_left (is_repeated t.types t.classes d) (is_unfit t.types k) f.0, none_bad t (k + 1) ds f.1)

pub no_fault : (s m : SchemaModel) (o : Option SchemaError) → unless_refused s o ≡ Ok m → (o ≡ None) × (s ≡ m)
no_fault s m None h = let e : s ≡ m = cc in (refl, e)
no_fault s m (Some e) h = cc

pub types_of_text : (text : List ℕ) (s : SchemaModel) → schema_of_text text ≡ Ok s → TypesGoByTheirNames s
types_of_text text s h =
    let t = read_text text in
    let f = no_fault (schema_of t) s (fault_of t (schema_of t)) h in
    let bad : bad_line t ≡ None = refused_none (bad_line t) BadDescription (refused_at (unknown_of t (schema_of t))
    UnknownName (loop_fault t (schema_of t))) f.0 in
    let types_bad : first_of_types (is_bad_type t) 0 t.types ≡ None = first_none (first_of_types (is_bad_type t) 0
    t.types) (first_of_all (is_repeated t.types t.classes) t.classes) (second_none t.bad _ bad) in
    let sound = (text_is_sound text).are_sound in
    let go : TypesGoByTheirNames (schema_of t) =
    all_go (schema_of t) (types_from t.types 0 t.types) 0 (λ i lt.
    let at = some_at t.types i (omega (arith, lt, count_types t.types 0 t.types)) in
    let e : 0 + i ≡ i = omega arith in
    ap (goes_by_its_name (schema_of t)) e ∙ found t.types t.classes (schema_of t) refl sound.worded sound.rising
    (none_bad t 0 t.types types_bad) i at.0 at.1) in
    subst TypesGoByTheirNames f.1 go
