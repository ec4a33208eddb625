-- Octets of ASCII that are seen, with single SPACEs between them: each text of theirs is made of them alone.
use Rattle.std.proofs.Common.{ℕ, ◌<◌, ◌≤◌, List, [], ◌∷◌, ◌++◌, Bool, true, false, not, cond, ◌&&◌, ◌||◌, nat_eq, nat_le, Option, Some, None, IsAscii, chars, map, filter, ◌≡◌, refl, ap, ap₂, sym, ◌∙◌, arith}
use Rattle.std.specs.List.{All, AllByRecursion}
use Rattle.std.proofs.lemmas.List.Elements.{All-nil, All-cons}
use Rattle.std.specs.Str.{is_utf8}
use Rattle.std.specs.Char.{to_ascii_lowercase}
use Rattle.std.proofs.lemmas.Str.{chars-IsAscii, encodes-IsAscii, IsUtf8-from_ascii, is_utf8-from_IsUtf8}
use Rattle.std.proofs.lemmas.Str.Ascii.{IsAscii-from_all}
use Rattle.std.proofs.lemmas.Bool.Decides.{nat_tests}
use Rattle.std.proofs.lemmas.Slice.Eq.{bytes_eq-Decides}
use Rattle.ldap_words.specs.Octets.{utf8_of}
use Rattle.ldap_words.specs.declared.rule.Family.{Family}
use Rattle.ldap_words.specs.declared.rule.Family.TheVariants as family
use Rattle.ldap_words.specs.declared.rule.Syntax.TheVariants as syntax
use Rattle.ldap_syntax.specs.declared.plain.Style.{Style}
use Rattle.ldap_syntax.specs.declared.plain.Style.TheVariants as style
use Rattle.ldap_syntax.specs.declared.preparing.Part.TheVariants.{Whole}
use Rattle.ldap_syntax.specs.private.Seen.{are_seen, are_seen_behind}
use Rattle.ldap_syntax.specs.Text.{is_control, mapped_character, mapped, normal, folded, words, joined, spaced, spaced_words, prepared}
use Rattle.ldap_syntax.specs.Meaning.{spelled}
use Rattle.ldap_syntax.specs.Syntaxes.{is_in_syntax}
use Rattle.ldap_syntax.specs.Styles.{written, text_by}
use Rattle.ldap_syntax.specs.Forms.{form_of, between, plain_text, texts_of, is_that, are_plain}
use Rattle.ldap_syntax.proofs.Ascii.{normal_ascii, folded_ascii}
use Rattle.ldap_syntax.proofs.Words.{rest_of, writes}

abbrev IsShown : ℕ → Type 0
IsShown c = (32 ≤ c) × (c < 127)

left : (a b : Bool) → (a && b) ≡ true → a ≡ true
left true b h = refl
left false b h = absurd (cc)

right : (a b : Bool) → (a && b) ≡ true → b ≡ true
right true b h = h
right false b h = absurd (cc)

within : (c : ℕ) → (nat_le 33 c && nat_le c 126) ≡ true → (33 ≤ c) × (c < 127)
within c h = (grind (arith, nat_tests), grind (arith, nat_tests))

-- ---- each of them is shown

shown_step : (c : ℕ) (v : List ℕ) (g e : Bool) → nat_eq c 32 ≡ e → (are_seen_behind true v ≡ true →
    AllByRecursion IsShown v) → (are_seen_behind false v ≡ true → AllByRecursion IsShown v)
    → cond e (not g && are_seen_behind true v) ((nat_le 33 c && nat_le c 126) && are_seen_behind false v) ≡ true →
    AllByRecursion IsShown (c ∷ v)
shown_step c v g true is space word h = let s : c ≡ 32 = grind (arith, nat_tests)
    in ((omega arith, omega arith), space (right (not g) _ h))
shown_step c v g false is space word h =
    let w = within c (left _ _ h) in let a : 33 ≤ c = w.0 in let b : c < 127 =
    w.1 in ((omega arith, omega arith), word (right (nat_le 33 c && nat_le c 126) _ h))

shown : (g : Bool) (v : List ℕ) → are_seen_behind g v ≡ true → AllByRecursion IsShown v
shown g [] h = tt
shown g (c ∷ v) h = shown_step c v g (nat_eq c 32) refl (shown true v) (shown false v) h

-- ---- the steps of preparation

uncontrolled : (c : ℕ) → IsShown c → is_control c ≡ false
uncontrolled c h = let a : 32 ≤ c = h.0 in let b : c < 127 = h.1 in grind (arith, nat_tests)

mapped_alone : (c : ℕ) → IsShown c → mapped_character c ≡ c
mapped_alone c h = let a : 32 ≤ c = h.0 in let b : c < 127 = h.1 in grind (arith, nat_tests)

mapped_same : (v : List ℕ) → AllByRecursion IsShown v → mapped v ≡ v
mapped_same [] all = refl
mapped_same (c ∷ v) all =
    ap (λ (b : Bool). map mapped_character (cond (not b) (c ∷ filter (λ d. not (is_control d)) v)
    (filter (λ d. not (is_control d)) v))) (uncontrolled c all.0)
    ∙ ap₂ ◌∷◌ (mapped_alone c all.0) (mapped_same v all.1)

abbrev IsLow : ℕ → Type 0
IsLow b = b < 128

low_all : (v : List ℕ) → AllByRecursion IsLow v → All IsLow v
low_all [] h = All-nil IsLow
low_all (c ∷ v) h = All-cons IsLow c v h.0 (low_all v h.1)

low_ascii : (v : List ℕ) → AllByRecursion IsLow v → IsAscii v
low_ascii v h = IsAscii-from_all v (low_all v h)

small : (v : List ℕ) → AllByRecursion IsShown v → AllByRecursion IsLow v
small [] all = tt
small (c ∷ v) all = (let b : c < 127 = all.0.1 in omega arith, small v all.1)

ascii : (v : List ℕ) → AllByRecursion IsShown v → IsAscii v
ascii v all = low_ascii v (small v all)

normal_same : (v : List ℕ) → AllByRecursion IsShown v → normal (chars v) ≡ v
normal_same v all = normal_ascii v (ascii v all) ∙ ap mapped (chars-IsAscii v (ascii v all)) ∙ mapped_same v all

folded_same : (v : List ℕ) → AllByRecursion IsShown v → folded (chars v) ≡ map to_ascii_lowercase v
folded_same v all = folded_ascii v (ascii v all) ∙ ap (map to_ascii_lowercase)
    (ap mapped (chars-IsAscii v (ascii v all)) ∙ mapped_same v all)

-- ---- the words

-- what is written behind a word, or behind a SPACE, is the octets, each SPACE twice
abbrev Behind : List ℕ → Type 0
Behind v = (are_seen_behind false v ≡ true → rest_of true false v ≡ text_by style.Cased v)
    × (are_seen_behind true v ≡ true → rest_of true true v ≡ 32 ∷ 32 ∷ text_by style.Cased v)

after_word : (c : ℕ) (v : List ℕ) (e : Bool) → Behind v → cond e (are_seen_behind true v)
    ((nat_le 33 c && nat_le c 126) && are_seen_behind false v) ≡ true
    → cond e (rest_of true true v) (c ∷ rest_of true false v) ≡ cond e (32 ∷ 32 ∷ []) (c ∷ []) ++ text_by style.Cased v
after_word c v true rest h = rest.1 h
after_word c v false rest h = ap (λ (x : List ℕ). c ∷ x) (rest.0 (right (nat_le 33 c && nat_le c 126) _ h))

after_space : (c : ℕ) (v : List ℕ) (e : Bool) → Behind v → cond e false ((nat_le 33 c && nat_le c 126)
    && are_seen_behind false v) ≡ true
    → cond e (rest_of true true v) (32 ∷ 32 ∷ c ∷ rest_of true false v) ≡ 32 ∷ 32 ∷ cond e (32 ∷ 32 ∷ [])
    (c ∷ []) ++ text_by style.Cased v
after_space c v true rest h = absurd (cc)
after_space c v false rest h = ap (λ (x : List ℕ). 32 ∷ 32 ∷ c ∷ x) (rest.0 (right (nat_le 33 c && nat_le c 126) _ h))

behind : (v : List ℕ) → Behind v
behind [] = (λ h. refl, λ h. absurd (cc))
behind (c ∷ v) = let rest = behind v in (
  λ h. after_word c v (nat_eq c 32) rest h,
  λ h. after_space c v (nat_eq c 32)
      rest h,
)

-- at the start no gap is open
front_step : (c : ℕ) (v : List ℕ) (e : Bool) → cond e false ((nat_le 33 c && nat_le c 126)
    && are_seen_behind false v) ≡ true
    → cond e (rest_of false true v) (c ∷ rest_of true false v) ≡ cond e (32 ∷ 32 ∷ []) (c ∷ []) ++ text_by style.Cased v
front_step c v true h = absurd (cc)
front_step c v false h = ap (λ (x : List ℕ). c ∷ x) ((behind v).0 (right (nat_le 33 c && nat_le c 126) _ h))

at_front : (v : List ℕ) → are_seen v ≡ true → rest_of false false v ≡ text_by style.Cased v
at_front [] h = absurd (cc)
at_front (c ∷ v) h = front_step c v (nat_eq c 32) h

words_said : (v : List ℕ) (ws : List (List ℕ)) (t : List ℕ) (d : ℕ) → joined ws ≡ d ∷ t → spaced_words Whole v ws ≡
    between (d ∷ t)
words_said v [] t d h = absurd (cc)
words_said v (w ∷ ws) t d h = ap (λ (x : List ℕ). 32 ∷ x ++ 32 ∷ []) h

-- ---- small letters

lower_is : (c : ℕ) → IsShown c → nat_eq (to_ascii_lowercase c) 32 ≡ nat_eq c 32
lower_is c h = let a : 32 ≤ c = h.0 in let b : c < 127 = h.1 in grind (arith, nat_tests)

lower_hyphen : (c : ℕ) → IsShown c → (nat_eq (to_ascii_lowercase c) 32 || nat_eq (to_ascii_lowercase c) 45) ≡
    (nat_eq c 32 || nat_eq c 45)
lower_hyphen c h = let a : 32 ≤ c = h.0 in let b : c < 127 = h.1 in grind (arith, nat_tests)

lower_within : (c : ℕ) → (nat_le 33 c && nat_le c 126) ≡ true → (nat_le 33 (to_ascii_lowercase c)
    && nat_le (to_ascii_lowercase c) 126) ≡ true
lower_within c h = grind (arith, nat_tests)

both : (a b : Bool) → a ≡ true → b ≡ true → (a && b) ≡ true
both true b p q = q
both false b p q = absurd (cc)

lower_step : (c : ℕ) (v : List ℕ) (g e : Bool) → (are_seen_behind true v ≡ true →
    are_seen_behind true (map to_ascii_lowercase v) ≡ true) → (are_seen_behind false v ≡ true →
    are_seen_behind false (map to_ascii_lowercase v) ≡ true)
    → cond e (not g && are_seen_behind true v) ((nat_le 33 c && nat_le c 126) && are_seen_behind false v) ≡ true
    → cond e (not g && are_seen_behind true (map to_ascii_lowercase v))
    ((nat_le 33 (to_ascii_lowercase c) && nat_le (to_ascii_lowercase c) 126)
    && are_seen_behind false (map to_ascii_lowercase v)) ≡ true
lower_step c v g true space word h = both (not g) _ (left (not g) _ h) (space (right (not g) _ h))
lower_step c v g false space word h = both _ _ (lower_within c (left _ _ h))
    (word (right (nat_le 33 c && nat_le c 126) _ h))

lower_seen : (g : Bool) (v : List ℕ) → AllByRecursion IsShown v → are_seen_behind g v ≡ true →
    are_seen_behind g (map to_ascii_lowercase v) ≡ true
lower_seen g [] all h = h
lower_seen g (c ∷ v) all h =
    ap (λ (e : Bool). cond e (not g && are_seen_behind true (map to_ascii_lowercase v))
    ((nat_le 33 (to_ascii_lowercase c) && nat_le (to_ascii_lowercase c) 126)
    && are_seen_behind false (map to_ascii_lowercase v))) (lower_is c all.0)
    ∙ lower_step c v g (nat_eq c 32) (lower_seen true v all.1) (lower_seen false v all.1) h

lowered_text : (v : List ℕ) → AllByRecursion IsShown v → text_by style.Cased (map to_ascii_lowercase v) ≡
    text_by style.Lowered v
lowered_text [] all = refl
lowered_text (c ∷ v) all =
    ap₂ ◌++◌ (ap (λ (e : Bool). cond e (32 ∷ 32 ∷ []) (to_ascii_lowercase c ∷ [])) (lower_is c all.0))
    (lowered_text v all.1)

-- ---- without SPACEs and hyphens

digits_text : (v : List ℕ) → filter (λ c. not (nat_eq c 32)) v ≡ text_by style.Digits v
digits_text [] = refl
digits_text (c ∷ v) = step (nat_eq c 32) (digits_text v)
  where
    step : (e : Bool) → filter (λ d. not (nat_eq d 32)) v ≡ text_by style.Digits v
        → cond (not e) (c ∷ filter (λ d. not (nat_eq d 32)) v) (filter (λ d. not (nat_eq d 32)) v) ≡
        cond e [] (c ∷ []) ++ text_by style.Digits v
    step true h = h
    step false h = ap (λ (x : List ℕ). c ∷ x) h

called_text : (v : List ℕ) → AllByRecursion IsShown v → filter (λ c. not (nat_eq c 32 || nat_eq c 45))
    (map to_ascii_lowercase v) ≡ text_by style.Called v
called_text [] all = refl
called_text (c ∷ v) all =
    ap (λ (e : Bool). cond (not e) (to_ascii_lowercase c ∷ filter (λ d. not (nat_eq d 32 || nat_eq d 45))
    (map to_ascii_lowercase v)) (filter (λ d. not (nat_eq d 32 || nat_eq d 45)) (map to_ascii_lowercase v)))
    (lower_hyphen c all.0)
    ∙ step (nat_eq c 32 || nat_eq c 45) (called_text v all.1)
  where
    step : (e : Bool) → filter (λ d. not (nat_eq d 32 || nat_eq d 45)) (map to_ascii_lowercase v) ≡
        text_by style.Called v
        → cond (not e) (to_ascii_lowercase c ∷ filter (λ d. not (nat_eq d 32 || nat_eq d 45))
        (map to_ascii_lowercase v)) (filter (λ d. not (nat_eq d 32 || nat_eq d 45)) (map to_ascii_lowercase v)) ≡
        cond e [] (to_ascii_lowercase c ∷ []) ++ text_by style.Called v
    step true h = h
    step false h = ap (λ (x : List ℕ). to_ascii_lowercase c ∷ x) h

-- ---- the keys

sound : (v : List ℕ) → AllByRecursion IsShown v → is_utf8 v ≡ true
sound v all = is_utf8-from_IsUtf8 v (IsUtf8-from_ascii v (ascii v all))

spelled_is : (f : Family) (v t : List ℕ) → AllByRecursion IsShown v → prepared f Whole (chars v) ≡ t → IsAscii t →
    utf8_of (spelled f Whole v) ≡ Some t
spelled_is f v t all is low = rw (sound v all, is) (ap Some (encodes-IsAscii t low))

said : (w : List ℕ) (ws : List (List ℕ)) (t : List ℕ) → joined ws ≡ t → spaced_words Whole w ws ≡ between t
said w [] t e = ap between e
said w (x ∷ ws) t e = ap between e

cased_words : (v : List ℕ) → are_seen v ≡ true → spaced Whole v ≡ between (text_by style.Cased v)
cased_words v h = said v (words v) (text_by style.Cased v) (sym ((writes v).at_start false) ∙ at_front v h)

-- texts of ASCII are ASCII
low_both : (v w : List ℕ) → AllByRecursion IsLow v → AllByRecursion IsLow w → AllByRecursion IsLow (v ++ w)
low_both [] w h k = k
low_both (c ∷ v) w h k = (h.0, low_both v w h.1 k)

lower_low : (c : ℕ) → IsShown c → to_ascii_lowercase c < 128
lower_low c h = let b : c < 127 = h.1 in grind (arith, nat_tests)

low_written : (s : Style) (c : ℕ) → IsShown c → AllByRecursion IsLow (written s c)
low_written style.Cased c h = elim (nat_eq c 32) as (λ e. AllByRecursion IsLow (cond e (32 ∷ 32 ∷ []) (c ∷ [])))
    [ true ↦ (omega arith, (omega arith, tt)) | false ↦ (let b : c < 127 = h.1 in omega arith, tt) ]
low_written style.Lowered c h = elim (nat_eq c 32)
    as (λ e. AllByRecursion IsLow (cond e (32 ∷ 32 ∷ []) (to_ascii_lowercase c ∷ [])))
    [ true ↦ (omega arith, (omega arith, tt)) | false ↦ (lower_low c h, tt) ]
low_written style.Digits c h = elim (nat_eq c 32) as (λ e. AllByRecursion IsLow (cond e [] (c ∷ [])))
    [ true ↦ tt | false ↦ (let b : c < 127 = h.1 in omega arith, tt) ]
low_written style.Called c h = elim (nat_eq c 32 || nat_eq c 45)
    as (λ e. AllByRecursion IsLow (cond e [] (to_ascii_lowercase c ∷ []))) [ true ↦ tt | false ↦ (lower_low c h, tt) ]

low_text : (s : Style) (v : List ℕ) → AllByRecursion IsShown v → AllByRecursion IsLow (text_by s v)
low_text s [] all = tt
low_text s (c ∷ v) all = low_both (written s c) (text_by s v) (low_written s c all.0) (low_text s v all.1)

low_between : (t : List ℕ) → AllByRecursion IsLow t → AllByRecursion IsLow (between t)
low_between t h = (omega arith, low_both t (32 ∷ []) h (omega arith, tt))

-- each family's text
exact_key : (v : List ℕ) → AllByRecursion IsShown v → are_seen v ≡ true → utf8_of (spelled family.Exact Whole v) ≡
    Some (between (text_by style.Cased v))
exact_key v all h =
    spelled_is family.Exact v (between (text_by style.Cased v)) all (ap (spaced Whole) (normal_same v all)
    ∙ cased_words v h) (low_ascii (between (text_by style.Cased v)) (low_between (text_by style.Cased v)
    (low_text style.Cased v all)))

ignore_key : (v : List ℕ) → AllByRecursion IsShown v → are_seen v ≡ true → utf8_of (spelled family.Ignore Whole v) ≡
    Some (between (text_by style.Lowered v))
ignore_key v all h =
    spelled_is family.Ignore v (between (text_by style.Lowered v)) all
    (ap (spaced Whole) (folded_same v all) ∙ cased_words (map to_ascii_lowercase v) (lower_seen true v all h)
    ∙ ap between (lowered_text v all)) (low_ascii (between (text_by style.Lowered v))
    (low_between (text_by style.Lowered v) (low_text style.Lowered v all)))

numeric_key : (v : List ℕ) → AllByRecursion IsShown v → utf8_of (spelled family.Numeric Whole v) ≡
    Some (text_by style.Digits v)
numeric_key v all = spelled_is family.Numeric v (text_by style.Digits v) all (ap (filter (λ c. not (nat_eq c 32)))
    (normal_same v all) ∙ digits_text v) (low_ascii (text_by style.Digits v) (low_text style.Digits v all))

telephone_key : (v : List ℕ) → AllByRecursion IsShown v → utf8_of (spelled family.Telephone Whole v) ≡
    Some (text_by style.Called v)
telephone_key v all =
    spelled_is family.Telephone v (text_by style.Called v) all (ap (filter (λ c. not (nat_eq c 32 || nat_eq c 45)))
    (folded_same v all) ∙ called_text v all) (low_ascii (text_by style.Called v) (low_text style.Called v all))

that_same : (w : List ℕ) → is_that w (Some w) ≡ true
that_same w = (bytes_eq-Decides w w).1 refl

that_inside : (b : Bool) (w : List ℕ) (o : Option (List ℕ)) → o ≡ Some w → (not b || is_that w (cond b o None)) ≡ true
that_inside true w o e = ap (is_that w) e ∙ that_same w
that_inside false w o e = refl

plain : (v : List ℕ) → AllByRecursion IsShown v → are_seen v ≡ true → are_plain (texts_of v) v ≡ true
plain v all h =
    both _ _ (both _ _ (ap (is_that (plain_text family.Exact v)) (exact_key v all h)
    ∙ that_same (plain_text family.Exact v)) (ap (is_that (plain_text family.Ignore v)) (ignore_key v all h)
    ∙ that_same (plain_text family.Ignore v)))
    (both _ _ (that_inside (is_in_syntax syntax.NumericString v) _ _ (numeric_key v all))
    (that_inside (is_in_syntax syntax.TelephoneNumber v) _ _ (telephone_key v all)))

-- nothing is kept of their texts
pub seen_form : (v : List ℕ) → true ≡ are_seen v → None ≡ form_of v
seen_form v h = sym (ap (λ (b : Bool). cond b None (Some (texts_of v))) (plain v (shown true v (sym h)) (sym h)))
