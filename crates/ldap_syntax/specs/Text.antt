-- Text as it is compared: the steps of RFC 4518 over all of Unicode, as this project orders them.
use Rattle.std.specs.Prelude.{ℕ, List, [], ◌∷◌, ◌++◌, Bool, true, false, cond, ◌&&◌, ◌||◌, not, nat_eq, nat_le, map, filter}
use Rattle.unicode_normalization.specs.Forms.{nfkc}
use Rattle.caseless.specs.Caseless.{default_case_fold}
use Rattle.ldap_words.specs.declared.rule.Family.{Family}
use Rattle.ldap_words.specs.declared.rule.Family.TheVariants.{Ignore, Exact, Numeric, Telephone, Ia5, Ia5Exact, Identifier, Name, Boolean, Integer, Octet, Time}
use Rattle.ldap_syntax.specs.declared.preparing.Part.{Part}
use Rattle.ldap_syntax.specs.declared.preparing.Part.TheVariants.{Whole, Initial, Any, Final}

-- white space: the characters with the property White_Space (RFC 4518 2.2)
abbrev pub is_white : ℕ → Bool
is_white c =
    (nat_le 0x9 c && nat_le c 0xD) || nat_eq c 0x20 || nat_eq c 0x85 || nat_eq c 0xA0 || nat_eq c 0x1680 ||
    (nat_le 0x2000 c && nat_le c 0x200A)
    || nat_eq c 0x2028 || nat_eq c 0x2029 || nat_eq c 0x202F || nat_eq c 0x205F || nat_eq c 0x3000

-- a control character that isn't white space (RFC 4518 2.2)
abbrev pub is_control : ℕ → Bool
is_control c = nat_le c 0x8 || (nat_le 0xE c && nat_le c 0x1F) || (nat_le 0x7F c && nat_le c 0x84) || (nat_le 0x86 c
    && nat_le c 0x9F)

-- white space is mapped to SPACE (RFC 4518 2.2)
abbrev pub mapped_character : ℕ → ℕ
mapped_character c = cond (is_white c) 0x20 c

-- control characters are mapped to nothing (RFC 4518 2.2)
abbrev pub mapped : List ℕ → List ℕ
mapped text = map mapped_character (filter (λ c. not (is_control c)) text)

-- mapped, and in normalization form KC (RFC 4518 2.3)
abbrev pub normal : List ℕ → List ℕ
normal text = nfkc (mapped text)

-- mapped and in form KC, then case folded by full folding, and in form KC again (RFC 4518 2.2, 2.3)
abbrev pub folded : List ℕ → List ℕ
folded text = nfkc (default_case_fold (normal text))

-- whether a word begins at the front
abbrev pub begins_word : List ℕ → Bool
begins_word [] = false
begins_word (c ∷ cs) = not (nat_eq c 0x20)

-- words with one more character in front: in the first word, or as a word of its own
abbrev pub with_character : ℕ → Bool → List (List ℕ) → List (List ℕ)
with_character c true (w ∷ ws) = (c ∷ w) ∷ ws
with_character c b ws = (c ∷ []) ∷ ws

-- the words of a text: its longest runs without SPACE
abbrev pub words : List ℕ → List (List ℕ)
words [] = []
words (c ∷ cs) = cond (nat_eq c 0x20) (words cs) (with_character c (begins_word cs) (words cs))

-- words with two SPACEs between them
abbrev pub joined : List (List ℕ) → List ℕ
joined [] = []
joined (w ∷ []) = w
joined (w ∷ v ∷ ws) = w ++ 0x20 ∷ 0x20 ∷ joined (v ∷ ws)

-- whether the text begins with SPACE
abbrev pub begins_with_space : List ℕ → Bool
begins_with_space [] = false
begins_with_space (c ∷ cs) = nat_eq c 0x20

-- whether the text ends with SPACE
abbrev pub ends_with_space : List ℕ → Bool
ends_with_space [] = false
ends_with_space (c ∷ []) = nat_eq c 0x20
ends_with_space (c ∷ d ∷ cs) = ends_with_space (d ∷ cs)

-- whether a SPACE stands before the first word: at a closed edge always, at an open one where the text has some there
abbrev pub is_led : Part → List ℕ → Bool
is_led Any text = begins_with_space text
is_led Final text = begins_with_space text
is_led part text = true

-- whether a SPACE stands behind the last word: at a closed edge always, at an open one where the text has some there
abbrev pub is_closed : Part → List ℕ → Bool
is_closed Initial text = ends_with_space text
is_closed Any text = ends_with_space text
is_closed part text = true

-- one SPACE, or none
abbrev pub space_if : Bool → List ℕ
space_if true = 0x20 ∷ []
space_if false = []

-- what stands for a text of SPACEs alone: two SPACEs for a whole value, one for a part
abbrev pub blank : Part → List ℕ
blank Whole = 0x20 ∷ 0x20 ∷ []
blank part = 0x20 ∷ []

-- the words of a text with SPACEs at its edges and between them, or SPACEs alone where it has no word
abbrev pub spaced_words : Part → List ℕ → List (List ℕ) → List ℕ
spaced_words part text [] = blank part
spaced_words part text (w ∷ ws) = space_if (is_led part text) ++ joined (w ∷ ws) ++ space_if (is_closed part text)

-- One SPACE at each closed edge, at most one at an open edge, and two between words (RFC 4518 2.6.1).
abbrev pub spaced : Part → List ℕ → List ℕ
spaced part text = spaced_words part text (words text)

-- no SPACEs (RFC 4518 2.6.2)
abbrev pub without_spaces : List ℕ → List ℕ
without_spaces text = filter (λ c. not (nat_eq c 0x20)) text

-- no SPACEs and no hyphens (RFC 4518 2.6.3)
abbrev pub without_separators : List ℕ → List ℕ
without_separators text = filter (λ c. not (nat_eq c 0x20 || nat_eq c 0x2D)) text

-- A text, or a part of one, as a family compares it (RFC 4517 4.2). What is no text stays as it stands.
abbrev pub prepared : Family → Part → List ℕ → List ℕ
prepared Ignore part text = spaced part (folded text)
prepared Ia5 part text = spaced part (folded text)
prepared Exact part text = spaced part (normal text)
prepared Ia5Exact part text = spaced part (normal text)
prepared Numeric part text = without_spaces (normal text)
prepared Telephone part text = without_separators (folded text)
prepared Identifier part text = text
prepared Name part text = text
prepared Boolean part text = text
prepared Integer part text = text
prepared Octet part text = text
prepared Time part text = text
