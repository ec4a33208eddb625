-- What a filter's text was expected to go on with (RFC 4515 3): a text and a place in it come in, a sentence goes out.
use Rattle.std.specs.Prelude.{◌++◌, ◌||◌, ◌&&◌, ℕ, ◌+◌, ◌-◌, List, [], ◌∷◌, Bool, nat_eq, false, cond, codes, length, take, drop, slice_get, Option, None, Some}
use Rattle.std.specs.List.{position, list_any}
use Rattle.text_faults.specs.declared.filters.Around.{Around}
use Rattle.text_faults.specs.declared.filters.Around.TheVariants as around
use Rattle.text_faults.specs.declared.filters.Place.{Place}
use Rattle.text_faults.specs.declared.filters.Place.TheVariants as place
use Rattle.text_faults.specs.Words.{octet_shown}

-- the place behind an octet, which is of this index: '&' and '|' begin a row of filters, '!' a negation, all else an
-- item, which ends at its ')'
abbrev pub place_after : Place → ℕ → ℕ → Place
place_after place.Opening index octet = place.Inside
place_after place.Inside index octet =
    cond (nat_eq octet 38 || nat_eq octet 124) place.Behind (cond (nat_eq octet 33) place.Opening (place.InItem index))
place_after (place.InItem start) index octet = cond (nat_eq octet 41) place.Behind (place.InItem start)
place_after place.Behind index octet = cond (nat_eq octet 40) place.Inside place.Behind

-- what is round the place behind an octet, the innermost last: a ')' behind a filter leaves it
abbrev pub around_after : Place → ℕ → List Around → List Around
around_after place.Opening octet outer = outer
around_after place.Inside octet outer =
    cond (nat_eq octet 38 || nat_eq octet 124) (outer ++ around.Row ∷ [])
    (cond (nat_eq octet 33) (outer ++ around.Negation ∷ []) outer)
around_after (place.InItem start) octet outer = outer
around_after place.Behind octet outer = cond (nat_eq octet 40) outer (take (length outer - 1) outer)

-- the place behind octets, the first of this index, and what is round it
abbrev pub place_behind : ℕ → Place → List ℕ → Place
place_behind index p [] = p
place_behind index p (octet ∷ octets) = place_behind (index + 1) (place_after p index octet) octets

-- what is round the place behind octets, the innermost last
abbrev pub around_behind : ℕ → Place → List Around → List ℕ → List Around
around_behind index p outer [] = outer
around_behind index p outer (octet ∷ octets) =
    around_behind (index + 1) (place_after p index octet) (around_after p octet outer) octets

-- what is expected behind a filter with this round it
abbrev pub wanted_behind : Option Around → List ℕ
wanted_behind None = codes "nothing behind the filter"
wanted_behind (Some around.Row) = codes "'(' or ')'"
wanted_behind (Some around.Negation) = codes "')'"

-- how many digits are missing behind the last backslash of a value, of which so many were missing before it
abbrev pub missing_digits : ℕ → List ℕ → ℕ
missing_digits missing [] = missing
missing_digits missing (octet ∷ octets) =
    missing_digits (cond (nat_eq octet 92 && nat_eq missing 0) 2 (missing - 1)) octets

-- what is expected in place of an octet that no value has, or of the text's end
abbrev pub wanted_for : Option ℕ → List ℕ
wanted_for None = codes "')'"
wanted_for (Some octet) =
    cond (nat_eq octet 40) (codes "a value in which '(' is written \\28")
    (cond (nat_eq octet 42) (codes "a value in which '*' is written \\2a")
    (cond (nat_eq octet 0) (codes "a value in which the octet 0 is written \\00")
    (codes "a value in which each octet is text, or a backslash and two digits")))

-- what is expected in a value that began so
abbrev pub wanted_in_value : List ℕ → Option ℕ → List ℕ
wanted_in_value value next =
    cond (nat_eq (missing_digits 0 value) 0) (wanted_for next) (codes "two hexadecimal digits behind the backslash")

-- whether an octet is the first of an operator of two
abbrev pub is_half : Option ℕ → Bool
is_half None = false
is_half (Some octet) = nat_eq octet 62 || nat_eq octet 60 || nat_eq octet 126

-- whether octets end with the first of an operator of two
abbrev pub ends_with_half : List ℕ → Bool
ends_with_half octets = is_half (slice_get octets (length octets - 1))

-- what is expected in an item's front, which has no '=' yet
abbrev pub wanted_in_front : List ℕ → List ℕ
wanted_in_front front =
    cond (ends_with_half front) (codes "'=' behind '>', '<' or '~'")
    (cond (list_any (λ octet. nat_eq octet 58) front) (codes "a rule's name, or ':=' and a value")
    (codes "the rest of the attribute's name, '=', '~=', '>=', '<=' or ':='"))

-- what is expected in an item, which has its first '=' here, if it has one
abbrev pub wanted_in_parts : List ℕ → Option ℕ → Option ℕ → List ℕ
wanted_in_parts item None next = wanted_in_front item
wanted_in_parts item (Some equals) next = wanted_in_value (drop (equals + 1) item) next

-- what is expected in an item that began so
abbrev pub wanted_in_item : List ℕ → Option ℕ → List ℕ
wanted_in_item item next = wanted_in_parts item (position (λ octet. nat_eq octet 61) item) next

-- what is expected at a place, behind this front of the text and before this octet
abbrev pub wanted_at : Place → List Around → List ℕ → Option ℕ → List ℕ
wanted_at place.Opening outer front next = codes "'('"
wanted_at place.Inside outer front next = codes "'&', '|', '!', ':' or an attribute's name"
wanted_at place.Behind outer front next = wanted_behind (slice_get outer (length outer - 1))
wanted_at (place.InItem start) outer front next = wanted_in_item (drop start front) next

-- the octet that was found
abbrev pub found_shown : Option ℕ → List ℕ
found_shown None = codes "the end of the text"
found_shown (Some octet) = codes "'" ++ octet_shown octet ++ codes "'"

-- what a sentence says of a filter's text whose longest front that begins a filter has so many octets
abbrev pub filter_sentence : List ℕ → ℕ → List ℕ
filter_sentence text at =
    codes "expected "
    ++ wanted_at (place_behind 0 place.Opening (take at text)) (around_behind 0 place.Opening [] (take at text))
    (take at text)
    (slice_get text at)
    ++ codes ", found " ++ found_shown (slice_get text at)
