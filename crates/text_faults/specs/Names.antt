-- What is wrong with a text that is no name's (RFC 4514 3): a schema and a text come in, a sentence goes out.
use Rattle.std.specs.Prelude.{◌++◌, ◌||◌, ◌&&◌, ℕ, ◌+◌, ◌-◌, List, [], ◌∷◌, map, Bool, false, not, nat_eq, cond, codes, length, drop, take, slice_get, is_none, is_some, option_map, Option, None, Some}
use Rattle.std.specs.List.{filter, list_all, position, prefix_len, slice_split, suffix_len}
use Rattle.std.specs.Char.{is_ascii_whitespace}
use Rattle.std.specs.Str.{is_utf8}
use Rattle.ldap_match.specs.ldap_dn.Texts.{name_of_text, tokens_of}
use Rattle.ldap_match.specs.ldap_schema.Rules.{equality_of}
use Rattle.ldap_match.specs.ldap_schema.Schema.{SchemaModel, find}
use Rattle.ldap_match.specs.ldap_words.Octets.{begins_with}
use Rattle.text_faults.specs.Words.{octet_shown}
use Rattle.text_faults.specs.Words.{word_shown}

-- this octet, not escaped
abbrev pub is_bare : ℕ → ℕ × Bool → Bool
is_bare mark o = nat_eq o.0 mark && not o.1

-- octets, each with whether it is escaped: right behind a backslash that is itself not escaped
abbrev pub escapes : Bool → List ℕ → List (ℕ × Bool)
escapes is_escaped [] = []
escapes is_escaped (octet ∷ octets) = (octet, is_escaped) ∷ escapes (is_bare 92 (octet, is_escaped)) octets

-- the parts of octets between bare marks
abbrev pub parts_from : Bool → ℕ → List ℕ → List (List ℕ)
parts_from is_escaped mark octets = map (map (λ o. o.0)) (slice_split (is_bare mark) (escapes is_escaped octets))

-- the parts of a text between bare marks
abbrev pub parts_of : ℕ → List ℕ → List (List ℕ)
parts_of mark octets = parts_from false mark octets

-- less the white space at both ends
abbrev pub less_front : List ℕ → List ℕ
less_front octets = drop (prefix_len is_ascii_whitespace octets) octets

-- less the white space at the end
abbrev pub less_back : List ℕ → List ℕ
less_back octets = take (length octets - suffix_len is_ascii_whitespace octets) octets

-- less the white space at both ends
abbrev pub trimmed : List ℕ → List ℕ
trimmed octets = less_back (less_front octets)

-- spaces alone
abbrev pub is_blank : List ℕ → Bool
is_blank octets = list_all (λ octet. nat_eq octet 32) octets

-- a part of a name that is the text of one
abbrev pub is_name : SchemaModel → List ℕ → Bool
is_name s octets = is_utf8 octets && is_some (name_of_text s octets)

-- a part of a name that isn't blank and is the text of a name
abbrev pub is_right : SchemaModel → List ℕ → Bool
is_right s part = not (is_blank part) && is_name s part

-- the first part that is none
abbrev pub first_wrong : SchemaModel → List (List ℕ) → Option (List ℕ)
first_wrong s [] = None
first_wrong s (part ∷ parts) = cond (is_right s part) (first_wrong s parts) (Some part)

-- an octet that a value has only behind a backslash: '"', '+', ',', ';', '<', '>' and NUL (RFC 4514 2.4)
abbrev pub is_mark : ℕ → Bool
is_mark octet =
    nat_eq octet 34 || nat_eq octet 43 || nat_eq octet 44 || nat_eq octet 59 || nat_eq octet 60 || nat_eq octet 62 ||
    nat_eq octet 0

-- such an octet, not escaped
abbrev pub is_bare_mark : ℕ × Bool → Bool
is_bare_mark o = is_mark o.0 && not o.1

-- the first of them that is bare
abbrev pub bare_from : Bool → List ℕ → Option ℕ
bare_from is_escaped value = option_map (λ o. o.0) (slice_get (filter is_bare_mark (escapes is_escaped value)) 0)

-- the first such octet of a value that isn't escaped
abbrev pub bare_mark : List ℕ → Option ℕ
bare_mark value = bare_from false value

-- a value that is in no name for its type's sake
abbrev pub lacks_equality : List ℕ → List ℕ
lacks_equality name = codes "'" ++ word_shown name ++ codes "' has no EQUALITY, which a part of a name needs"

-- a value that its type doesn't have in a name
abbrev pub none_of_type : List ℕ → List ℕ → List ℕ
none_of_type name value = codes "'" ++ word_shown value ++ codes "' is no value of '" ++ word_shown name ++ codes
    "' in a name"

-- a value without a key in a name: its type lacks EQUALITY, or has no key for this value
abbrev pub no_value : SchemaModel → ℕ → List ℕ → List ℕ → List ℕ
no_value s t name value = cond (is_none (equality_of s t)) (lacks_equality name) (none_of_type name value)

-- a mark that needs a backslash, or else what else is wrong
abbrev pub bare_or : Option ℕ → List ℕ → List ℕ
bare_or None others = others
bare_or (Some octet) others = codes "the '" ++ octet_shown octet ++ codes "' in a value comes behind a backslash"

-- a value of a type that is none of a name
abbrev pub bad_value : SchemaModel → ℕ → List ℕ → List ℕ → List ℕ
bad_value s t name value =
    cond (begins_with 35 value) (codes "a value in hexadecimal, behind '#', is not supported: '#' itself is '\\#'")
    (bare_or (bare_mark value) (no_value s t name value))

-- a name of a type, or of none, and a value, which are this pair
abbrev pub bad_typed : SchemaModel → List ℕ → Option ℕ → List ℕ → List ℕ → List ℕ
bad_typed s pair None name value = codes "no attribute type '" ++ word_shown name ++ codes "' (in '" ++ word_shown
    (trimmed pair) ++ codes "')"
bad_typed s pair (Some t) name value = bad_value s t name value

-- a type's name and a value, which are this pair
abbrev pub bad_named : SchemaModel → List ℕ → List ℕ → List ℕ → List ℕ
bad_named s pair name value = bad_typed s pair (find s name) name value

-- a pair with its first '=' here, or without one
abbrev pub bad_cut : SchemaModel → List ℕ → Option ℕ → List ℕ
bad_cut s pair None = codes "expected 'type=value', found '" ++ word_shown (trimmed pair) ++ codes "'"
bad_cut s pair (Some at) = bad_named s pair (trimmed (take at pair)) (trimmed (drop (at + 1) pair))

-- a type and a value that are none of a name: the escapes come first
abbrev pub bad_pair : SchemaModel → List ℕ → List ℕ
bad_pair s pair =
    cond (is_blank pair) (codes "an empty part: expected 'type=value'")
    (cond (is_none (tokens_of pair))
    (codes "a backslash in '" ++ word_shown (trimmed pair) ++ codes
    "' has no mark and no two hexadecimal digits behind it")
    (bad_cut s pair (position (λ octet. nat_eq octet 61) pair)))

-- a relative name, by its first pair that is wrong
abbrev pub bad_rdn_by : SchemaModel → List ℕ → Option (List ℕ) → List ℕ
bad_rdn_by s rdn None = codes "a type comes twice in '" ++ word_shown (trimmed rdn) ++ codes "'"
bad_rdn_by s rdn (Some pair) = bad_pair s pair

-- what is wrong with a relative name
abbrev pub bad_rdn : SchemaModel → List ℕ → List ℕ
bad_rdn s rdn = bad_rdn_by s rdn (first_wrong s (parts_of 43 rdn))

-- a text, by its first relative name that is wrong
abbrev pub no_name : List ℕ → List ℕ
no_name text = codes "'" ++ word_shown text ++ codes "' is no name"

-- what is wrong with a text's first wrong relative name, if it has one
abbrev pub bad_name_by : SchemaModel → List ℕ → Option (List ℕ) → List ℕ
bad_name_by s text None = no_name text
bad_name_by s text (Some rdn) = bad_rdn s rdn

-- what a sentence says of a text that is no entry's name
abbrev pub name_sentence : SchemaModel → List ℕ → List ℕ
name_sentence s text =
    cond (is_blank text) (codes "the name is empty, and names no entry")
    (bad_name_by s text (first_wrong s (parts_of 44 text)))
