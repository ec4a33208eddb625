-- Which value of a record of LDIF a result code is given for, and what is wrong with it (RFC 4511 4.7, appendix A.2).
use Rattle.std.specs.Prelude.{◌++◌, ◌&&◌, ℕ, ◌+◌, ◌-◌, List, [], ◌∷◌, Bool, false, not, nat_eq, cond, codes, decimal, length, map, is_none, slice_get, Option, None, Some}
use Rattle.std.specs.List.{filter, list_any}
use Rattle.std.specs.Option.{unwrap_or}
use Rattle.std.specs.Str.{bytes_eq, is_utf8}
use Rattle.ldap_match.specs.Item.{is_of_syntax}
use Rattle.ldap_match.specs.Keyed.{key_at}
use Rattle.ldap_match.specs.ldap_dn.Names.{TypeAndValue, RdnModel}
use Rattle.ldap_match.specs.ldap_dn.Texts.{name_of_text}
use Rattle.ldap_match.specs.ldap_schema.ObjectClassType.{object_class_type}
use Rattle.ldap_match.specs.ldap_schema.Rules.{equality_of}
use Rattle.ldap_match.specs.ldap_schema.Schema.{SchemaModel, TypeModel, find, type_at}
use Rattle.ldap_match.specs.ldap_words.Words.{is_same_word}
use Rattle.ldap_match.specs.ldap_words.declared.rule.Rule.{Rule}
use Rattle.text_faults.specs.Codes.{word_of}
use Rattle.text_faults.specs.Words.{word_shown}
use Rattle.ldif_faults.specs.Placed.{LineModel, PlacedModel, Told, at_name, told_or}

-- what a code says alone
abbrev pub by_code : PlacedModel → ℕ → Told
by_code r code = at_name r (word_of code)

-- the first of these lines that is so
abbrev pub first_line : (LineModel → Bool) → List LineModel → Option LineModel
first_line is_so lines = slice_get (filter is_so lines) 0

-- 17: a value whose type the schema lacks
abbrev pub is_unknown : SchemaModel → LineModel → Bool
is_unknown s line = is_none (find s line.description)

-- a line whose type the schema lacks
abbrev pub no_type : LineModel → List ℕ
no_type line = codes "no attribute type '" ++ word_shown line.description ++ codes "' in the schema"

-- a value whose type the schema lacks, or what the code says alone
abbrev pub unknown_type : SchemaModel → PlacedModel → Told
unknown_type s r = told_or (by_code r 17) no_type (first_line (is_unknown s) r.lines)

-- what makes a value one of its type: its key under the type's EQUALITY rule; its octets, where there is no rule or no
-- key (RFC 4512 2.2)
abbrev pub key_by : SchemaModel → Option Rule → List ℕ → List ℕ
key_by s None octets = octets
key_by s (Some r) octets = unwrap_or (key_at s r octets) octets

-- the same, with the type before it
abbrev pub identity_by : SchemaModel → Option ℕ → List ℕ → List ℕ
identity_by s None octets = 58 ∷ octets
identity_by s (Some t) octets = decimal t ++ 58 ∷ key_by s (equality_of s t) octets

-- what two lines have in common that give a value twice
abbrev pub identity : SchemaModel → LineModel → List ℕ
identity s line = identity_by s (find s line.description) line.octets

-- 19: a second value of a type that has one at most (RFC 4512 4.1.2)
abbrev pub is_single_type : Option TypeModel → Bool
is_single_type None = false
is_single_type (Some t) = t.is_single_value

-- the type, where it is SINGLE-VALUE
abbrev pub single_of : SchemaModel → Option ℕ → Option ℕ
single_of s None = None
single_of s (Some t) = cond (is_single_type (type_at s t)) (Some t) None

-- the type of a line, where it is SINGLE-VALUE
abbrev pub single_in : SchemaModel → LineModel → Option ℕ
single_in s line = single_of s (find s line.description)

-- whether a type is among types
abbrev pub has_type : List ℕ → ℕ → Bool
has_type types t = list_any (λ u. nat_eq u t) types

-- the line, if it is of such a type that was seen before it, else what is found behind it
abbrev pub repeats_by : LineModel → List ℕ → Option ℕ → (List ℕ → Option LineModel) → Option LineModel
repeats_by line seen None behind = behind seen
repeats_by line seen (Some t) behind = cond (has_type seen t) (Some line) (behind (seen ++ t ∷ []))

-- the first line of such a type that was seen before it
abbrev pub repeats : SchemaModel → List ℕ → List LineModel → Option LineModel
repeats s seen [] = None
repeats s seen (line ∷ lines) = repeats_by line seen (single_in s line) (λ types. repeats s types lines)

-- a second value of a type that has one at most
abbrev pub second_value : LineModel → List ℕ
second_value line = codes "a second value of '" ++ word_shown line.description ++ codes "', which is SINGLE-VALUE"

-- the types and values of a name's own relative name, in the order written
abbrev pub pairs_of : Option RdnModel → List TypeAndValue
pairs_of None = []
pairs_of (Some rdn) = rdn.spelling

-- those of the last relative name, which is the entry's own
abbrev pub pairs_in : Option (List RdnModel) → List TypeAndValue
pairs_in None = []
pairs_in (Some rdns) = pairs_of (slice_get rdns (length rdns - 1))

-- those of a name's text
abbrev pub own_pairs : SchemaModel → List ℕ → List TypeAndValue
own_pairs s name = pairs_in (name_of_text s name)

-- whether a pair of a name gives another value to this type, which has that identity
abbrev pub differs : SchemaModel → ℕ → List ℕ → TypeAndValue → Bool
differs s t id p = nat_eq p.kind t && not (bytes_eq id (identity_by s (Some p.kind) p.value))

-- whether pairs of a name do
abbrev pub differ_by : SchemaModel → List TypeAndValue → List ℕ → Option ℕ → Bool
differ_by s pairs id None = false
differ_by s pairs id (Some t) = list_any (differs s t id) pairs

-- whether a line is of a SINGLE-VALUE type to which the name gives another value
abbrev pub is_named_otherwise : SchemaModel → List TypeAndValue → LineModel → Bool
is_named_otherwise s pairs line = differ_by s pairs (identity s line) (single_in s line)

-- such a line
abbrev pub named_otherwise : LineModel → List ℕ
named_otherwise line = codes "'" ++ word_shown line.description ++ codes
    "' is SINGLE-VALUE, and the name gives it another value"

-- a second value of such a type: among the values, or beside the name's
abbrev pub repeated_by : SchemaModel → PlacedModel → Option LineModel → Told
repeated_by s r None =
    told_or (by_code r 19) named_otherwise (first_line (is_named_otherwise s (own_pairs s r.name)) r.lines)
repeated_by s r (Some line) = told_or (by_code r 19) second_value (Some line)

-- the same of a record
abbrev pub repeated : SchemaModel → PlacedModel → Told
repeated s r = repeated_by s r (repeats s [] r.lines)

-- 20: the index of the first of these that is the same as one before it, counted from this index
abbrev pub again_from : {A : Type 0} → (A → A → Bool) → List A → ℕ → List A → Option ℕ
again_from same before index [] = None
again_from same before index (x ∷ xs) =
    cond (list_any (same x) before) (Some index) (again_from same (before ++ x ∷ []) (index + 1) xs)

-- the line of an index
abbrev pub line_at : List LineModel → Option ℕ → Option LineModel
line_at lines None = None
line_at lines (Some index) = slice_get lines index

-- the first line that gives a value of a line before it
abbrev pub twice : SchemaModel → List LineModel → Option LineModel
twice s lines = line_at lines (again_from bytes_eq [] 0 (map (identity s) lines))

-- such a line; its value is shown where it is text
abbrev pub given_twice : LineModel → List ℕ
given_twice line =
    cond (is_utf8 line.octets)
    (codes "the value '" ++ word_shown line.octets ++ codes "' of '" ++ word_shown line.description ++ codes
    "' comes twice")
    (codes "a value of '" ++ word_shown line.description ++ codes "' comes twice")

-- a value that comes twice; else a type does, under two names
abbrev pub doubled : SchemaModel → PlacedModel → Told
doubled s r = told_or (at_name r (codes "a type comes under two of its names")) given_twice (twice s r.lines)

-- 21: a value that is in no syntax of its type
abbrev pub is_no_value : SchemaModel → Option ℕ → List ℕ → Bool
is_no_value s None octets = false
is_no_value s (Some t) octets = not (is_of_syntax s t octets)

-- a line whose value isn't in the syntax of its type
abbrev pub is_bad_value : SchemaModel → LineModel → Bool
is_bad_value s line = is_no_value s (find s line.description) line.octets

-- a name of the type objectClass, and of no other one
abbrev pub is_number : ℕ → Option ℕ → Bool
is_number t None = false
is_number t (Some u) = nat_eq t u

-- whether a word stands for objectClass, by the type that the schema has for it
abbrev pub is_object_class_by : SchemaModel → List ℕ → Option ℕ → Bool
is_object_class_by s word None = is_same_word (codes "objectClass") word
is_object_class_by s word (Some t) = is_number t (object_class_type s)

-- whether a line's type is objectClass
abbrev pub is_object_class : SchemaModel → LineModel → Bool
is_object_class s line = is_object_class_by s line.description (find s line.description)

-- a value of objectClass that the schema has no class for
abbrev pub no_class : List ℕ → List ℕ
no_class name = codes "no object class '" ++ word_shown name ++ codes "' in the schema"

-- a value that isn't in the syntax of its type
abbrev pub none_of_type : LineModel → List ℕ
none_of_type line =
    codes "'" ++ word_shown line.octets ++ codes "' is no value of '" ++ word_shown line.description
    ++ cond (is_utf8 line.octets) (codes "'") (codes "': it is not UTF-8")

-- what is wrong with a value that its type's syntax hasn't
abbrev pub bad_value : SchemaModel → LineModel → List ℕ
bad_value s line = cond (is_object_class s line) (no_class line.octets) (none_of_type line)

-- a value that is in no syntax of its type, or what the code says alone
abbrev pub no_value : SchemaModel → PlacedModel → Told
no_value s r = told_or (by_code r 21) (bad_value s) (first_line (is_bad_value s) r.lines)
