-- What is wrong with a line of an index choice: a schema, a text and the line's number come in, a sentence goes out.
use Rattle.std.specs.Prelude.{◌++◌, ◌||◌, ◌&&◌, ℕ, ◌+◌, ◌-◌, List, [], ◌∷◌, Bool, nat_eq, cond, codes, length, drop, take, slice_get, is_none, Option, None, Some}
use Rattle.std.specs.List.{position, slice_split}
use Rattle.std.specs.Str.{bytes_eq}
use Rattle.ldap_words.specs.Words.{is_oid}
use Rattle.ldap_match.specs.Item.{ordering_of, substrings_of}
use Rattle.ldap_match.specs.ldap_schema.Rules.{equality_of}
use Rattle.ldap_match.specs.ldap_schema.Schema.{SchemaModel, find}
use Rattle.std.specs.Option.{unwrap_or}
use Rattle.schema_meaning.specs.schema_text.Texts.{lines_of}
use Rattle.schema_faults.specs.declared.indexes.RuleKeyword.{RuleKeyword}
use Rattle.schema_faults.specs.declared.indexes.RuleKeyword.TheVariants as keyword
use Rattle.schema_faults.specs.declared.refusal.IndexRefusal.{IndexRefusal}
use Rattle.schema_faults.specs.declared.refusal.IndexRefusal.TheVariants as refusal
use Rattle.text_faults.specs.Fronts.{front_of}
use Rattle.text_faults.specs.Words.{word_shown}

-- the line of an index, as the reader of schemas cuts it; none is empty
abbrev pub line_of : List ℕ → ℕ → List ℕ
line_of text index = unwrap_or (slice_get (lines_of text) index) []

-- what each line is to be
abbrev pub wanted_line : List ℕ
wanted_line = codes "expected a type, a colon and kinds of index, as in 'cn: eq sub'"

-- a kind of index
abbrev pub is_kind : List ℕ → Bool
is_kind word = bytes_eq word (codes "pres") || bytes_eq word (codes "eq") || bytes_eq word (codes "ord") || bytes_eq
    word (codes "sub")

-- a word that is no kind of index
abbrev pub no_kind : List ℕ → List ℕ
no_kind word =
    cond (nat_eq (length word) 0) (codes "one space comes before each kind, and none at the end")
    (codes "no kind of index '" ++ word_shown word ++ codes "': there are pres, eq, ord and sub")

-- the first of these words that is no kind of index
abbrev pub first_no_kind : List (List ℕ) → List ℕ
first_no_kind [] = wanted_line
first_no_kind (word ∷ words) = cond (is_kind word) (first_no_kind words) (no_kind word)

-- what is behind a colon, and is no list of kinds
abbrev pub bad_kinds : List ℕ → List ℕ
bad_kinds [] = codes "no kind of index behind the colon: there are pres, eq, ord and sub"
bad_kinds (octet ∷ kinds) =
    cond (nat_eq octet 32) (first_no_kind (slice_split (nat_eq 32) kinds)) (codes "expected a space behind the colon")

-- what is before a colon and behind it
abbrev pub bad_parts : List ℕ → List ℕ → List ℕ
bad_parts name kinds =
    cond (is_oid name) (bad_kinds kinds) (codes "'" ++ word_shown name ++ codes
    "' is no name of a type and no object identifier")

-- a line with its first colon here, or without one
abbrev pub bad_at : List ℕ → Option ℕ → List ℕ
bad_at line None = wanted_line
bad_at line (Some colon) = bad_parts (take colon line) (drop (colon + 1) line)

-- a line that is no type with kinds
abbrev pub bad_line : List ℕ → List ℕ
bad_line [] = wanted_line
bad_line (octet ∷ line) =
    cond (nat_eq octet 32) (codes "the line begins with a space")
    (bad_at (octet ∷ line) (position (λ octet. nat_eq octet 58) (octet ∷ line)))

-- the keyword of the rule that a kind of index needs and a type lacks
abbrev pub lacks : SchemaModel → ℕ → List ℕ → Option RuleKeyword
lacks s t kind =
    cond (bytes_eq kind (codes "eq") && is_none (equality_of s t)) (Some keyword.Equality)
    (cond (bytes_eq kind (codes "ord") && is_none (ordering_of s t)) (Some keyword.Ordering)
    (cond (bytes_eq kind (codes "sub") && is_none (substrings_of s t)) (Some keyword.Substr) None))

-- a rule's keyword in the schema's text (RFC 4512 4.1.2)
abbrev pub keyword_word : RuleKeyword → List ℕ
keyword_word keyword.Equality = codes "EQUALITY"
keyword_word keyword.Ordering = codes "ORDERING"
keyword_word keyword.Substr = codes "SUBSTR"

-- a type that lacks a rule, where it isn't told which
abbrev pub lacks_some : List ℕ → List ℕ
lacks_some name = codes "'" ++ word_shown name ++ codes "' lacks a rule for one of its kinds"

-- a kind, and the type of a name that has no rule of this keyword
abbrev pub no_index : List ℕ → List ℕ
no_index kind = codes "no index '" ++ word_shown kind ++ codes "'"

-- the front of what a sentence says of a rule that a type lacks
abbrev pub without : List ℕ → List ℕ
without name = codes " of '" ++ word_shown name ++ codes "': the type has no "

-- a type that has no rule of this keyword
abbrev pub of_type : List ℕ → RuleKeyword → List ℕ
of_type name keyword = without name ++ keyword_word keyword

-- a kind for which the type of a name has no rule of this keyword
abbrev pub no_rule : List ℕ → List ℕ → RuleKeyword → List ℕ
no_rule name kind keyword = no_index kind ++ of_type name keyword

-- the same, or else what these other words say
abbrev pub no_rule_or : List ℕ → List ℕ → Option RuleKeyword → List ℕ → List ℕ
no_rule_or name kind None others = others
no_rule_or name kind (Some keyword) others = no_rule name kind keyword

-- the first of these kinds whose rule the type lacks
abbrev pub first_no_rule : SchemaModel → ℕ → List ℕ → List (List ℕ) → List ℕ
first_no_rule s t name [] = lacks_some name
first_no_rule s t name (kind ∷ kinds) = no_rule_or name kind (lacks s t kind) (first_no_rule s t name kinds)

-- what a sentence says of the kinds of a type, if the schema has the type
abbrev pub no_rule_of : SchemaModel → Option ℕ → List ℕ → List ℕ → List ℕ
no_rule_of s None name kinds = lacks_some name
no_rule_of s (Some t) name kinds = first_no_rule s t name (slice_split (nat_eq 32) kinds)

-- what is behind a line's colon and a space
abbrev pub kinds_at : List ℕ → Option ℕ → List ℕ
kinds_at line None = []
kinds_at line (Some colon) = drop (colon + 2) line

-- the kinds that a line asks for
abbrev pub kinds_in : List ℕ → List ℕ
kinds_in line = kinds_at line (position (λ octet. nat_eq octet 58) line)

-- what a sentence says of a line that is refused so
abbrev pub index_line : SchemaModel → IndexRefusal → List ℕ → List ℕ
index_line s refusal.BadDescription line = bad_line line
index_line s refusal.UnknownName line = codes "no attribute type '" ++ word_shown (front_of line) ++ codes
    "' in the schema"
index_line s refusal.NoRule line = no_rule_of s (find s (front_of line)) (front_of line) (kinds_in line)

-- what it says of the line of this number, counted from 1
abbrev pub index_sentence : SchemaModel → List ℕ → IndexRefusal → ℕ → List ℕ
index_sentence s text why number = index_line s why (line_of text (number - 1))
