-- What is wrong with a description among the others of a schema (RFC 4512 4.1): the descriptions come in, a sentence
-- goes out.
use Rattle.std.specs.Prelude.{◌++◌, ℕ, List, cond, codes, is_none, slice_get, Option, None, Some}
use Rattle.std.specs.List.{filter}
use Rattle.ldap_match.specs.ldap_schema.Schema.{first_name_of}
use Rattle.schema_meaning.specs.Naming.{names_of, find}
use Rattle.schema_meaning.specs.schema_text.Descriptions.{DescriptionModel, texts_at, first_text_at}
use Rattle.schema_meaning.specs.schema_text.Texts.{SchemaTextModel}
use Rattle.schema_meaning.specs.ldap_words.RulesByName.{equality_family, ordering_family, substrings_family, syntax_of}
use Rattle.text_faults.specs.Words.{word_shown}

-- the first name of a description, or its object identifier
abbrev pub title : DescriptionModel → List ℕ
title d = word_shown (first_name_of d.oid (names_of d))

-- something of a kind that is not there, which a description names behind a keyword
abbrev pub no_such : List ℕ → List ℕ → List ℕ
no_such kind word = codes "no " ++ kind ++ codes " '" ++ word_shown word ++ codes "'"

-- where a description names it
abbrev pub named_in : DescriptionModel → List ℕ → List ℕ
named_in d keyword = codes " (in " ++ keyword ++ codes " of '" ++ title d ++ codes "')"

-- something that isn't there, and where a description names it
abbrev pub missing : DescriptionModel → List ℕ → List ℕ → List ℕ → List ℕ
missing d kind word keyword = no_such kind word ++ named_in d keyword

-- the same of the first such word, or else what these other words say
abbrev pub missing_or : DescriptionModel → List ℕ → List ℕ → Option (List ℕ) → List ℕ → List ℕ
missing_or d kind keyword None others = others
missing_or d kind keyword (Some word) others = missing d kind word keyword

-- the first word in a place of the grammar's order that calls none of these
abbrev pub uncalled : List DescriptionModel → DescriptionModel → ℕ → Option (List ℕ)
uncalled ds d place = slice_get (filter (λ word. is_none (find ds word)) (texts_at place d.fields)) 0

-- a word that names no rule, or no syntax
abbrev pub unless : {A : Type 0} → List ℕ → Option A → Option (List ℕ)
unless word None = Some word
unless word (Some a) = None

-- a field's word that names no rule, or no syntax; none, where the field is left out
abbrev pub unnamed : {A : Type 0} → (List ℕ → Option A) → Option (List ℕ) → Option (List ℕ)
unnamed named None = None
unnamed named (Some word) = unless word (named word)

-- the rules that a type names, and its syntax: the first that there isn't
abbrev pub unknown_rule : DescriptionModel → List ℕ
unknown_rule d =
    missing_or d (codes "equality rule") (codes "EQUALITY") (unnamed equality_family (first_text_at 5 d.fields))
    (missing_or d (codes "ordering rule") (codes "ORDERING") (unnamed ordering_family (first_text_at 6 d.fields))
    (missing_or d (codes "substrings rule") (codes "SUBSTR") (unnamed substrings_family (first_text_at 7 d.fields))
    (missing_or d (codes "syntax") (codes "SYNTAX") (unnamed syntax_of (first_text_at 8 d.fields))
    (codes "a rule, a syntax or a type that is not there"))))

-- what a type names that is not there: its superior comes first
abbrev pub unknown_of_type : SchemaTextModel → DescriptionModel → List ℕ
unknown_of_type s d = missing_or d (codes "attribute type") (codes "SUP") (uncalled s.types d 4) (unknown_rule d)

-- what a class names that is not there: in SUP, in MUST, in MAY
abbrev pub unknown_of_class : SchemaTextModel → DescriptionModel → List ℕ
unknown_of_class s d =
    missing_or d (codes "object class") (codes "SUP") (uncalled s.classes d 4)
    (missing_or d (codes "attribute type") (codes "MUST") (uncalled s.types d 12)
    (missing_or d (codes "attribute type") (codes "MAY") (uncalled s.types d 13)
    (codes "a class or a type that is not there")))

-- what each schema has, and this one lacks (RFC 4512 3.3, 4.2)
abbrev pub unknown_at_end : SchemaTextModel → List ℕ
unknown_at_end s =
    cond (is_none (find s.types (codes "objectClass"))) (codes "the text ends without the attribute type 'objectClass'")
    (cond (is_none (find s.classes (codes "top"))) (codes "the text ends without the object class 'top'")
    (codes "the attribute type 'objectClass' is not of EQUALITY objectIdentifierMatch and its syntax"))
