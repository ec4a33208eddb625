-- What is wrong with the descriptions of a text: RFC 4512 4.1.
use Rattle.std.specs.Prelude.{ℕ, ◌+◌, List, [], ◌∷◌, Bool, true, not, cond, ◌||◌, ◌&&◌, Option, None, Some, is_some}
use Rattle.std.specs.List.{list_all}
use Rattle.schema_text.specs.Descriptions.{DescriptionModel, first_text_at, texts_at}
use Rattle.schema_text.specs.Texts.{SchemaTextModel}
use Rattle.schema_text.specs.ldap_words.RulesByName.{equality_family, ordering_family, substrings_family, syntax_of}
use Rattle.schema_meaning.specs.Naming.{superior_text, superior_texts, find, is_repeated}
use Rattle.schema_meaning.specs.Inheriting.{is_unfit}
pub use Rattle.schema_text.specs.ldap_words.NameOrder.{lower as earlier, lower_than as earlier_of}

-- a description of a type is bad together with the others
abbrev pub is_bad_type : SchemaTextModel → ℕ → DescriptionModel → Bool
is_bad_type s t d = is_repeated s.types s.classes d || is_unfit s.types t

-- the line of the first type, from this number on, that a test of number and description finds
abbrev pub first_of_types : (ℕ → DescriptionModel → Bool) → ℕ → List DescriptionModel → Option ℕ
first_of_types test t [] = None
first_of_types test t (d ∷ ds) = cond (test t d) (Some d.line) (first_of_types test (t + 1) ds)

-- the line of the first description that a test finds
abbrev pub first_of_all : (DescriptionModel → Bool) → List DescriptionModel → Option ℕ
first_of_all test [] = None
first_of_all test (d ∷ ds) = cond (test d) (Some d.line) (first_of_all test ds)

-- The first line that is no description, or one that is bad together with the others.
abbrev pub bad_line : SchemaTextModel → Option ℕ
bad_line s =
    earlier s.bad
    (earlier (first_of_types (is_bad_type s) 0 s.types) (first_of_all (is_repeated s.types s.classes) s.classes))

-- whether a word that a field has names something; a field that is left out names nothing unknown
abbrev pub is_known_by : {A : Type 0} → (List ℕ → Option A) → Option (List ℕ) → Bool
is_known_by f None = true
is_known_by f (Some w) = is_some (f w)

-- all that a description of a type names is known
abbrev pub names_known_type : List DescriptionModel → DescriptionModel → Bool
names_known_type types d =
    is_known_by (find types) (superior_text d)
    && is_known_by equality_family (first_text_at 5 d.fields)
    && is_known_by ordering_family (first_text_at 6 d.fields)
    && is_known_by substrings_family (first_text_at 7 d.fields)
    && is_known_by syntax_of (first_text_at 8 d.fields)

-- whether each word calls one of the descriptions
abbrev pub are_known : List DescriptionModel → List (List ℕ) → Bool
are_known ds ws = list_all (λ w. is_some (find ds w)) ws

-- all that a description of a class names is known
abbrev pub names_known_class : SchemaTextModel → DescriptionModel → Bool
names_known_class s d =
    are_known s.classes (superior_texts d) && are_known s.types (texts_at 12 d.fields)
    && are_known s.types (texts_at 13 d.fields)

-- The first line that names a rule, a syntax, a type or a class that is not known.
abbrev pub unknown_line : SchemaTextModel → Option ℕ
unknown_line s =
    earlier (first_of_all (λ d. not (names_known_type s.types d)) s.types)
    (first_of_all (λ d. not (names_known_class s d)) s.classes)
