-- The types and classes that descriptions stand for: RFC 4512 4.1.
use Rattle.std.specs.Prelude.{ℕ, ◌+◌, List, [], ◌∷◌, map, cond, Option, None, Some}
use Rattle.std.specs.Str.{is_utf8}
use Rattle.schema_meaning.specs.ldap_words.declared.rule.Family.{Family}
use Rattle.schema_meaning.specs.ldap_words.declared.rule.Rule.{Rule}
use Rattle.schema_meaning.specs.ldap_words.declared.rule.Syntax.{Syntax}
use Rattle.schema_meaning.specs.ldap_words.declared.rule.Syntax.TheVariants.{OctetString}
use Rattle.schema_meaning.specs.schema_text.declared.keyword.Keyword.{Keyword}
use Rattle.schema_meaning.specs.schema_text.declared.keyword.Keyword.TheVariants as keyword
use Rattle.schema_meaning.specs.schema_text.Descriptions.{FieldModel, DescriptionModel, texts_at, has_field_at}
use Rattle.schema_meaning.specs.schema_text.Texts.{SchemaTextModel}
use Rattle.schema_meaning.specs.Naming.{names_of, superior_texts, superior_of, find}
use Rattle.schema_meaning.specs.Inheriting.{effect_of}
use Rattle.schema_meaning.specs.declared.inheriting.Effect.{Effect}
use Rattle.schema_meaning.specs.declared.inheriting.Given.{Given}
use Rattle.schema_meaning.specs.declared.inheriting.Given.TheVariants.{Missing, Unknown, Known}
use Rattle.ldap_schema.specs.Schema.{TypeModel, ClassModel, SchemaModel}
use Rattle.ldap_schema.specs.declared.class.ClassKind.{ClassKind}
use Rattle.ldap_schema.specs.declared.class.ClassKind.TheVariants.{Abstract, Structural, Auxiliary}

-- octets as text; names and object identifiers are of ASCII, so this is what they are
abbrev pub as_text : List ℕ → List ℕ
as_text octets = cond (is_utf8 octets) octets []

-- the syntax in effect; where there is none that is known, the text is refused
abbrev pub known_syntax : Given → Syntax
known_syntax Missing = OctetString
known_syntax Unknown = OctetString
known_syntax (Known s) = s

-- the rule of a family on the syntax in effect
abbrev pub rule_on : Given → Option Family → Option Rule
rule_on g None = None
rule_on g (Some f) = Some (record { family = f; syntax = known_syntax g })

-- the type of a description, with what is in effect for it, own or inherited (RFC 4512 4.1.2)
abbrev pub type_with : List DescriptionModel → DescriptionModel → Effect → TypeModel
type_with types d e = record {
  oid = as_text d.oid;
  names = map as_text (names_of d);
  superior = superior_of types d;
  syntax = known_syntax e.syntax;
  equality = rule_on e.syntax e.equality;
  ordering = rule_on e.syntax e.ordering;
  substrings = rule_on e.syntax e.substrings;
  is_single_value = has_field_at 9 d.fields;
}

-- the types of descriptions, from this number on
abbrev pub types_from : List DescriptionModel → ℕ → List DescriptionModel → List TypeModel
types_from types t [] = []
types_from types t (d ∷ ds) = type_with types d (effect_of types t) ∷ types_from types (t + 1) ds

-- the number of a description that a word calls, before those of the words behind it
abbrev pub with_number : Option ℕ → List ℕ → List ℕ
with_number None ns = ns
with_number (Some n) ns = n ∷ ns

-- the numbers of the descriptions that words call
abbrev pub numbers_of : List DescriptionModel → List (List ℕ) → List ℕ
numbers_of ds [] = []
numbers_of ds (w ∷ ws) = with_number (find ds w) (numbers_of ds ws)

-- the kind that a field gives a class; another field leaves it to those behind it (RFC 4512 4.1.1)
abbrev pub kind_by : Keyword → ClassKind → ClassKind
kind_by keyword.Abstract k = Abstract
kind_by keyword.Structural k = Structural
kind_by keyword.Auxiliary k = Auxiliary
kind_by keyword.Name k = k
kind_by keyword.Desc k = k
kind_by keyword.Obsolete k = k
kind_by keyword.Sup k = k
kind_by keyword.Equality k = k
kind_by keyword.Ordering k = k
kind_by keyword.Substr k = k
kind_by keyword.Syntax k = k
kind_by keyword.SingleValue k = k
kind_by keyword.Usage k = k
kind_by keyword.Must k = k
kind_by keyword.May k = k
kind_by keyword.Extension k = k

-- the kind of a class: STRUCTURAL where none is given (RFC 4512 4.1.1)
abbrev pub kind_of : List FieldModel → ClassKind
kind_of [] = Structural
kind_of (f ∷ fs) = kind_by f.keyword (kind_of fs)

-- the class of a description: its SUP, MUST and MAY by number
abbrev pub class_of : SchemaTextModel → DescriptionModel → ClassModel
class_of s d = record {
  oid = as_text d.oid;
  names = map as_text (names_of d);
  superiors = numbers_of s.classes (superior_texts d);
  kind = kind_of d.fields;
  required = numbers_of s.types (texts_at 12 d.fields);
  allowed = numbers_of s.types (texts_at 13 d.fields);
}

-- The schema of a text's descriptions.
abbrev pub schema_of : SchemaTextModel → SchemaModel
schema_of s = record { types = types_from s.types 0 s.types; classes = map (class_of s) s.classes }
