-- A schema's text and its schema, or the first thing that is wrong with it: RFC 4512 4.1.
use Rattle.std.specs.Prelude.{ℕ, List, length, Bool, true, false, cond, not, Option, None, Some, is_some, Result, Ok, Err, nat_eq, slice_get, codes, ◌≡◌}
use Rattle.std.specs.List.{list_any, position_from}
use Rattle.schema_meaning.specs.ldap_words.declared.rule.Family.{Family}
use Rattle.schema_meaning.specs.ldap_words.declared.rule.Family.TheVariants as family
use Rattle.schema_meaning.specs.ldap_words.declared.rule.Syntax.{Syntax}
use Rattle.schema_meaning.specs.ldap_words.declared.rule.Syntax.TheVariants as syntax
use Rattle.schema_meaning.specs.ldap_words.declared.rule.Rule.{Rule}
use Rattle.schema_meaning.specs.schema_text.Texts.{SchemaTextModel, read_text}
use Rattle.schema_meaning.specs.Faults.{first_of_types, earlier, bad_line, unknown_line}
use Rattle.ldap_schema.specs.Schema.{TypeModel, ClassModel, SchemaModel, is_called, class_named, superiors}
use Rattle.ldap_schema.specs.Superclasses.{is_among, direct_superclasses, filled}
use Rattle.schema_reader.specs.Described.{schema_of}
use Rattle.schema_reader.specs.declared.error.SchemaError.{SchemaError}
use Rattle.schema_reader.specs.declared.error.SchemaError.TheVariants.{BadDescription, UnknownName, LoopInSup, NoEquality, NoMemory}

-- objectIdentifierMatch on its syntax
abbrev pub is_identifier_on : Syntax → Family → Bool
is_identifier_on syntax.ObjectIdentifier family.Identifier = true
is_identifier_on s f = false

-- whether there is a rule, and it is objectIdentifierMatch on its syntax
abbrev pub is_identifier_rule : Option Rule → Bool
is_identifier_rule None = false
is_identifier_rule (Some r) = is_identifier_on r.syntax r.family

-- whether there is a type, and its EQUALITY is objectIdentifierMatch
abbrev pub has_identifier_rule : Option TypeModel → Bool
has_identifier_rule None = false
has_identifier_rule (Some t) = is_identifier_rule t.equality

-- the type of a number, where its EQUALITY is objectIdentifierMatch
abbrev pub object_class_found : List TypeModel → Option ℕ → Option ℕ
object_class_found types None = None
object_class_found types (Some t) = cond (has_identifier_rule (slice_get types t)) (Some t) None

-- the type objectClass, if it is there with objectIdentifierMatch (RFC 4512 3.3)
abbrev pub object_class_in : List TypeModel → Option ℕ
object_class_in types = object_class_found types (position_from (λ t. is_called (codes "objectClass") t.oid t.names) 0
    types)

-- the type objectClass, if it is there so and the class top is there too (RFC 4512 2.4.1)
abbrev pub required_in : SchemaModel → Option ℕ
required_in s = cond (is_some (class_named s (codes "top"))) (object_class_in s.types) None

-- this line, unless there is a type
abbrev pub line_unless : ℕ → Option ℕ → Option ℕ
line_unless n None = Some n
line_unless n (Some t) = None

-- the line behind the last one, where one of the two is not there
abbrev pub missing_line : ℕ → SchemaModel → Option ℕ
missing_line behind s = line_unless behind (required_in s)

-- the SUP of a type leads back to it
abbrev pub is_type_looping : List TypeModel → ℕ → Bool
is_type_looping types t = list_any (λ u. nat_eq u t) (superiors (length types) types t)

-- the superclasses of a class lead back to it
abbrev pub is_class_looping : List ClassModel → ℕ → Bool
is_class_looping classes c = is_among (filled classes (direct_superclasses classes c)) c

-- The first line of a type or a class whose SUP leads back to it.
abbrev pub loop_line : SchemaTextModel → SchemaModel → Option ℕ
loop_line text s =
    earlier (first_of_types (λ t d. is_type_looping s.types t) 0 text.types)
    (first_of_types (λ c d. is_class_looping s.classes c) 0 text.classes)

-- whether there is a type, and it has no EQUALITY rule
abbrev pub has_no_equality : Option TypeModel → Bool
has_no_equality None = false
has_no_equality (Some t) = not (is_some t.equality)

-- The first line of a type without an EQUALITY rule, own or inherited.
abbrev pub no_equality_line : SchemaTextModel → SchemaModel → Option ℕ
no_equality_line text s = first_of_types (λ t d. has_no_equality (slice_get s.types t)) 0 text.types

-- a fault of this kind at a line, or else what is wrong by the other checks
abbrev pub refused_at : Option ℕ → (ℕ → SchemaError) → Option SchemaError → Option SchemaError
refused_at None fault rest = rest
refused_at (Some line) fault rest = Some (fault line)

-- a loop, else a type without EQUALITY
abbrev pub loop_fault : SchemaTextModel → SchemaModel → Option SchemaError
loop_fault text s =
    refused_at (loop_line text s) LoopInSup (refused_at (no_equality_line text s) NoEquality None)

-- the first line that names what is not known, or the line behind the last one
abbrev pub unknown_of : SchemaTextModel → SchemaModel → Option ℕ
unknown_of text s = earlier (unknown_line text) (missing_line text.behind s)

-- The first thing that is wrong: a line that is no description or bad together with others, else one that names what is
-- not known, else one with a loop, else one without EQUALITY.
abbrev pub fault_of : SchemaTextModel → SchemaModel → Option SchemaError
fault_of text s =
    refused_at (bad_line text) BadDescription (refused_at (unknown_of text s) UnknownName (loop_fault text s))

-- the schema, unless something is wrong
abbrev pub unless_refused : SchemaModel → Option SchemaError → Result SchemaModel SchemaError
unless_refused s None = Ok s
unless_refused s (Some e) = Err e

-- the schema of a text's descriptions, or the first thing that is wrong with them
abbrev pub schema_of_lines : SchemaTextModel → Result SchemaModel SchemaError
schema_of_lines text = unless_refused (schema_of text) (fault_of text (schema_of text))

-- The schema of a text, or the first thing that is wrong with it and its line.
abbrev pub schema_of_text : List ℕ → Result SchemaModel SchemaError
schema_of_text text = schema_of_lines (read_text text)

-- a refusal is the definition's; want of memory is no refusal
abbrev pub IsRefusalOf : {A : Type 0} → Result A SchemaError → SchemaError → Type 0
IsRefusalOf r (BadDescription line) = r ≡ Err (BadDescription line)
IsRefusalOf r (UnknownName line) = r ≡ Err (UnknownName line)
IsRefusalOf r (LoopInSup line) = r ≡ Err (LoopInSup line)
IsRefusalOf r (NoEquality line) = r ≡ Err (NoEquality line)
IsRefusalOf r NoMemory = Unit {0}
