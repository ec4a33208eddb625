-- What a value that is no name means where a schema is known: an object identifier may be the name of a type or of a
-- class. RFC 4517 3.3.26 and 4.2.26.
use Rattle.std.specs.Prelude.{ℕ, List, cond, Option, None, Some, option_map, slice_get}
use Rattle.std.specs.Option.{option_and_then}
use Rattle.ldap_schema.specs.ldap_words.Identifiers.{is_numericoid}
use Rattle.ldap_syntax.specs.Meaning as syntax
use Rattle.ldap_syntax.specs.Meaning.{Meaning, identifier}
use Rattle.ldap_schema.specs.ldap_words.declared.rule.Family.{Family}
use Rattle.ldap_schema.specs.ldap_words.declared.rule.Family.TheVariants as family
use Rattle.ldap_schema.specs.ldap_words.declared.rule.Rule.{Rule}
use Rattle.ldap_schema.specs.Schema.{SchemaModel, find, class_named}

-- the object identifier of the type of a number, or else of the class of a name
abbrev pub type_or_class_oid : SchemaModel → List ℕ → Option ℕ → Option (List ℕ)
type_or_class_oid s name None = option_and_then (λ c. option_map (λ d. d.oid) (slice_get s.classes c))
    (class_named s name)
type_or_class_oid s name (Some t) = option_map (λ d. d.oid) (slice_get s.types t)

-- the object identifier that a name of a type, or else of a class, stands for
abbrev pub named_oid : SchemaModel → List ℕ → Option (List ℕ)
named_oid s name = type_or_class_oid s name (find s name)

-- a value as an object identifier in dotted form: it is one, or a name that stands for one (RFC 4517 3.3.26)
abbrev pub dotted : SchemaModel → List ℕ → Option (List ℕ)
dotted s v = cond (is_numericoid v) (Some v) (named_oid s v)

-- the meaning of an object identifier in dotted form (RFC 4517 4.2.26)
abbrev pub identified : Option (List ℕ) → Option Meaning
identified None = None
identified (Some oid) = Some (identifier oid)

-- What a value means under a rule; nothing, where it is a name or isn't in the rule's syntax (RFC 4517 3.3, 4.2).
abbrev pub meaning_by : SchemaModel → Rule → Family → List ℕ → Option Meaning
meaning_by s r family.Identifier v = identified (dotted s v)
meaning_by s r f v = syntax.meaning r v

-- what a value means under a rule, by the rule's family
abbrev pub meaning : SchemaModel → Rule → List ℕ → Option Meaning
meaning s r v = meaning_by s r r.family v
