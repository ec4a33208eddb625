-- The EQUALITY rule of a type: RFC 4512 4.1.2.
use Rattle.std.specs.Prelude.{ℕ, Option, None, Some, slice_get}
use Rattle.ldap_words.specs.declared.rule.Rule.{Rule}
use Rattle.ldap_schema.specs.Schema.{SchemaModel, TypeModel}

-- the EQUALITY rule of a type, where there is one
abbrev pub equality_in : Option TypeModel → Option Rule
equality_in None = None
equality_in (Some t) = t.equality

-- the EQUALITY rule in effect for a type; none, where the type lacks it
abbrev pub equality_of : SchemaModel → ℕ → Option Rule
equality_of s t = equality_in (slice_get s.types t)
