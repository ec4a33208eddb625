-- Keys where a schema is known, but for names.
use Rattle.std.specs.Prelude.{ℕ, List, Option}
use Rattle.ldap_syntax.specs.Keys as syntax
use Rattle.ldap_schema.specs.ldap_words.declared.rule.Family.{Family}
use Rattle.ldap_schema.specs.ldap_words.declared.rule.Family.TheVariants as family
use Rattle.ldap_schema.specs.ldap_words.declared.rule.Rule.{Rule}
use Rattle.ldap_schema.specs.Schema.{SchemaModel}
use Rattle.ldap_dn.specs.Meaning.{dotted}

-- the key by the rule's family: an identifier's is its dotted form, others are made without a schema
abbrev pub key_by : SchemaModel → Rule → Family → List ℕ → Option (List ℕ)
key_by s r family.Identifier v = dotted s v
key_by s r f v = syntax.key_at r v

-- a value's key under a rule; none, where it is a name or isn't in the syntax
abbrev pub key_at : SchemaModel → Rule → List ℕ → Option (List ℕ)
key_at s r v = key_by s r r.family v
