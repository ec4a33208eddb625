-- What a value means where a schema is known, names too: RFC 4517 3.3.9, 3.3.26, 4.2.
use Rattle.std.specs.Prelude.{ℕ, List, map, cond, Option, None, option_map}
use Rattle.std.specs.Str.{is_utf8}
use Rattle.ldap_dn.specs.ldap_syntax.Meaning.{Meaning, name}
use Rattle.ldap_dn.specs.ldap_words.declared.rule.Family.{Family}
use Rattle.ldap_dn.specs.ldap_words.declared.rule.Family.TheVariants as family
use Rattle.ldap_dn.specs.ldap_words.declared.rule.Rule.{Rule}
use Rattle.ldap_dn.specs.ldap_schema.Schema.{SchemaModel}
use Rattle.ldap_dn.specs.Meaning as plain
use Rattle.ldap_dn.specs.Names.{TypeAndKey, RdnModel, rdns}
use Rattle.ldap_dn.specs.Texts.{name_of_text}

-- the name that a value spells; none, where it is no name's text or no UTF-8 (RFC 4517 3.3.9)
abbrev pub name_of : SchemaModel → List ℕ → Option (List RdnModel)
name_of s v = cond (is_utf8 v) (name_of_text s v) None

-- a type with its key, as a meaning has them
abbrev pub pair_of : TypeAndKey → ℕ × List ℕ
pair_of k = (k.kind, k.key)

-- what a name means, whatever its spelling: its relative names as sets, root first (RFC 4517 4.2.15)
abbrev pub name_meaning : List RdnModel → Meaning
name_meaning n = name (map (map pair_of) (rdns n))

-- What a value means under a rule; nothing, where it isn't in the rule's syntax (RFC 4517 3.3, 4.2).
abbrev pub meaning_by : SchemaModel → Rule → Family → List ℕ → Option Meaning
meaning_by s r family.Name v = option_map name_meaning (name_of s v)
meaning_by s r f v = plain.meaning_by s r f v

-- what a value means under a rule, by the rule's family
abbrev pub meaning : SchemaModel → Rule → List ℕ → Option Meaning
meaning s r v = meaning_by s r r.family v
