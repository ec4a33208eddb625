-- An item on one attribute: what contracts that aren't public say of it.
-- What public contracts say is in specs/Item.
use Rattle.std.specs.Prelude.{ℕ, List, Option}
use Rattle.ldap_dn.specs.ldap_syntax.Meaning.{Meaning}
use Rattle.ldap_dn.specs.ldap_words.declared.rule.Rule.{Rule}
use Rattle.ldap_dn.specs.ldap_schema.Schema.{SchemaModel}
use Rattle.ldap_match.specs.declared.truth.Truth.{Truth}
use Rattle.ldap_match.specs.Item.{is_meant, answered}

-- ---- an item on an attribute

-- an equality item: whether a value means what the assertion means (RFC 4511 4.5.1.7.1)
abbrev pub satisfied : SchemaModel → Rule → Option Meaning → List (List ℕ) → Truth
satisfied s r m values = answered is_meant s r m values
