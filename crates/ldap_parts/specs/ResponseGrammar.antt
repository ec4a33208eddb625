-- The contents that spell a response (RFC 4511 4.5.2, 4.12).
use Rattle.std.specs.Prelude.{ℕ, List}
use Rattle.ldap_ber.specs.Fields.{Seq, HasText, HasPart, HasTextOrNone, HasOctetsOrNone}
use Rattle.ldap_ber.specs.Rows.{AreRow, AreElements}
use Rattle.ldap_parts.specs.ResponseValues.{SearchResultEntryValue, ExtendedResponseValue}
use Rattle.ldap_parts.specs.Grammar.{HasPartialAttribute, HasLdapResult}

-- SearchResultEntry ::= [APPLICATION 4] SEQUENCE { objectName LDAPDN, attributes PartialAttributeList } (RFC 4511
-- 4.5.2)
abbrev pub IsSearchResultEntry : SearchResultEntryValue → List ℕ → Type 0
IsSearchResultEntry e content = Seq (HasText content 4 e.object_name)
    (λ octets. Seq (HasPart (AreRow HasPartialAttribute e.attributes) octets 48) AreElements)

-- ExtendedResponse ::= [APPLICATION 24] SEQUENCE { COMPONENTS OF LDAPResult, responseName [10] LDAPOID OPTIONAL,
-- responseValue [11] OCTET STRING OPTIONAL } (RFC 4511 4.12)
abbrev pub IsExtendedResponse : ExtendedResponseValue → List ℕ → Type 0
IsExtendedResponse r content =
    Seq (HasLdapResult r.result content) (λ octets. Seq (HasTextOrNone octets 138 r.response_name)
    (λ octets. Seq (HasOctetsOrNone octets 139 r.response_value) AreElements))
