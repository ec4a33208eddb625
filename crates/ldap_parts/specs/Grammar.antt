-- The octets that spell what several operations share (RFC 4511 4.1). Each part is a relation of a value, the octets
-- where it begins, and the octets that follow it.
use Rattle.std.specs.Prelude.{◌^◌, ℕ, List}
use Rattle.ldap_ber.specs.Fields.{Seq, HasText, HasNumber, HasPart, HasFlagOrFalse, HasOctetsOrNone}
use Rattle.ldap_ber.specs.Rows.{AreValues, AreElements, HasRowOrNone}
use Rattle.ldap_parts.specs.Values.{PartialAttributeValue, LdapResultValue, ControlValue}

-- PartialAttribute ::= SEQUENCE { type AttributeDescription, vals SET OF AttributeValue } (RFC 4511 4.1.7)
abbrev pub IsPartialAttribute : PartialAttributeValue → List ℕ → Type 0
IsPartialAttribute a content = Seq (HasText content 4 a.description)
    (λ octets. Seq (HasPart (AreValues a.values) octets 49) AreElements)

-- a partial attribute in its list
abbrev pub HasPartialAttribute : PartialAttributeValue → List ℕ → List ℕ → Type 0
HasPartialAttribute a octets rest = HasPart (IsPartialAttribute a) octets 48 rest

-- resultCode ENUMERATED, matchedDN LDAPDN, diagnosticMessage LDAPString
abbrev pub IsOutcome : ℕ → List ℕ → List ℕ → List ℕ → List ℕ → Type 0
IsOutcome code matched_dn diagnostic_message octets rest =
    Seq (HasNumber octets 10 (2 ^ 31) code) (λ octets. Seq (HasText octets 4 matched_dn)
    (λ octets. HasText octets 4 diagnostic_message rest))

-- LDAPResult ::= SEQUENCE { .. referral [3] Referral OPTIONAL } (RFC 4511 4.1.9), up to what follows it
abbrev pub HasLdapResult : LdapResultValue → List ℕ → List ℕ → Type 0
HasLdapResult r octets rest =
    Seq (IsOutcome r.code r.matched_dn r.diagnostic_message octets)
    (λ octets. HasRowOrNone (λ t octets rest. HasText octets 4 t rest) octets 163 r.referral rest)

-- A response that is an LDAPResult, and elements after it that are ignored: to a bind (whose serverSaslCreds are
-- ignored), a search, a modify, an add, a delete, a modifyDN or a compare (RFC 4511 4.2.2, 4.5.2, 4.6 to 4.10)
abbrev pub IsLdapResult : LdapResultValue → List ℕ → Type 0
IsLdapResult r content = Seq (HasLdapResult r content) AreElements

-- Control ::= SEQUENCE { controlType LDAPOID, criticality BOOLEAN DEFAULT FALSE, controlValue OCTET STRING OPTIONAL }
-- (RFC 4511 4.1.11)
abbrev pub IsControl : ControlValue → List ℕ → Type 0
IsControl c content =
    Seq (HasText content 4 c.control_type) (λ octets. Seq (HasFlagOrFalse octets 1 c.criticality)
    (λ octets. Seq (HasOctetsOrNone octets 4 c.value) AreElements))

-- a control in its list
abbrev pub HasControl : ControlValue → List ℕ → List ℕ → Type 0
HasControl c octets rest = HasPart (IsControl c) octets 48 rest

-- controls [0] Controls OPTIONAL (RFC 4511 4.1.1), and elements that are ignored
abbrev pub AreControls : List ControlValue → List ℕ → Type 0
AreControls controls octets = Seq (HasRowOrNone HasControl octets 160 controls) AreElements
