-- The contents that spell a request (RFC 4511 4.2 to 4.12 and Appendix B). Each part is a relation of a value, the
-- octets where it begins, and the octets that follow it.
use Rattle.std.specs.Prelude.{◌≡◌, ℤ, [], ◌^◌, ℕ, Bool, List}
use Rattle.ldap_filter.specs.ldap_ber.Values.{IsInteger}
use Rattle.ldap_filter.specs.ldap_ber.Fields.{HasField, Seq, HasText, HasNumber, HasInteger, HasFlag, HasPart, HasOctetsOrNone}
use Rattle.ldap_filter.specs.ldap_ber.Rows.{AreTexts, AreElements}
use Rattle.ldap_filter.specs.Tree.{Tree}
use Rattle.ldap_filter.specs.Grammar.{HasFilter}
use Rattle.ldap_requests.specs.Values.{SearchRequestValue, SaslCredentialsValue, AuthenticationValue, simple, sasl, BindRequestValue, AssertionValue, CompareRequestValue, ExtendedRequestValue}
use Rattle.ldap_requests.specs.declared.search.Scope.{Scope}
use Rattle.ldap_requests.specs.declared.search.Scope.TheVariants.{BaseObject, SingleLevel, WholeSubtree, SubordinateSubtree}
use Rattle.ldap_requests.specs.declared.search.DerefAliases.{DerefAliases}
use Rattle.ldap_requests.specs.declared.search.DerefAliases.TheVariants.{NeverDerefAliases, DerefInSearching, DerefFindingBaseObj, DerefAlways}

-- scope: baseObject (0), singleLevel (1), wholeSubtree (2) (RFC 4511 4.5.1), subordinateSubtree (3)
abbrev pub scope_number : Scope → ℕ
scope_number BaseObject = 0
scope_number SingleLevel = 1
scope_number WholeSubtree = 2
scope_number SubordinateSubtree = 3

-- derefAliases: neverDerefAliases (0) to derefAlways (3) (RFC 4511 4.5.1)
abbrev pub deref_number : DerefAliases → ℕ
deref_number NeverDerefAliases = 0
deref_number DerefInSearching = 1
deref_number DerefFindingBaseObj = 2
deref_number DerefAlways = 3

-- baseObject LDAPDN, scope ENUMERATED, derefAliases ENUMERATED
abbrev pub IsTarget : List ℕ → Scope → DerefAliases → List ℕ → List ℕ → Type 0
IsTarget base scope deref octets rest =
    Seq (HasText octets 4 base) (λ octets. Seq (HasNumber octets 10 4 (scope_number scope))
    (λ octets. HasNumber octets 10 4 (deref_number deref) rest))

-- sizeLimit INTEGER (0 .. maxInt), timeLimit INTEGER (0 .. maxInt), typesOnly BOOLEAN
abbrev pub IsBounds : ℕ → ℕ → Bool → List ℕ → List ℕ → Type 0
IsBounds size time types_only octets rest =
    Seq (HasNumber octets 2 (2 ^ 31) size) (λ octets. Seq (HasNumber octets 2 (2 ^ 31) time)
    (λ octets. HasFlag octets 1 types_only rest))

-- filter Filter, attributes AttributeSelection, and elements that are ignored
abbrev pub IsQuestion : Tree → List (List ℕ) → List ℕ → Type 0
IsQuestion filter attributes octets = Seq (HasFilter filter octets)
    (λ octets. Seq (HasPart (AreTexts attributes) octets 48) AreElements)

-- SearchRequest ::= [APPLICATION 3] SEQUENCE (RFC 4511 4.5.1)
abbrev pub IsSearchRequest : SearchRequestValue → List ℕ → Type 0
IsSearchRequest s content =
    Seq (IsTarget s.base s.scope s.deref_aliases content)
    (λ octets. Seq (IsBounds s.size_limit s.time_limit s.types_only octets) (IsQuestion s.filter s.attributes))

-- SaslCredentials ::= SEQUENCE { mechanism LDAPString, credentials OCTET STRING OPTIONAL } (RFC 4511 4.2)
abbrev pub IsSaslCredentials : SaslCredentialsValue → List ℕ → Type 0
IsSaslCredentials s content = Seq (HasText content 4 s.mechanism)
    (λ octets. Seq (HasOctetsOrNone octets 4 s.credentials) AreElements)

-- AuthenticationChoice ::= CHOICE { simple [0] OCTET STRING, sasl [3] SaslCredentials } (RFC 4511 4.2)
abbrev pub HasAuthentication : AuthenticationValue → List ℕ → List ℕ → Type 0
HasAuthentication (simple password) octets rest = HasField octets 128 password rest
HasAuthentication (sasl s) octets rest = HasPart (IsSaslCredentials s) octets 163 rest

-- BindRequest ::= [APPLICATION 0] SEQUENCE { version INTEGER, name LDAPDN, authentication AuthenticationChoice } (RFC
-- 4511 4.2); a version is any integer here, so that another than 3 can be answered
abbrev pub IsBindRequest : BindRequestValue → List ℕ → Type 0
IsBindRequest b content =
    Seq (HasInteger content 2 b.version) (λ octets. Seq (HasText octets 4 b.name)
    (λ octets. Seq (HasAuthentication b.authentication octets) AreElements))

-- UnbindRequest ::= [APPLICATION 2] NULL (RFC 4511 4.3; X.690 8.8: no octets)
abbrev pub IsUnbindRequest : List ℕ → Type 0
IsUnbindRequest content = content ≡ []

-- AttributeValueAssertion ::= SEQUENCE { attributeDesc AttributeDescription, assertionValue AssertionValue } (RFC 4511
-- 4.1.6)
abbrev pub IsAva : AssertionValue → List ℕ → Type 0
IsAva a content = Seq (HasText content 4 a.attribute_desc) (λ octets. Seq (HasField octets 4 a.assertion_value)
    AreElements)

-- CompareRequest ::= [APPLICATION 14] SEQUENCE { entry LDAPDN, ava AttributeValueAssertion } (RFC 4511 4.10)
abbrev pub IsCompareRequest : CompareRequestValue → List ℕ → Type 0
IsCompareRequest k content = Seq (HasText content 4 k.entry) (λ octets. Seq (HasPart (IsAva k.ava) octets 48)
    AreElements)

-- AbandonRequest ::= [APPLICATION 16] MessageID (RFC 4511 4.11); any integer of at most eight octets here, since it
-- asks for nothing
abbrev pub IsAbandonRequest : ℤ → List ℕ → Type 0
IsAbandonRequest z content = IsInteger content z

-- ExtendedRequest ::= [APPLICATION 23] SEQUENCE { requestName [0] LDAPOID, requestValue [1] OCTET STRING OPTIONAL }
-- (RFC 4511 4.12)
abbrev pub IsExtendedRequest : ExtendedRequestValue → List ℕ → Type 0
IsExtendedRequest r content = Seq (HasText content 128 r.request_name)
    (λ octets. Seq (HasOctetsOrNone octets 129 r.request_value) AreElements)
