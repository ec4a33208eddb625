-- A request without where it lies in memory (RFC 4511 4.2 to 4.12); a text is its octets.
use Rattle.std.specs.Prelude.{ℕ, ℤ, List, Bool, Option}
use Rattle.ldap_filter.specs.Tree.{Tree}
use Rattle.ldap_requests.specs.declared.search.Scope.{Scope}
use Rattle.ldap_requests.specs.declared.search.DerefAliases.{DerefAliases}

-- SearchRequest (RFC 4511 4.5.1)
pub record SearchRequestValue : Type 0 where
  pub base : List ℕ
  pub scope : Scope
  pub deref_aliases : DerefAliases
  pub size_limit : ℕ
  pub time_limit : ℕ
  pub types_only : Bool
  pub filter : Tree
  pub attributes : List (List ℕ)

-- SaslCredentials (RFC 4511 4.2)
pub record SaslCredentialsValue : Type 0 where
  pub mechanism : List ℕ
  pub credentials : Option (List ℕ)

-- AuthenticationChoice (RFC 4511 4.2): a password, or SASL credentials
pub data AuthenticationValue : Type 0 where
  simple : List ℕ → AuthenticationValue
  sasl : SaslCredentialsValue → AuthenticationValue

-- BindRequest (RFC 4511 4.2)
pub record BindRequestValue : Type 0 where
  pub version : ℤ
  pub name : List ℕ
  pub authentication : AuthenticationValue

-- AttributeValueAssertion (RFC 4511 4.1.6)
pub record AssertionValue : Type 0 where
  pub attribute_desc : List ℕ
  pub assertion_value : List ℕ

-- CompareRequest (RFC 4511 4.10)
pub record CompareRequestValue : Type 0 where
  pub entry : List ℕ
  pub ava : AssertionValue

-- ExtendedRequest (RFC 4511 4.12)
pub record ExtendedRequestValue : Type 0 where
  pub request_name : List ℕ
  pub request_value : Option (List ℕ)
