-- The one content that is written, and which values can be (RFC 4511 5.1).
use Rattle.std.specs.Prelude.{◌^◌, ◌<◌, ℕ, List, ◌++◌}
use Rattle.std.specs.Str.{IsUtf8}
use Rattle.std.specs.List.{AllByRecursion}
use Rattle.ldap_filter.specs.ldap_ber.Element.{element_bytes}
use Rattle.ldap_filter.specs.ldap_ber.Values.{integer_octets, IsLong}
use Rattle.ldap_filter.specs.ldap_ber.Rows.{row_bytes}
use Rattle.ldap_filter.specs.Grammar.{filter_bytes, HasTexts}
use Rattle.ldap_requests.specs.Values.{SearchRequestValue, SaslCredentialsValue, AuthenticationValue, simple, sasl, BindRequestValue, AssertionValue, CompareRequestValue, ExtendedRequestValue}
use Rattle.ldap_requests.specs.Grammar.{scope_number, deref_number}
use Rattle.ldap_filter.specs.ldap_ber.Written.{number_bytes, flag_octets, optional_bytes}

-- baseObject, scope, derefAliases
abbrev pub target_bytes : SearchRequestValue → List ℕ
target_bytes s = element_bytes 4 s.base ++ number_bytes 10 (scope_number s.scope) ++ number_bytes 10
    (deref_number s.deref_aliases)

-- sizeLimit, timeLimit, typesOnly
abbrev pub bounds_bytes : SearchRequestValue → List ℕ
bounds_bytes s = number_bytes 2 s.size_limit ++ number_bytes 2 s.time_limit ++ element_bytes 1
    (flag_octets s.types_only)

-- the content of a search request
abbrev pub search_content : SearchRequestValue → List ℕ
search_content s = target_bytes s ++ bounds_bytes s ++ filter_bytes s.filter ++ element_bytes 48
    (row_bytes (element_bytes 4) s.attributes)

-- texts are UTF-8, and numbers at most 2147483647
pub record IsSearchInRange (s : SearchRequestValue) : Type 0 where
  pub base : IsUtf8 s.base
  pub size_limit : s.size_limit < 2 ^ 31
  pub time_limit : s.time_limit < 2 ^ 31
  pub filter : HasTexts s.filter
  pub attributes : AllByRecursion IsUtf8 s.attributes

-- the content of SASL credentials
abbrev pub sasl_content : SaslCredentialsValue → List ℕ
sasl_content s = element_bytes 4 s.mechanism ++ optional_bytes 4 s.credentials

-- an authentication
abbrev pub authentication_bytes : AuthenticationValue → List ℕ
authentication_bytes (simple password) = element_bytes 128 password
authentication_bytes (sasl s) = element_bytes 163 (sasl_content s)

-- the content of a bind
abbrev pub bind_content : BindRequestValue → List ℕ
bind_content b = element_bytes 2 (integer_octets b.version) ++ element_bytes 4 b.name ++ authentication_bytes
    b.authentication

-- the mechanism is UTF-8
abbrev pub IsAuthenticationInRange : AuthenticationValue → Type 0
IsAuthenticationInRange (simple password) = Unit {0}
IsAuthenticationInRange (sasl s) = IsUtf8 s.mechanism

-- texts are UTF-8, and the version is an integer of 64 bits
pub record IsBindInRange (b : BindRequestValue) : Type 0 where
  pub version : IsLong b.version
  pub name : IsUtf8 b.name
  pub authentication : IsAuthenticationInRange b.authentication

-- the content of an assertion
abbrev pub ava_content : AssertionValue → List ℕ
ava_content a = element_bytes 4 a.attribute_desc ++ element_bytes 4 a.assertion_value

-- the content of a compare
abbrev pub compare_content : CompareRequestValue → List ℕ
compare_content k = element_bytes 4 k.entry ++ element_bytes 48 (ava_content k.ava)

-- the content of an extended request
abbrev pub extended_request_content : ExtendedRequestValue → List ℕ
extended_request_content r = element_bytes 128 r.request_name ++ optional_bytes 129 r.request_value

-- texts are UTF-8
abbrev pub IsCompareInRange : CompareRequestValue → Type 0
IsCompareInRange k = IsUtf8 k.entry × IsUtf8 k.ava.attribute_desc

-- the name is UTF-8
abbrev pub IsExtendedRequestInRange : ExtendedRequestValue → Type 0
IsExtendedRequestInRange r = IsUtf8 r.request_name
