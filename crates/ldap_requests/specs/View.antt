-- The value that a request in memory stands for.
use Rattle.std.specs.Prelude.{map, string_bytes}
use Rattle.std.specs.Option.{option_map}
use Rattle.ldap_filter.specs.View.{view as filter_view}
use Rattle.ldap_requests.specs.Values.{SearchRequestValue, SaslCredentialsValue, AuthenticationValue, simple, sasl, BindRequestValue, AssertionValue, CompareRequestValue, ExtendedRequestValue}
use Rattle.ldap_requests.specs.declared.search.SearchRequest.{SearchRequest}
use Rattle.ldap_requests.specs.declared.bind.SaslCredentials.{SaslCredentials}
use Rattle.ldap_requests.specs.declared.bind.AuthenticationChoice.{AuthenticationChoice}
use Rattle.ldap_requests.specs.declared.bind.AuthenticationChoice.TheVariants.{Simple, Sasl}
use Rattle.ldap_requests.specs.declared.bind.BindRequest.{BindRequest}
use Rattle.ldap_requests.specs.declared.compare.AttributeValueAssertion.{AttributeValueAssertion}
use Rattle.ldap_requests.specs.declared.compare.CompareRequest.{CompareRequest}
use Rattle.ldap_requests.specs.declared.extended.ExtendedRequest.{ExtendedRequest}

-- the value of a search request
abbrev pub search_view : SearchRequest → SearchRequestValue
search_view s = record {
  base = string_bytes s.base;
  scope = s.scope;
  deref_aliases = s.deref_aliases;
  size_limit = s.size_limit;
  time_limit = s.time_limit;
  types_only = s.types_only;
  filter = filter_view s.filter;
  attributes = map string_bytes s.attributes.items;
}

-- the value of SASL credentials
abbrev pub sasl_view : SaslCredentials → SaslCredentialsValue
sasl_view s = record { mechanism = string_bytes s.mechanism; credentials = option_map (λ v. v.items) s.credentials }

-- the value of an authentication
abbrev pub authentication_view : AuthenticationChoice → AuthenticationValue
authentication_view (Simple password) = simple password.items
authentication_view (Sasl s) = sasl (sasl_view s)

-- the value of a bind
abbrev pub bind_view : BindRequest → BindRequestValue
bind_view b = record {
  version = b.version;
  name = string_bytes b.name;
  authentication = authentication_view
      b.authentication;
}

-- the value of an assertion
abbrev pub ava_view : AttributeValueAssertion → AssertionValue
ava_view a = record { attribute_desc = string_bytes a.attribute_desc; assertion_value = a.assertion_value.items }

-- the value of a compare
abbrev pub compare_view : CompareRequest → CompareRequestValue
compare_view k = record { entry = string_bytes k.entry; ava = ava_view k.ava }

-- the value of an extended request
abbrev pub extended_request_view : ExtendedRequest → ExtendedRequestValue
extended_request_view r = record {
  request_name = string_bytes r.request_name;
  request_value =
      option_map (λ v. v.items) r.request_value;
}
