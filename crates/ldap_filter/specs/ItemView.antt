-- The values that the structs of items stand for.
use Rattle.std.specs.Prelude.{map, string_bytes}
use Rattle.std.specs.Option.{option_map}
use Rattle.ldap_filter.specs.Item.{SubstringsValue, ExtensibleValue}
use Rattle.ldap_filter.specs.declared.item.SubstringFilter.{SubstringFilter}
use Rattle.ldap_filter.specs.declared.item.MatchingRuleAssertion.{MatchingRuleAssertion}

-- a SubstringFilter as clauses see it
abbrev pub substrings_view : SubstringFilter → SubstringsValue
substrings_view s = record {
  description = string_bytes s.description;
  initial = option_map (λ v. v.items) s.initial;
  any = map (λ v. v.items) s.any.items;
  last = option_map (λ v. v.items) s.last;
}

-- a MatchingRuleAssertion as clauses see it
abbrev pub extensible_view : MatchingRuleAssertion → ExtensibleValue
extensible_view a = record {
  matching_rule = option_map string_bytes a.matching_rule;
  description =
      option_map string_bytes a.description;
  match_value = a.match_value.items;
  dn_attributes = a.dn_attributes;
}
