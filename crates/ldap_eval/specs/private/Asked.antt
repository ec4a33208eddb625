-- The item that the code asks.
use Rattle.ldap_filter.specs.Item.{SubstringsValue}
use Rattle.ldap_filter.specs.ItemView.{substrings_view}
use Rattle.dir_entry.specs.ldap_match.Item.{Item, present, equal, at_least, at_most, substrings}
use Rattle.ldap_eval.specs.Value.{parts_of}
use Rattle.ldap_eval.specs.declared.asking.Asked.{Asked}
use Rattle.ldap_eval.specs.declared.asking.Asked.TheVariants.{Presence, Equality, AtLeast, AtMost, Substrings}

-- what is asked of an attribute, as clauses see it
abbrev pub item_of : Asked → Item
item_of Presence = present
item_of (Equality a) = equal a.now
item_of (AtLeast a) = at_least a.now
item_of (AtMost a) = at_most a.now
item_of (Substrings s) = substrings (parts_of (substrings_view s.now))
