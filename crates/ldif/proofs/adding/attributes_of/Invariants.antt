-- LDIF and messages: what the loop of `attributes_of` keeps.
use Rattle.std.proofs.Common.{◌≡◌, ℕ, List, [], map, take}
use Rattle.std.specs.List.{position_from}
use Rattle.ldap_msg.specs.View.{attribute_view}
use Rattle.ldif.specs.Adds.{firsts, attributes_of}
use Rattle.ldif.specs.private.Adding.{number_at, has_type}
use Rattle.ldif.proofs.adding.attributes_of.Given as goal

abbrev pub invariant-loop-value : goal.invariant-loop-value
invariant-loop-value l = record {
  attributes : map attribute_view l.attributes.items ≡ attributes_of (take l.value-index l.values);
  indexes : (q : List ℕ) → number_at l.indexes.entries q ≡ position_from (has_type q) 0
      (firsts [] (take l.value-index l.values));
}
