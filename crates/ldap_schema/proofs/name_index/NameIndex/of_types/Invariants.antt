use Rattle.std.proofs.Common.{ℕ, List, ◌≡◌, drop}
use Rattle.std.specs.List.{position_from}
use Rattle.std.specs.Str.{bytes_eq}
use Rattle.ldap_schema.specs.private.NameOrder.{number_at, has_name}
use Rattle.ldap_schema.proofs.Indexed.{or_else}
use Rattle.ldap_schema.proofs.name_index.NameIndex.of_types.Given as goal

abbrev pub invariant-loop-number : goal.invariant-loop-number
invariant-loop-number l = record {
  names : (q : List ℕ) → or_else (number_at l.index.names q) (position_from (λ x. has_name q x.names) l.number
      (drop l.number l.types)) ≡ position_from (λ x. has_name q x.names) 0 l.types;
  oids : (q : List ℕ) → or_else (number_at l.index.oids q) (position_from (λ x. bytes_eq q x.oid) l.number
      (drop l.number l.types)) ≡ position_from (λ x. bytes_eq q x.oid) 0 l.types;
}
