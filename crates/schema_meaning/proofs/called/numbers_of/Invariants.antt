use Rattle.std.proofs.Common.{ℕ, List, ◌≡◌, drop}
use Rattle.std.specs.List.{position_from}
use Rattle.std.specs.Str.{bytes_eq}
use Rattle.schema_meaning.specs.private.Octets.{number_at, has_folded}
use Rattle.schema_meaning.specs.Naming.{names_of}
use Rattle.schema_meaning.proofs.Kept.{or_else}
use Rattle.schema_meaning.proofs.called.numbers_of.Given as goal

abbrev pub invariant-loop-number : goal.invariant-loop-number
invariant-loop-number l = record {
  names : (q : List ℕ) → or_else (number_at l.by_name.entries q) (position_from (λ d. has_folded q (names_of d))
      l.number (drop l.number l.descriptions)) ≡ position_from (λ d. has_folded q (names_of d)) 0 l.descriptions;
  oids : (q : List ℕ) → or_else (number_at l.by_oid.entries q) (position_from (λ d. bytes_eq q d.oid) l.number
      (drop l.number l.descriptions)) ≡ position_from (λ d. bytes_eq q d.oid) 0 l.descriptions;
}
