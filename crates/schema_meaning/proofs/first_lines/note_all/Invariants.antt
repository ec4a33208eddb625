use Rattle.std.proofs.Common.{ℕ, List, ◌≡◌, drop}
use Rattle.std.specs.Str.{bytes_eq}
use Rattle.schema_meaning.specs.Naming.{names_of}
use Rattle.schema_meaning.specs.private.Octets.{number_at, has_folded}
use Rattle.schema_meaning.specs.private.FirstLines.{first_line}
use Rattle.schema_meaning.proofs.first_lines.note_all.Given as goal

abbrev pub invariant-loop-description : goal.invariant-loop-description
invariant-loop-description l = record {
  names : (q : List ℕ) → first_line (λ d. has_folded q (names_of d)) (drop l.description-index l.descriptions)
      (number_at l.by_name.entries q) ≡ first_line (λ d. has_folded q (names_of d)) l.descriptions
      (number_at l.initial.by_name.entries q);
  oids : (q : List ℕ) → first_line (λ d. bytes_eq q d.oid) (drop l.description-index l.descriptions)
      (number_at l.by_oid.entries q) ≡ first_line (λ d. bytes_eq q d.oid) l.descriptions
      (number_at l.initial.by_oid.entries q);
}
