use Rattle.std.proofs.Common.{◌≡◌, ℕ, List, [], is_some, drop, map, take}
use Rattle.schema_meaning.specs.private.Octets.{number_at, has_folded}
use Rattle.schema_faults.specs.Repeats.{again}
use Rattle.schema_faults.proofs.repeats.again.Given as goal

abbrev pub invariant-loop-name : goal.invariant-loop-name
invariant-loop-name l = record {
  seen : (q : List ℕ) → is_some (number_at l.seen.entries q) ≡ has_folded q
      (map (λ v. v.items) (take l.name-index l.names));
  again : again (map (λ v. v.items) (take l.name-index l.names)) (map (λ v. v.items) (drop l.name-index l.names)) ≡
      again [] (map (λ v. v.items) l.names);
}
