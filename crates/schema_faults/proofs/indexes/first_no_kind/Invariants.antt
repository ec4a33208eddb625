use Rattle.std.proofs.Common.{◌≡◌, drop, map}
use Rattle.schema_faults.specs.Indexes.{first_no_kind}
use Rattle.schema_faults.proofs.indexes.first_no_kind.Given as goal

abbrev pub invariant-loop-word : goal.invariant-loop-word
invariant-loop-word l =
    first_no_kind (map (λ x. x.now) (drop l.word-index l.words)) ≡ first_no_kind (map (λ x. x.now) l.words)
