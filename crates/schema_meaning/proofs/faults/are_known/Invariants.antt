use Rattle.std.proofs.Common.{◌≡◌, map, drop}
use Rattle.schema_meaning.specs.Faults.{are_known}
use Rattle.schema_meaning.proofs.faults.are_known.Given as goal

abbrev pub invariant-loop-word : goal.invariant-loop-word
invariant-loop-word l = are_known l.descriptions (map (λ v. v.items) (drop l.word-index l.words)) ≡
    are_known l.descriptions (map (λ v. v.items) l.words)
