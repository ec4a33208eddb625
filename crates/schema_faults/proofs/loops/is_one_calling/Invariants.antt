use Rattle.std.proofs.Common.{◌≡◌, drop, map}
use Rattle.std.specs.List.{list_any}
use Rattle.schema_faults.specs.Loops.{is_calling}
use Rattle.schema_faults.proofs.loops.is_one_calling.Given as goal

abbrev pub invariant-loop-word : goal.invariant-loop-word
invariant-loop-word l =
    list_any (is_calling l.classes l.class) (map (λ v. v.items) (drop l.word-index l.words)) ≡
    list_any (is_calling l.classes l.class) (map (λ v. v.items) l.words)
