use Rattle.std.proofs.Common.{◌≡◌, drop, is_none, map, slice_get}
use Rattle.std.specs.List.{filter}
use Rattle.schema_meaning.specs.Naming.{find}
use Rattle.schema_faults.proofs.unknown.first_uncalled.Given as goal

abbrev pub invariant-loop-word : goal.invariant-loop-word
invariant-loop-word l =
    slice_get (filter (λ word. is_none (find l.called word)) (map (λ v. v.items) (drop l.word-index l.words))) 0
    ≡ slice_get (filter (λ word. is_none (find l.called word)) (map (λ v. v.items) l.words)) 0
