use Rattle.std.proofs.Common.{◌≡◌, ◌++◌, ◌≤◌, [], false, drop, map}
use Rattle.std.specs.List.{slice_range}
use Rattle.text_faults.proofs.Cutting.{cut_from}
use Rattle.text_faults.proofs.names.parts.Given as goal

abbrev pub invariant-loop-index : goal.invariant-loop-index
invariant-loop-index l = record {
  start : l.start ≤ l.index;
  parts : map (λ x. x.now) l.parts.items ++ cut_from (slice_range l.text l.start l.index) l.is_escaped l.mark
      (drop l.index l.text) ≡ cut_from [] false l.mark l.text;
}
