use Rattle.std.proofs.Common.{◌≡◌, ◌≤◌, nat_le, slice_index}
use Rattle.vr_state.specs.Outcome.{count, others}
use Rattle.vr_normal.proofs.acknowledgements.acknowledging.Given as goal

-- so far those below this one are counted
abbrev pub invariant-loop-other : goal.invariant-loop-other
invariant-loop-other l = record {
  counted : l.found ≡ count (λ k. nat_le l.least (slice_index l.acknowledged k)) (others l.other l.index);
  few : l.found ≤ l.other;
}
