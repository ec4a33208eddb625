-- What search doesn't prove of `new`: the invariant, step by step.
use Rattle.std.proofs.Common.{[]}
use Rattle.shared_map.proofs.cursor.Cursor.new.Goals as goal

pub invariant_of-result : goal.invariant_of-result
invariant_of-result g c = record {
  rising = c.rises.ensures;
  part =
      record { before = []; after = c.first_run-run.ensures.rest; is = c.first_run-run.ensures.is };
}
