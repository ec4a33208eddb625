use Rattle.std.proofs.Common.{◌≡◌, ◌≤◌, ◌-◌, List, ℕ}
use Rattle.journal.specs.Device.{LeavesOnly}
use Rattle.journal.specs.Frames.{recorded}
use Rattle.journal.specs.private.Journal.{Cleared}
use Rattle.journal.proofs.zeroing.clear_rest.Given as goal

-- so many zeros are written, and behind the header each crash leaves whatever there may be
abbrev pub invariant-loop-done : goal.invariant-loop-done
invariant-loop-done g l = record {
  written : Cleared (recorded (g.D.Device.seen l.fn.device)) l.end l.done l.room (g.D.Device.seen l.device);
  left : (c : List ℕ) → g.D.Device.may_leave l.device c → Cleared (recorded (g.D.Device.seen l.fn.device)) l.end
      l.header l.room c;
  moments : LeavesOnly g.D.Device.moment g.D.Device.left_since l.fn.device l.device (λ c. recorded c ≡
      recorded (g.D.Device.seen l.fn.device));
  later : g.D.Device.failure_count l.fn.device ≤ g.D.Device.failure_count l.device;
  most : l.done ≤ l.room;
  least : l.header ≤ l.done;
}

abbrev pub decreases-loop-done : goal.decreases-loop-done
decreases-loop-done g l = l.room - l.done
