use Rattle.std.proofs.Common.{◌≡◌, ◌≤◌, ◌-◌, length}
use Rattle.journal.specs.Device.{LeavesOnly, Only}
use Rattle.journal.specs.Frames.{recorded}
use Rattle.journal.specs.Reading.{HasRead}
use Rattle.log_journal.specs.Views.{told_view}
use Rattle.log_journal.proofs.Finding.{IsTelling}
use Rattle.log_journal.proofs.opening.tell_all.Given as goal

-- what is told goes on from here, and the device is as it was
abbrev pub invariant-strings : goal.invariant-strings
invariant-strings g l = record {
  telling : IsTelling (g.J.Device.seen l.fn.device) l.reader.end (told_view l.told);
  read : HasRead l.reader (g.J.Device.seen l.device);
  seen : g.J.Device.seen l.device ≡ g.J.Device.seen l.fn.device;
  durable : Only (g.J.Device.seen l.device) (g.J.Device.may_leave l.device);
  moments : LeavesOnly g.J.Device.moment g.J.Device.left_since l.fn.device l.device (λ c. recorded c ≡
      recorded (g.J.Device.seen l.fn.device));
  later : g.J.Device.failure_count l.fn.device ≤ g.J.Device.failure_count l.device;
}

-- the octets behind the end get fewer
abbrev pub decreases-strings : goal.decreases-strings
decreases-strings g l = length (g.J.Device.seen l.device) - l.reader.end
