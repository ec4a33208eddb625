use Rattle.std.proofs.Common.{take}
use Rattle.vr_wire.specs.Payloads.{AreEntriesOf}
use Rattle.vr_wire.proofs.payloads.entries_of.Given as goal

abbrev pub invariant-loop-entry : goal.invariant-loop-entry
invariant-loop-entry l = AreEntriesOf l.read.items (take l.entry-index l.entries)
