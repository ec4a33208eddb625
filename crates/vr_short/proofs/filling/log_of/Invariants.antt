use Rattle.std.proofs.Common.{◌≡◌, take}
use Rattle.vr_short.proofs.filling.log_of.Given as goal

-- so far the copies are those of a beginning
abbrev pub invariant-loop-entry : goal.invariant-loop-entry
invariant-loop-entry g l = l.entries.items ≡ take l.entry-index l.records
