use Rattle.std.proofs.Common.{◌≡◌, take}
use Rattle.log_journal.proofs.copying.copy_changes.Given as goal

-- so far the copies are those of a beginning
abbrev pub invariant-loop-change : goal.invariant-loop-change
invariant-loop-change l = l.copied.items ≡ take l.change-index l.changes
