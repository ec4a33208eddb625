use Rattle.std.proofs.Common.{take}
use Rattle.journal.specs.Journal.{octets_of}
use Rattle.log_journal.specs.Told.{Tells, nothing_told}
use Rattle.log_journal.specs.Views.{told_view}
use Rattle.log_journal.proofs.telling.tell.Given as goal

abbrev pub invariant-loop-string : goal.invariant-loop-string
invariant-loop-string l = Tells nothing_told (octets_of (take l.string-index l.strings)) (told_view l.told)
