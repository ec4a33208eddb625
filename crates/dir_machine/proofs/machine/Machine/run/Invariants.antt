use Rattle.dir_machine.proofs.Played.{IsPlayedSoFar}
use Rattle.dir_machine.proofs.machine.Machine.run.Given as goal

-- the events before are played, and the others are left
abbrev pub invariant-loop-event : goal.invariant-loop-event
invariant-loop-event l = IsPlayedSoFar l.self l.fn.schedule.items l.event-iterator.rest.items l.run
