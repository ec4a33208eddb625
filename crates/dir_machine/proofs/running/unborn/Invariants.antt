use Rattle.dir_machine.specs.private.Running.{AreNew}
use Rattle.dir_machine.proofs.running.unborn.Given as goal

-- so far so many were never up
abbrev pub invariant-loop : goal.invariant-loop
invariant-loop l = AreNew l.counter l.processes.items
