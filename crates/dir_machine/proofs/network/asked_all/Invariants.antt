use Rattle.dir_machine.proofs.Asked.{AskedSoFar}
use Rattle.dir_machine.proofs.network.asked_all.Given as goal

-- those before are made events, and the others are left
abbrev pub invariant-loop-one : goal.invariant-loop-one
invariant-loop-one l = AskedSoFar l.cluster l.shown l.replica l.fn.given.items l.one-iterator.rest.items l.events.items
