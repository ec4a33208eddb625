use Rattle.std.proofs.Common.{◌≡◌, ◌++◌, drop}
use Rattle.node_gate.proofs.running.copies.Given as goal

abbrev pub invariant-loop-send : goal.invariant-loop-send
invariant-loop-send l = l.copied.items ++ drop l.send-index l.sends ≡ l.sends
