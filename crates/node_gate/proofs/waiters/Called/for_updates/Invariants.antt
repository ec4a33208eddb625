use Rattle.std.proofs.Common.{◌≡◌, false, replicate, drop}
use Rattle.node_gate.specs.private.Waking.{called}
use Rattle.node_gate.proofs.waiters.Called.for_updates.Given as goal

-- with those of the updates that are left, the groups are those of all
abbrev pub invariant-loop-update : goal.invariant-loop-update
invariant-loop-update l = called l.groups (drop l.update-index l.updates) ≡ called (replicate 16 false) l.updates
