-- What search doesn't prove of `send_given`: the clause `taken`, step by step.
use Rattle.std.proofs.Common.{Result, subst, sym}
use Rattle.std.specs.declared.alloc.AllocError.{AllocError}
use Rattle.dir_node.specs.dir_store.ldap_op.Values.{OpValue}
use Rattle.dir_node.specs.vr_state.declared.message.Outputs.{Outputs}
use Rattle.node_gate.specs.Batches.{sends_in}
use Rattle.node_gate.specs.Sent.{TakesAll, none}
use Rattle.node_gate.proofs.driving.send_given.Goals as goal

pub returns-in-Err-clause-taken : goal.returns-in-Err-clause-taken
returns-in-Err-clause-taken g c = subst (λ (x : Result (Outputs OpValue) AllocError). TakesAll g.P.Peers.takes
    c.args.peers.now (sends_in x) c.args.peers.now) (sym c.in-Err.is) none
