use Rattle.std.proofs.Common.{◌≡◌, ◌+◌, ◌≤◌, ◌∷◌, Result, Ok, Err, arith, subst, sym, ap, List, [], length}
use Rattle.std.proofs.lemmas.List.{nil_from_length}
use Rattle.std.specs.declared.alloc.AllocError.{AllocError}
use Rattle.dir_node.specs.dir_store.ldap_op.Values.{OpValue}
use Rattle.dir_node.specs.vr_state.declared.message.Outputs.{Outputs}
use Rattle.node_gate.specs.Batches.{left_out, left_out_in, sends_of}
use Rattle.node_gate.specs.Sent.{TakesAll, none}
use Rattle.node_gate.proofs.Sent.{takes_joined}
use Rattle.node_gate.proofs.driving.send_each.Goals as goal

-- an event is left out once at most
once : (x : Result (Outputs OpValue) AllocError) → left_out_in x ≤ 1
once (Ok o) = omega arith
once (Err e) = omega arith

pub loop-given-preserved : goal.loop-given-preserved
loop-given-preserved g c =
    let first = c.in-Some.given in
    let is = c.in-Some.ensures.steps.0 in (
      λ after t.
          c.loop-given.invariant.0 after (subst (λ (l : List (Result (Outputs OpValue) AllocError)). TakesAll
          g.P.Peers.takes c.loop-given.peers (sends_of l) after) (sym is)
          (takes_joined g.P.Peers.takes c.send_given-left_out.ensures.taken t)),
      omega (arith, c.loop-given.invariant.1, ap left_out is, c.send_given-left_out.ensures.left_out),
      omega (arith, c.loop-given.invariant.2, ap length is, c.send_given-left_out.ensures.left_out, once first),
    )

pub returns-clause-taken : goal.returns-clause-taken
returns-clause-taken g c =
    let nothing : c.loop-given.given-iterator.rest.items ≡ [] = nil_from_length c.loop-given.given-iterator.rest.items
    (omega (arith, c.in-None.ensures.steps.0)) in
    c.loop-given.invariant.0 c.loop-given.peers (subst (λ (l : List (Result (Outputs OpValue) AllocError)). TakesAll
    g.P.Peers.takes c.loop-given.peers (sends_of l) c.loop-given.peers) (sym nothing) none)

pub returns-clause-left_out : goal.returns-clause-left_out
returns-clause-left_out g c =
    let nothing : c.loop-given.given-iterator.rest.items ≡ [] = nil_from_length c.loop-given.given-iterator.rest.items
    (omega (arith, c.in-None.ensures.steps.0)) in
    omega (arith, c.loop-given.invariant.1, ap left_out nothing)

-- no more are left out than there were
pub overflow_add-left_out : goal.overflow_add-left_out
overflow_add-left_out g c =
    let first = c.in-Some.given in
    let is = c.in-Some.ensures.steps.0 in
    omega (
      arith,
      c.args.outputs.ok.0,
      c.args.outputs.ok.1,
      c.args.outputs.small,
      c.loop-given.invariant.2,
      ap length is,
      c.send_given-left_out.ensures.left_out,
      once first,
    )
