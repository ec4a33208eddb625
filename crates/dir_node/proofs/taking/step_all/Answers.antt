-- What search doesn't prove of `step_all`: the clause `taken`, step by step.
use Rattle.std.proofs.Common.{◌≡◌, List, [], Result, refl, sym, subst, arith}
use Rattle.std.proofs.lemmas.List.{nil_from_length, append-nil}
use Rattle.std.specs.declared.alloc.AllocError.{AllocError}
use Rattle.state_machine.specs.dir_store.ldap_op.Values.{OpValue}
use Rattle.vr_state.specs.Views.{state}
use Rattle.vr_state.specs.declared.event.Event.{Event}
use Rattle.vr_state.specs.declared.message.Outputs.{Outputs}
use Rattle.dir_node.specs.Handling.{MakesSteps}
use Rattle.dir_node.proofs.taking.step_all.Goals as goal

pub returns-clause-taken : goal.returns-clause-taken
returns-clause-taken c =
    let r = c.args.replica.now in
    let q = c.loop-event.replica in
    let nothing : c.loop-event.event-iterator.rest.items ≡ [] = nil_from_length c.loop-event.event-iterator.rest.items
    (omega (arith, c.in-None.ensures.steps.0)) in
    subst (λ (l : List (Result (Outputs OpValue) AllocError)). MakesSteps r.count r.index (state r)
    c.args.events.items l (state q)) (append-nil c.loop-event.all.items)
    (c.loop-event.invariant.3 [] (state q)
    (subst (λ (l : List (Event OpValue)). MakesSteps r.count r.index (state q) l [] (state q)) (sym nothing) refl))
