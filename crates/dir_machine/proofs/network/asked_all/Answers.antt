-- What search doesn't prove of `asked_all`: `loop-one-preserved` and what it returns, by lemmas of `Asked`.
use Rattle.std.proofs.Common.{List, Option, sym, subst}
use Rattle.state_machine.specs.dir_store.ldap_op.Values.{OpValue}
use Rattle.vr_state.specs.declared.event.Event.{Event}
use Rattle.dir_machine.proofs.Asked.{AskedSoFar, one_asked, one_is_absent}
use Rattle.dir_machine.specs.declared.events.Given.{Given}
use Rattle.dir_machine.specs.private.Givens.{IsAskedOr}
use Rattle.dir_machine.proofs.network.asked_all.Goals as goal

pub loop-one-preserved : goal.loop-one-preserved
loop-one-preserved c =
    subst (λ (l : List (Event OpValue)). AskedSoFar c.args.cluster c.args.shown.now c.args.replica c.args.given.items
    c.next.new.self.rest.items l) (sym c.in_ok-push-in-Some-2.ensures.items)
    (one_asked c.args.cluster c.args.shown.now c.args.replica c.args.given.items c.next.new.self.rest.items
    c.in-Some.one
    c.loop-one.events.items c.in-Some-2.event
    (subst (λ (l : List Given). AskedSoFar c.args.cluster c.args.shown.now c.args.replica c.args.given.items l
    c.loop-one.events.items) c.in-Some.ensures.steps.0 c.loop-one.invariant)
    (subst (λ (o : Option (Event OpValue)). IsAskedOr c.args.cluster c.args.shown.now c.args.replica c.in-Some.one o)
    c.in-Some-2.is c.in_ok-event.ensures))

pub returns-in-None-2 : goal.returns-in-None-2
returns-in-None-2 c =
    one_is_absent c.args.cluster c.args.shown.now c.args.replica c.args.given.items c.next.new.self.rest.items
    c.in-Some.one
    c.loop-one.events.items
    (subst (λ (l : List Given). AskedSoFar c.args.cluster c.args.shown.now c.args.replica c.args.given.items l
    c.loop-one.events.items) c.in-Some.ensures.steps.0 c.loop-one.invariant)
    (subst (λ (o : Option (Event OpValue)). IsAskedOr c.args.cluster c.args.shown.now c.args.replica c.in-Some.one o)
    c.in-None-2.is c.in_ok-event.ensures)
