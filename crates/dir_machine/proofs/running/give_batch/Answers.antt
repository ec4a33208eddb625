-- What search doesn't prove of `give_batch`: what it returns, by lemmas of `Asked` and `Played`.
use Rattle.std.proofs.Common.{List, Option, Some, Vec, refl, sym, ap, ◌∙◌, subst, arith, inl}
use Rattle.std.proofs.lemmas.Option.{slice_get-get_or}
use Rattle.std.specs.Global.{Global}
use Rattle.state_machine.specs.dir_store.ldap_op.Values.{OpValue}
use Rattle.vr_state.specs.declared.event.Event.{Event}
use Rattle.dir_machine.proofs.Asked.{on_ok}
use Rattle.dir_machine.proofs.Played.{away_on, batch_on, one_missing_on}
use Rattle.dir_machine.specs.declared.events.MachineEvent.TheVariants as kinds
use Rattle.dir_machine.specs.declared.process.Process.{Process}
use Rattle.dir_machine.specs.declared.replies.MachineReply.{MachineReply}
use Rattle.dir_machine.specs.private.Givens.{AreAsked, AreAskedOr, IsOneAbsent}
use Rattle.dir_machine.proofs.running.give_batch.Goals as goal

pub returns-then-machine-replica : goal.returns-then-machine-replica
returns-then-machine-replica c =
    on_ok c.show_nothing.result (λ shown. away_on c.args.machine.now c.args.run.now c.show_nothing.new.run
    c.args.replica c.if-machine-replica.true shown (kinds.GiveAll c.args.replica c.args.given)
    (λ w. (refl, inl (inl c.if-machine-replica.true)))) c.show_nothing.ensures

pub returns-in-None : goal.returns-in-None
returns-in-None c =
    on_ok c.show_nothing-in-None.result (λ shown. one_missing_on c.args.machine.now c.args.run.now
    c.show_nothing-in-None.new.run c.laws.ensures.frames c.args.replica c.args.given
    (subst (λ (l : List MachineReply). IsOneAbsent c.args.machine.now.cluster l c.args.replica c.args.given.items)
    c.as_slice.ensures.value
    (subst (λ (o : Option (Vec (Event OpValue) Global)). AreAskedOr c.args.machine.now.cluster c.as_slice.result.now
    c.args.replica
    c.args.given.items o) c.in-None.is c.in_ok-asked_all.ensures)) shown) c.show_nothing-in-None.ensures

pub returns-in_ok-push-in-Some : goal.returns-in_ok-push-in-Some
returns-in_ok-push-in-Some c = batch_on c.laws.ensures c.args.machine.now c.args.run.now _ c.args.replica c.args.given
    c.in-Some.events.items c.replace-before.result c.in_ok-after-in-Some.after c.in_ok-after-in-Some.reply
    (record {
      hole = c.replace-before.new.dest;
      counted = c.requires;
      within = c.if-machine-replica.false;
      was = slice_get-get_or c.args.run.now.processes.items c.args.replica c.index_mut.result.now
          (omega (arith, c.requires, c.if-machine-replica.false))
          ∙ ap (λ (p : Process). Some p) (sym c.index_mut.ensures.value) ∙ ap (λ (p : Process). Some p)
          (sym c.replace-before.ensures.value);
      processes = refl;
      shown = c.in_ok-push-in-Some.ensures.items;
    })
    (subst (λ (l : List MachineReply). AreAsked c.args.machine.now.cluster l c.args.replica c.args.given.items
    c.in-Some.events.items)
    c.as_slice.ensures.value
    (subst (λ (o : Option (Vec (Event OpValue) Global)). AreAskedOr c.args.machine.now.cluster c.as_slice.result.now
    c.args.replica
    c.args.given.items o) c.in-Some.is c.in_ok-asked_all.ensures))
    c.in_ok-after-in-Some.ensures
