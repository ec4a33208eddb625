-- What search doesn't prove of `give_all`: what it returns, by lemmas of `Handled` and `Taking`.
use Rattle.std.proofs.Common.{◌≢◌, refl, rules, sym, subst}
use Rattle.std.proofs.lemmas.Result.{IfOk-weaker}
use Rattle.dir_node.specs.declared.config.AllHandled.{AllHandled}
use Rattle.dir_node.specs.declared.error.NodeError.TheVariants.{NoMemory}
use Rattle.dir_machine.proofs.Handled.{all_took, stopped_given}
use Rattle.dir_machine.proofs.Taking.{steps_some}
use Rattle.dir_machine.specs.private.Processes.{IsGiven}
use Rattle.dir_machine.specs.declared.process.Process.{Process}
use Rattle.dir_machine.specs.declared.process.Process.TheVariants.{Up}
use Rattle.dir_machine.specs.declared.replies.MachineReply.TheVariants.{Handled}
use Rattle.dir_machine.proofs.giving.give_all.Goals as goal

pub returns-in-Ok : goal.returns-in-Ok
returns-in-Ok c =
    subst (λ (p : Process). IsGiven c.args.replica c.args.events.items p (Up c.handle_all.new.self c.in-Up.fates)
    (Handled c.args.replica c.in-Ok.handled.outputs c.in-Ok.handled.behind)) (sym c.in-Up.is) (
      refl,
      all_took c.args.events.items c.in-Up.node c.handle_all.new.self c.in-Ok.handled.behind
          c.in-Ok.handled.outputs.items c.in-Ok.ensures.steps c.in-Ok.ensures.executed c.in-Ok.ensures.kept
          c.in-Ok.ensures.logged c.in-Ok.ensures.running
          c.in-Ok.ensures.same c.in-Ok.ensures.any_moment c.in-Ok.ensures.placed,
    )

pub returns-in-Err : goal.returns-in-Err
returns-in-Err c =
    let other : c.in-Err.error ≢ NoMemory = search rules in
    let old = c.in-Up.node in
    let new = c.handle_all.new.self in
    IfOk-weaker c.stopped.result _ _ (λ x is.
    subst (λ (p : Process). IsGiven c.args.replica c.args.events.items p x.0 x.1) (sym c.in-Up.is)
    (stopped_given {T = AllHandled} c.args.replica c.args.events.items old new c.in-Up.fates new.replica.view_number
    c.in-Err.error x.0 x.1 is (record {
      other = other;
      same = c.in-Err.ensures.same;
      any = c.in-Err.ensures.any_moment;
      any_log = c.in-Err.ensures.any_log_moment;
      store = λ e q. let late = c.in-Err.ensures.store_late e q
          in (
            steps_some old.count old.index old.replica c.args.events.items late.0.0 new.replica late.0.1,
            refl,
            late.1,
          );
      log = λ e q. (c.in-Err.ensures.log_stops e q).2;
      halted = c.in-Err.ensures.halted.0;
      foreign = c.in-Err.ensures.foreign_journal;
      stale = c.in-Err.ensures.stale_journal;
    }))) c.stopped.ensures
