-- What search doesn't prove of `give_one`: what it returns, by lemmas of `Handled`.
use Rattle.std.proofs.Common.{[], ◌∷◌, ◌++◌, ◌≢◌, List, Result, Ok, inr, refl, rules, sym, ap, ◌∙◌, subst}
use Rattle.std.proofs.lemmas.Result.{IfOk-weaker}
use Rattle.std.specs.declared.alloc.AllocError.{AllocError}
use Rattle.dir_node.specs.declared.config.Handled.{Handled}
use Rattle.dir_node.specs.declared.error.NodeError.TheVariants.{NoMemory}
use Rattle.state_machine.specs.dir_store.ldap_op.Values.{OpValue}
use Rattle.vr_state.specs.State.{State}
use Rattle.vr_state.specs.Step.{step}
use Rattle.vr_state.specs.declared.message.Outputs.{Outputs}
use Rattle.dir_machine.proofs.Handled.{one_took, stopped_given}
use Rattle.dir_machine.specs.private.Processes.{IsGiven}
use Rattle.dir_machine.specs.declared.process.Process.{Process}
use Rattle.dir_machine.specs.declared.process.Process.TheVariants.{Up}
use Rattle.dir_machine.specs.declared.replies.MachineReply.TheVariants as reply
use Rattle.dir_machine.proofs.giving.give_one.Goals as goal

pub returns-in_ok-push-in-Ok : goal.returns-in_ok-push-in-Ok
returns-in_ok-push-in-Ok c =
    subst (λ (p : Process). IsGiven c.args.replica (c.args.event ∷ []) p (Up c.handle.new.self c.in-Up.fates)
    (reply.Handled c.args.replica c.push.new.self c.in-Ok.handled.behind)) (sym c.in-Up.is) (
      refl,
      one_took c.args.event c.in-Up.node c.handle.new.self c.in-Ok.handled.outputs c.in-Ok.handled.behind
          c.push.new.self.items
          (c.in_ok-push-in-Ok.ensures.items ∙ ap (λ (l : List (Result (Outputs OpValue) AllocError)).
          l ++ Ok c.in-Ok.handled.outputs ∷ []) c.new-given.ensures.items) c.in-Ok.ensures.step
          c.in-Ok.ensures.executed c.in-Ok.ensures.kept c.in-Ok.ensures.logged
          c.in-Ok.ensures.running c.in-Ok.ensures.same c.in-Ok.ensures.any_moment c.in-Ok.ensures.placed,
    )

pub returns-in-Err : goal.returns-in-Err
returns-in-Err c =
    let other : c.in-Err.error ≢ NoMemory = search rules in
    let old = c.in-Up.node in
    IfOk-weaker c.stopped.result _ _ (λ x is.
    subst (λ (p : Process). IsGiven c.args.replica (c.args.event ∷ []) p x.0 x.1) (sym c.in-Up.is)
    (stopped_given {T = Handled} c.args.replica (c.args.event ∷ []) old c.handle.new.self c.in-Up.fates
    (step old.count old.index old.replica c.args.event).state.view_number c.in-Err.error x.0 x.1 is (record {
      other = other;
      same = c.in-Err.ensures.same;
      any = c.in-Err.ensures.any_moment;
      any_log = c.in-Err.ensures.any_log_moment;
      store = λ e q. let late = c.in-Err.ensures.store_late e q in (
        inr (c.handle.new.self.replica, inr late.0, refl),
        ap (λ (r : State OpValue). r.view_number) (sym late.0),
        late.1,
      );
      log = λ e q. (c.in-Err.ensures.log_stops e q).2;
      halted = c.in-Err.ensures.halted.0;
      foreign = c.in-Err.ensures.foreign_journal;
      stale = c.in-Err.ensures.stale_journal;
    }))) c.stopped.ensures
