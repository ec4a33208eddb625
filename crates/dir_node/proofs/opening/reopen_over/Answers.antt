-- What search doesn't prove of `reopen_over`: the clause `kept`, the clause `logged` and the clause `stale_journal`, by
-- lemmas of `Logging`, `Restarts` and `Views`.
use Rattle.std.proofs.Common.{ℕ, Err, Some, ap, sym, ◌∙◌, subst, true}
use Rattle.log_journal.specs.journal.Frames.{recorded}
use Rattle.view_store.specs.Slots.{found}
use Rattle.vr_state.specs.Views.{state}
use Rattle.dir_node.specs.NodeState.{KeepsLog, KeepsPair, NodeValue}
use Rattle.dir_node.specs.Restarting.{IsStale}
use Rattle.dir_node.specs.declared.error.NodeError.{NodeError}
use Rattle.dir_node.specs.declared.owner.Owner.{Owner}
use Rattle.dir_node.proofs.Logging.{left_running}
use Rattle.dir_node.proofs.Restarts.{starts_running}
use Rattle.dir_node.proofs.Views.{left_pair}
use Rattle.dir_node.proofs.opening.reopen_over.Goals as goal

pub returns-in-Ok-clause-kept : goal.returns-in-Ok-clause-kept
returns-in-Ok-clause-kept g c =
    let m = c.in-Ok.made in
    let views = c.start_over.new.views in
    let owner : Owner = record { cluster = c.number.result; index = c.args.config.index; count = c.args.config.count }
    in
    let run = starts_running g.D.Device.seen g.D.Device.may_leave g.J.Device.seen g.J.Device.may_leave views
    c.start_over.new.journal owner _ _ m c.in-Ok.ensures.made
    (c.in-Ok.ensures.cluster ∙ c.new-views.ensures.cluster ∙ sym c.number.ensures.same) c.in-Ok.ensures.stored
    c.in-Ok.ensures.held c.in-Ok.ensures.told in
    subst (λ (n : NodeValue g.row.D.Denot g.row.J.Denot). KeepsPair g.D.Device.may_leave n)
    (sym c.assembled-node.ensures)
    (left_pair g.D.Device.seen g.D.Device.may_leave views (record {
      view = (state m.replica).view_number;
      restarts =
          m.pair.restarts;
      journaled = true;
    }) run.stored)

pub returns-in-Ok-clause-logged : goal.returns-in-Ok-clause-logged
returns-in-Ok-clause-logged g c =
    let m = c.in-Ok.made in
    let views = c.start_over.new.views in
    let owner : Owner = record { cluster = c.number.result; index = c.args.config.index; count = c.args.config.count }
    in
    let run = starts_running g.D.Device.seen g.D.Device.may_leave g.J.Device.seen g.J.Device.may_leave views
    c.start_over.new.journal owner _ _ m c.in-Ok.ensures.made
    (c.in-Ok.ensures.cluster ∙ c.new-views.ensures.cluster ∙ sym c.number.ensures.same) c.in-Ok.ensures.stored
    c.in-Ok.ensures.held c.in-Ok.ensures.told in
    subst (λ (n : NodeValue g.row.D.Denot g.row.J.Denot). KeepsLog g.J.Device.may_leave n)
    (sym c.assembled-node.ensures)
    (left_running g.D.Device.seen g.D.Device.may_leave g.J.Device.seen g.J.Device.may_leave views
    (Some c.start_over.new.journal) m.replica.index m.replica.count (state m.replica) m.pair.restarts run)

pub returns-in-Err-clause-stale_journal : goal.returns-in-Err-clause-stale_journal
returns-in-Err-clause-stale_journal g c = λ e.
    subst (λ (k : ℕ). IsStale (record { cluster = k; index = c.args.config.index; count = c.args.config.count })
    (found k (g.D.Device.seen c.args.device)) (recorded (g.J.Device.seen c.args.journal))) c.number.ensures.same
    (subst (λ (d : g.row.D.Denot). IsStale (record {
      cluster = c.number.result;
      index = c.args.config.index;
      count =
          c.args.config.count;
    }) (found c.number.result (g.D.Device.seen d))
    (recorded (g.J.Device.seen c.args.journal))) c.new-views.ensures.device
    (c.in-Err.ensures.stale_journal (ap (λ (x : NodeError). Err x) e)))
