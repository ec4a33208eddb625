use Rattle.std.proofs.Common.{◌≡◌, ℕ, Bool, false, [], ◌∷◌, is_some, ap, ◌∙◌, subst, rules}
use Rattle.log_journal.specs.Taken.{MakesSome}
use Rattle.vr_state.specs.Step.{step as step_of}
use Rattle.vr_state.specs.Views.{state}
use Rattle.view_store.specs.Device.{LeavesOnly}
use Rattle.view_store.specs.Slots.{own, IsWellPlaced}
use Rattle.view_store.specs.Store.{IsFormerOrNew}
use Rattle.dir_node.specs.Logged.{LeavesOnlyIn, TellsSome, device_in, head_of}
use Rattle.dir_node.specs.NodeState.{NodeValue, head, pair_of}
use Rattle.dir_node.specs.private.NodeState.{Holds}
use Rattle.dir_node.proofs.Logging.{left_running, runs_on, tells_on}
use Rattle.dir_node.proofs.Views.{left_pair, stored_error, untouched}
use Rattle.dir_node.proofs.node.Node.handle.Goals as goal

-- the step was refused memory: the pair's device isn't called
pub returns-in-Err-NoMemory-clause-any_moment : goal.returns-in-Err-NoMemory-clause-any_moment
returns-in-Err-NoMemory-clause-any_moment g c =
    let m = g.D.Device.moment in
    let l = g.D.Device.left_since in
    let s = g.D.Device.seen in
    let device = c.self.inside.views.device in
    subst (λ (n : NodeValue g.row.D.Denot g.row.J.Denot). n.is_halted ≡ false → IsWellPlaced (s n.device) →
    LeavesOnly m l n.device device (IsFormerOrNew n.cluster (own (pair_of n))
    (record (pair_of n) { view = (step_of n.count n.index n.replica c.args.event).state.view_number })))
    c.self.view_is
    (λ running placed. untouched s g.D.Device.may_leave m l device c.self.inside.views.cluster _ _ placed
    (c.self.invariant running).stored.holds (c.self.invariant running).stored.settled
    (g.met.D.Device.only_now device))

-- the step's notes weren't settled: the pair's device isn't called
pub returns-in-Err-Journal-clause-any_moment : goal.returns-in-Err-Journal-clause-any_moment
returns-in-Err-Journal-clause-any_moment g c =
    let m = g.D.Device.moment in
    let l = g.D.Device.left_since in
    let s = g.D.Device.seen in
    let device = c.self.inside.views.device in
    subst (λ (n : NodeValue g.row.D.Denot g.row.J.Denot). n.is_halted ≡ false → IsWellPlaced (s n.device) →
    LeavesOnly m l n.device device (IsFormerOrNew n.cluster (own (pair_of n))
    (record (pair_of n) { view = (step_of n.count n.index n.replica c.args.event).state.view_number })))
    c.self.view_is
    (λ running placed. untouched s g.D.Device.may_leave m l device c.self.inside.views.cluster _ _ placed
    (c.self.invariant running).stored.holds (c.self.invariant running).stored.settled
    (g.met.D.Device.only_now device))

-- the pair was stored, or it was not
pub returns-in-Ok-follow-clause-any_moment : goal.returns-in-Ok-follow-clause-any_moment
returns-in-Ok-follow-clause-any_moment g c =
    let m = g.D.Device.moment in
    let l = g.D.Device.left_since in
    let s = g.D.Device.seen in
    let r = c.self.inside.replica in
    let restarts = c.self.inside.restarts in
    let views = c.self.inside.views in
    let told : c.is_some.result ≡ is_some c.take_one.new.journal = search rules in
    subst (λ (n : NodeValue g.row.D.Denot g.row.J.Denot). n.is_halted ≡ false → IsWellPlaced (s n.device) →
    LeavesOnly m l n.device c.follow.new.views.device (IsFormerOrNew n.cluster (own (pair_of n))
    (record (pair_of n) { view = (step_of n.count n.index n.replica c.args.event).state.view_number })))
    c.self.view_is
    (λ running placed. subst (λ (v : ℕ). LeavesOnly m l views.device c.follow.new.views.device
    (IsFormerOrNew views.cluster
    (own (record { view = r.view_number; restarts = restarts; journaled = is_some c.self.inside.journal }))
    (record { view = v; restarts = restarts; journaled = is_some c.self.inside.journal })))
    (ap (λ o. o.state.view_number) c.in-Ok.ensures.step)
    (subst (λ (b : Bool). LeavesOnly m l views.device c.follow.new.views.device
    (IsFormerOrNew views.cluster (own (record { view = r.view_number; restarts = restarts; journaled = b }))
    (record { view = c.take_one.new.replica.view_number; restarts = restarts; journaled = b }))) (told
    ∙ c.take_one.ensures.journaled) (c.follow.ensures.any_moment placed)))

pub returns-in-Err-clause-any_moment : goal.returns-in-Err-clause-any_moment
returns-in-Err-clause-any_moment g c =
    let m = g.D.Device.moment in
    let l = g.D.Device.left_since in
    let s = g.D.Device.seen in
    let r = c.self.inside.replica in
    let restarts = c.self.inside.restarts in
    let views = c.self.inside.views in
    let told : c.is_some.result ≡ is_some c.take_one.new.journal = search rules in
    subst (λ (n : NodeValue g.row.D.Denot g.row.J.Denot). n.is_halted ≡ false → IsWellPlaced (s n.device) →
    LeavesOnly m l n.device c.follow.new.views.device (IsFormerOrNew n.cluster (own (pair_of n))
    (record (pair_of n) { view = (step_of n.count n.index n.replica c.args.event).state.view_number })))
    c.self.view_is
    (λ running placed. subst (λ (v : ℕ). LeavesOnly m l views.device c.follow.new.views.device
    (IsFormerOrNew views.cluster
    (own (record { view = r.view_number; restarts = restarts; journaled = is_some c.self.inside.journal }))
    (record { view = v; restarts = restarts; journaled = is_some c.self.inside.journal })))
    (ap (λ o. o.state.view_number) c.in-Ok.ensures.step)
    (subst (λ (b : Bool). LeavesOnly m l views.device c.follow.new.views.device
    (IsFormerOrNew views.cluster (own (record { view = r.view_number; restarts = restarts; journaled = b }))
    (record { view = c.take_one.new.replica.view_number; restarts = restarts; journaled = b }))) (told
    ∙ c.take_one.ensures.journaled) (c.follow.ensures.any_moment placed)))

-- the journal went along, whatever became of the pair
pub returns-in-Ok-follow-clause-any_log_moment : goal.returns-in-Ok-follow-clause-any_log_moment
returns-in-Ok-follow-clause-any_log_moment g c =
    let i = c.self.inside in
    subst (λ (n : NodeValue g.row.D.Denot g.row.J.Denot). n.is_halted ≡ false → LeavesOnlyIn g.J.Device.moment
    g.J.Device.left_since (device_in n.journal) (device_in c.take_one.new.journal)
    (TellsSome (head n) n.count n.index n.replica (c.args.event ∷ []))) c.self.view_is
    (λ running. c.take_one.ensures.any_moment (head_of i.views.cluster i.replica.index i.replica.count i.restarts)
    (c.self.invariant running).told)

pub returns-in-Err-clause-any_log_moment : goal.returns-in-Err-clause-any_log_moment
returns-in-Err-clause-any_log_moment g c =
    let i = c.self.inside in
    subst (λ (n : NodeValue g.row.D.Denot g.row.J.Denot). n.is_halted ≡ false → LeavesOnlyIn g.J.Device.moment
    g.J.Device.left_since (device_in n.journal) (device_in c.take_one.new.journal)
    (TellsSome (head n) n.count n.index n.replica (c.args.event ∷ []))) c.self.view_is
    (λ running. c.take_one.ensures.any_moment (head_of i.views.cluster i.replica.index i.replica.count i.restarts)
    (c.self.invariant running).told)

-- the device holds the pair of the view after the step, and the journal tells the replica after it
pub invariant_of-self-in-Ok-follow : goal.invariant_of-self-in-Ok-follow
invariant_of-self-in-Ok-follow g c = λ running.
    let i = c.self.inside in
    let told : c.is_some.result ≡ is_some c.take_one.new.journal = search rules in
    runs_on g.D.Device.seen g.D.Device.may_leave g.J.Device.seen g.J.Device.may_leave i.views c.follow.new.views
    i.journal c.take_one.new.journal i.replica.index i.replica.count c.take_one.new.replica.index
    c.take_one.new.replica.count
    (state i.replica) (state c.take_one.new.replica) i.restarts (c.self.invariant running) c.follow.ensures.cluster
    c.take_one.ensures.index c.take_one.ensures.count
    (subst (λ (b : Bool). Holds g.D.Device.seen g.D.Device.may_leave c.follow.new.views
    (record { view = c.take_one.new.replica.view_number; restarts = c.self.inside.restarts; journaled = b })) told
    c.in-Ok-follow.ensures.held) c.in-Ok.ensures.kept

pub returns-in-Ok-follow-clause-kept : goal.returns-in-Ok-follow-clause-kept
returns-in-Ok-follow-clause-kept g c =
    let told : c.is_some.result ≡ is_some c.take_one.new.journal = search rules in
    left_pair g.D.Device.seen g.D.Device.may_leave c.follow.new.views
    (record {
      view = c.take_one.new.replica.view_number;
      restarts = c.self.inside.restarts;
      journaled =
          is_some c.take_one.new.journal;
    }) (subst (λ (b : Bool). Holds g.D.Device.seen g.D.Device.may_leave
    c.follow.new.views (record {
      view = c.take_one.new.replica.view_number;
      restarts = c.self.inside.restarts;
      journaled = b;
    })) told c.in-Ok-follow.ensures.held)

pub returns-in-Ok-follow-clause-logged : goal.returns-in-Ok-follow-clause-logged
returns-in-Ok-follow-clause-logged g c =
    let i = c.self.inside in
    let told : c.is_some.result ≡ is_some c.take_one.new.journal = search rules in
    left_running g.D.Device.seen g.D.Device.may_leave g.J.Device.seen g.J.Device.may_leave c.follow.new.views
    c.take_one.new.journal c.take_one.new.replica.index c.take_one.new.replica.count
    (state c.take_one.new.replica) i.restarts
    (runs_on g.D.Device.seen g.D.Device.may_leave g.J.Device.seen g.J.Device.may_leave i.views c.follow.new.views
    i.journal c.take_one.new.journal i.replica.index i.replica.count c.take_one.new.replica.index
    c.take_one.new.replica.count
    (state i.replica) (state c.take_one.new.replica) i.restarts (c.self.invariant c.if-self.false)
    c.follow.ensures.cluster c.take_one.ensures.index c.take_one.ensures.count
    (subst (λ (b : Bool). Holds g.D.Device.seen g.D.Device.may_leave c.follow.new.views
    (record { view = c.take_one.new.replica.view_number; restarts = c.self.inside.restarts; journaled = b })) told
    c.in-Ok-follow.ensures.held) c.in-Ok.ensures.kept)

-- the pair wasn't stored: the journal tells the replica after the step, and the device gives one of the two pairs
pub returns-in-Err-clause-store_late : goal.returns-in-Err-clause-store_late
returns-in-Err-clause-store_late g c = λ e is.
    let i = c.self.inside in (
      subst (λ (n : NodeValue g.row.D.Denot g.row.J.Denot). state c.take_one.new.replica ≡
          (step_of n.count n.index n.replica c.args.event).state) c.self.view_is
          (ap (λ o. o.state) c.in-Ok.ensures.step),
      tells_on g.D.Device.seen g.D.Device.may_leave g.J.Device.seen g.J.Device.may_leave i.views c.follow.new.views
          i.journal c.take_one.new.journal i.replica.index i.replica.count c.take_one.new.replica.index
          c.take_one.new.replica.count
          (state i.replica) (state c.take_one.new.replica) i.restarts (c.self.invariant c.if-self.false)
          c.follow.ensures.cluster c.take_one.ensures.index c.take_one.ensures.count c.in-Ok.ensures.kept,
    )

pub returns-in-Err-clause-stopped : goal.returns-in-Err-clause-stopped
returns-in-Err-clause-stopped g c = λ is.
    let s = g.D.Device.seen in
    let r = c.self.inside.replica in
    let restarts = c.self.inside.restarts in
    let views = c.self.inside.views in
    let told : c.is_some.result ≡ is_some c.take_one.new.journal = search rules in
    subst (λ (n : NodeValue g.row.D.Denot g.row.J.Denot). IsWellPlaced (s n.device) →
    IsFormerOrNew n.cluster (own (pair_of n))
    (record (pair_of n) { view = (step_of n.count n.index n.replica c.args.event).state.view_number })
    (s c.follow.new.views.device)) c.self.view_is
    (λ placed. subst (λ (v : ℕ). IsFormerOrNew views.cluster
    (own (record { view = r.view_number; restarts = restarts; journaled = is_some c.self.inside.journal }))
    (record { view = v; restarts = restarts; journaled = is_some c.self.inside.journal })
    (s c.follow.new.views.device)) (ap (λ o. o.state.view_number) c.in-Ok.ensures.step)
    (subst (λ (b : Bool). IsFormerOrNew views.cluster
    (own (record { view = r.view_number; restarts = restarts; journaled = b }))
    (record { view = c.take_one.new.replica.view_number; restarts = restarts; journaled = b })
    (s c.follow.new.views.device)) (told ∙ c.take_one.ensures.journaled)
    (c.in-Err.ensures.stopped (stored_error c.in-Err.error _ is) placed)))

-- the notes weren't settled: the replica is as it is before the step or after it
pub returns-in-Err-Journal-clause-log_late : goal.returns-in-Err-Journal-clause-log_late
returns-in-Err-Journal-clause-log_late g c = λ e is.
    subst (λ (n : NodeValue g.row.D.Denot g.row.J.Denot). MakesSome n.count n.index n.replica (c.args.event ∷ [])
    (state c.take_one.new.replica)) c.self.view_is (c.in-Err-Journal.ensures.late c.in-Err-Journal.error
    (search rules))
