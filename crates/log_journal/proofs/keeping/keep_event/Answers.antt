use Rattle.std.proofs.Common.{ℕ, List, [], ◌∷◌, inr, Result, refl}
use Rattle.std.specs.declared.alloc.AllocError.{AllocError}
use Rattle.ldap_op.specs.Values.{OpValue}
use Rattle.vr_state.specs.State.{State}
use Rattle.vr_state.specs.Views.{state}
use Rattle.vr_state.specs.declared.event.Event.{Event}
use Rattle.vr_state.specs.declared.message.Outputs.{Outputs}
use Rattle.log_journal.specs.Taken.{Takes, TakesAll}
use Rattle.log_journal.proofs.Along.{crash_before, crash_within, memory_after}
use Rattle.log_journal.proofs.SomeSteps.{on_err, one_or_none, only_first}
use Rattle.log_journal.proofs.keeping.keep_event.Goals as goal

-- one event is all of one
all_of_one : (n i : ℕ) (r : State OpValue) (e : Event OpValue) (x : Result (Outputs OpValue) AllocError)
    (s : State OpValue) (old new : List (List ℕ)) → Takes n i r e x s old new →
    TakesAll n i r (e ∷ []) (x ∷ []) s old new
all_of_one n i r e x s old new h = (s, new, h, (refl, refl))

pub returns-in-Err-clause-any_moment : goal.returns-in-Err-clause-any_moment
returns-in-Err-clause-any_moment g c = λ t m. crash_before g.J.Device.seen g.J.Device.may_leave g.J.Device.moment
    g.J.Device.left_since t c.args.replica.now.count c.args.replica.now.index (state c.args.replica.now)
    (c.args.event ∷ []) c.args.journal.now.device m c.requires.durable
    (g.met.J.Device.only_now c.args.journal.now.device)

pub returns-in_err-settle-clause-any_moment : goal.returns-in_err-settle-clause-any_moment
returns-in_err-settle-clause-any_moment g c = λ t m. crash_within g.J.Device.seen g.J.Device.may_leave
    g.J.Device.moment g.J.Device.left_since t c.args.replica.now.count c.args.replica.now.index
    (state c.args.replica.now) (c.args.event ∷ []) c.args.journal.now.device m c.told_goes_on.ensures
    c.taken_is_told.ensures c.settle.new.journal.device (state c.take_event.new.replica) (c.in-Ok.taken ∷ [])
    c.new-batch.result c.take_event.new.batch c.new-batch.ensures (all_of_one _ _ _ _ _ _ _ _ c.in-Ok.ensures.taken)
    c.settle.ensures.any_moment

pub returns-clause-any_moment : goal.returns-clause-any_moment
returns-clause-any_moment g c = λ t m. crash_within g.J.Device.seen g.J.Device.may_leave g.J.Device.moment
    g.J.Device.left_since t c.args.replica.now.count c.args.replica.now.index (state c.args.replica.now)
    (c.args.event ∷ []) c.args.journal.now.device m c.told_goes_on.ensures c.taken_is_told.ensures
    c.settle.new.journal.device (state c.take_event.new.replica) (c.in-Ok.taken ∷ [])
    c.new-batch.result c.take_event.new.batch c.new-batch.ensures (all_of_one _ _ _ _ _ _ _ _ c.in-Ok.ensures.taken)
    c.settle.ensures.any_moment

pub returns-clause-memory : goal.returns-clause-memory
returns-clause-memory g c = λ t m. memory_after g.J.Device.seen g.J.Device.may_leave g.J.Device.moment
    g.J.Device.left_since t c.args.replica.now.count c.args.replica.now.index (state c.args.replica.now)
    (c.args.event ∷ []) c.args.journal.now.device m c.told_goes_on.ensures c.taken_is_told.ensures
    (state c.take_event.new.replica) (c.in-Ok.taken ∷ [])
    c.new-batch.result c.take_event.new.batch _ c.new-batch.ensures (all_of_one _ _ _ _ _ _ _ _ c.in-Ok.ensures.taken)
    c.in_ok-settle.ensures.strings

pub returns-in-Err-clause-late : goal.returns-in-Err-clause-late
returns-in-Err-clause-late g c = only_first c.args.replica.now.count c.args.replica.now.index
    (state c.args.replica.now) (state c.take_event.new.replica) c.args.event [] (inr c.in-Err.ensures.stepped)

pub returns-in_err-settle-clause-late : goal.returns-in_err-settle-clause-late
returns-in_err-settle-clause-late g c =
    let r = c.args.replica.now in
    on_err c.from_residual.result (only_first r.count r.index (state r) (state c.take_event.new.replica) c.args.event []
    (one_or_none r.count r.index (state r) (state c.take_event.new.replica) c.args.event c.in-Ok.taken
    c.new-batch.result c.take_event.new.batch c.in-Ok.ensures.taken))
