-- What search doesn't prove of `keep_events`: the clause `any_moment`, the clause `memory`, the clause `taken` and the
-- clause `late`, by lemmas of `Along` and `SomeSteps`.
use Rattle.std.proofs.Common.{ℕ, List, subst}
use Rattle.log_journal.specs.Taken.{TakesAll}
use Rattle.vr_state.specs.Views.{state}
use Rattle.log_journal.proofs.Along.{crash_before, crash_within, memory_after}
use Rattle.log_journal.proofs.SomeSteps.{all_of_them, on_err}
use Rattle.log_journal.proofs.keeping.keep_events.Goals as goal

pub returns-in-Err-clause-any_moment : goal.returns-in-Err-clause-any_moment
returns-in-Err-clause-any_moment g c = λ t m. crash_before g.J.Device.seen g.J.Device.may_leave g.J.Device.moment
    g.J.Device.left_since t c.args.replica.now.count c.args.replica.now.index (state c.args.replica.now)
    c.args.events.items c.args.journal.now.device m c.requires.durable
    (g.met.J.Device.only_now c.args.journal.now.device)

pub returns-in_err-settle-clause-any_moment : goal.returns-in_err-settle-clause-any_moment
returns-in_err-settle-clause-any_moment g c = λ t m. crash_within g.J.Device.seen g.J.Device.may_leave
    g.J.Device.moment g.J.Device.left_since t c.args.replica.now.count c.args.replica.now.index
    (state c.args.replica.now) c.args.events.items c.args.journal.now.device m c.told_goes_on.ensures
    c.taken_is_told.ensures c.settle.new.journal.device (state c.take_events.new.replica) c.in-Ok.taken.items
    c.new-batch.result c.take_events.new.batch c.new-batch.ensures c.in-Ok.ensures.taken c.settle.ensures.any_moment

pub returns-clause-any_moment : goal.returns-clause-any_moment
returns-clause-any_moment g c = λ t m. crash_within g.J.Device.seen g.J.Device.may_leave g.J.Device.moment
    g.J.Device.left_since t c.args.replica.now.count c.args.replica.now.index (state c.args.replica.now)
    c.args.events.items c.args.journal.now.device m c.told_goes_on.ensures c.taken_is_told.ensures
    c.settle.new.journal.device (state c.take_events.new.replica) c.in-Ok.taken.items
    c.new-batch.result c.take_events.new.batch c.new-batch.ensures c.in-Ok.ensures.taken c.settle.ensures.any_moment

pub returns-clause-memory : goal.returns-clause-memory
returns-clause-memory g c = λ t m. memory_after g.J.Device.seen g.J.Device.may_leave g.J.Device.moment
    g.J.Device.left_since t c.args.replica.now.count c.args.replica.now.index (state c.args.replica.now)
    c.args.events.items c.args.journal.now.device m c.told_goes_on.ensures c.taken_is_told.ensures
    (state c.take_events.new.replica) c.in-Ok.taken.items
    c.new-batch.result c.take_events.new.batch _ c.new-batch.ensures c.in-Ok.ensures.taken
    c.in_ok-settle.ensures.strings

pub returns-clause-taken : goal.returns-clause-taken
returns-clause-taken g c = record {
  notes = c.take_events.new.batch;
  taken =
      subst (λ (l : List (List ℕ)). TakesAll c.args.replica.now.count c.args.replica.now.index
      (state c.args.replica.now) c.args.events.items c.in-Ok.taken.items (state c.take_events.new.replica) l
      c.take_events.new.batch) c.new-batch.ensures c.in-Ok.ensures.taken;
}

pub returns-in_err-settle-clause-late : goal.returns-in_err-settle-clause-late
returns-in_err-settle-clause-late g c =
    let r = c.args.replica.now in
    on_err c.from_residual.result (all_of_them r.count r.index (state r) (state c.take_events.new.replica)
    c.args.events.items c.in-Ok.taken.items c.new-batch.result c.take_events.new.batch c.in-Ok.ensures.taken)
