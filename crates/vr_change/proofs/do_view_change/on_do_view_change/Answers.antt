-- What search doesn't prove of `on_do_view_change`: the clause `step` and the clause `store`, by lemmas of `Changing`
-- and `Stores` (`vr_state`).
use Rattle.std.proofs.lemmas.Result.{IfOk-weaker}
use Rattle.std.proofs.Common.{sym, ◌∙◌}
use Rattle.vr_state.specs.Views.{state}
use Rattle.vr_state.proofs.Stores.{none_to_store}
use Rattle.vr_change.proofs.Changing.{do_entering, do_in_view}
use Rattle.vr_change.proofs.do_view_change.on_do_view_change.Goals as goal

pub returns-then-replica-view_number-clause-step : goal.returns-then-replica-view_number-clause-step
returns-then-replica-view_number-clause-step g c =
    let r = c.args.replica.now in
    IfOk-weaker c.enter_and_note.result _ _
    (λ _ step. step ∙ do_entering r.count r.index c.args.from c.args.view_number c.args.change (state r)
    (sym c.if-is_recovering.ensures) c.if-replica-view_number.true)
    c.enter_and_note.ensures.step

pub returns-else-replica-view_number-clause-step : goal.returns-else-replica-view_number-clause-step
returns-else-replica-view_number-clause-step g c =
    let r = c.args.replica.now in
    IfOk-weaker c.note_in_view.result _ _
    (λ _ step. step ∙ do_in_view r.count r.index c.args.from c.args.view_number c.args.change (state r)
    (sym c.if-is_recovering.ensures) c.if-replica-view_number.false)
    c.note_in_view.ensures.step

pub returns-else-replica-view_number-clause-store : goal.returns-else-replica-view_number-clause-store
returns-else-replica-view_number-clause-store g c =
    IfOk-weaker c.note_in_view.result _ _
    (λ _ none. none ∙ none_to_store (state c.args.replica.now) (state c.note_in_view.new.replica)
    c.note_in_view.ensures.view)
    c.note_in_view.ensures.store
