-- What search doesn't prove of `note_in_view`: the clause `step`, by lemmas of `Changing`.
use Rattle.std.proofs.lemmas.Result.{IfOk-weaker}
use Rattle.vr_state.specs.Outcome.{idle}
use Rattle.vr_state.specs.Views.{state}
use Rattle.vr_state.specs.ViewChange.{is_changing_in}
use Rattle.vr_change.specs.private.Rules.{note_change_in_at}
use Rattle.vr_change.proofs.Changing.{when}
use Rattle.vr_change.proofs.do_view_change.note_in_view.Goals as goal

pub returns-then-is_changing_in-clause-step : goal.returns-then-is_changing_in-clause-step
returns-then-is_changing_in-clause-step g c =
    let r = c.args.replica.now in
    IfOk-weaker c.note_at_primary.result _ _
    (λ _. when (is_changing_in (state r) c.args.view_number) (note_change_in_at r c.args.from c.args.view_number
    c.args.change) (idle (state r)) c.new.result.items c.if-is_changing_in.ensures c.new.ensures.items)
    c.note_at_primary.ensures.step
