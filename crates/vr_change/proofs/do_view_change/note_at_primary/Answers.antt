-- What search doesn't prove of `note_at_primary`: the clause `step`, by lemmas of `Changing`.
use Rattle.std.proofs.lemmas.Result.{IfOk-weaker}
use Rattle.std.proofs.Common.{ap, ◌∙◌}
use Rattle.vr_state.specs.Views.{state}
use Rattle.vr_change.proofs.Changing.{at_another, at_primary}
use Rattle.vr_change.proofs.do_view_change.note_at_primary.Goals as goal

pub returns-then-view_number-replica-clause-step : goal.returns-then-view_number-replica-clause-step
returns-then-view_number-replica-clause-step g c =
    let r = c.args.replica.now in
    IfOk-weaker c.note_change.result _ _
    (λ _ step. step ∙ at_primary r.count r.index c.args.from c.args.view_number c.args.change (state r)
    c.args.sends.items c.if-view_number-replica.true)
    c.note_change.ensures.step

pub returns-else-view_number-replica-clause-step : goal.returns-else-view_number-replica-clause-step
returns-else-view_number-replica-clause-step g c =
    let r = c.args.replica.now in
    at_another r.count r.index c.args.from c.args.view_number c.args.change (state r) c.args.sends.items
    c.sending.result.sends.items c.sending.result.replies.items
    c.if-view_number-replica.false (ap (λ v. v.items) c.sending.ensures.sends) c.sending.ensures.replies
