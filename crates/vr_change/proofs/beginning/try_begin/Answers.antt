-- What search doesn't prove of `try_begin`: the clause `step`, by lemmas of `Changing`.
use Rattle.std.proofs.lemmas.Result.{IfOk-weaker}
use Rattle.std.proofs.Common.{Some, None, sym, ap, ◌∙◌}
use Rattle.vr_state.specs.Views.{state}
use Rattle.vr_change.proofs.Changing.{begun, not_begun, only_before}
use Rattle.vr_change.proofs.beginning.try_begin.Goals as goal

pub returns-then-not-may_begin-clause-step : goal.returns-then-not-may_begin-clause-step
returns-then-not-may_begin-clause-step g c =
    let r = c.args.replica.now in
    not_begun r.count r.index (state r) c.args.sends.items c.sending.result.sends.items c.sending.result.replies.items
    c.if-not-may_begin.ensures (ap (λ v. v.items) c.sending.ensures.sends) c.sending.ensures.replies

pub returns-in-None-clause-step : goal.returns-in-None-clause-step
returns-in-None-clause-step g c =
    let r = c.args.replica.now in
    only_before (state r) c.args.sends.items c.sending-in-None.result.sends.items c.sending-in-None.result.replies.items
    (ap (λ v. v.items) c.sending-in-None.ensures.sends) c.sending-in-None.ensures.replies
    ∙ begun r.count r.index (state r) None c.args.sends.items c.if-not-may_begin.ensures (sym c.in-None.is
    ∙ c.in_ok-copy_best.ensures)

pub returns-in-Some-clause-step : goal.returns-in-Some-clause-step
returns-in-Some-clause-step g c =
    let r = c.args.replica.now in
    IfOk-weaker c.begin_view.result _ _
    (λ _ step. step ∙ begun r.count r.index (state r) (Some c.in-Some.change) c.args.sends.items
    c.if-not-may_begin.ensures (sym c.in-Some.is ∙ c.in_ok-copy_best.ensures))
    c.begin_view.ensures.step
