-- What search doesn't prove of `on_suspect`: the clause `step`, by lemmas of `Changing`.
use Rattle.std.proofs.Common.{sym, ap, ◌∙◌}
use Rattle.vr_state.specs.Views.{state}
use Rattle.vr_change.proofs.Changing.{suspecting, unsuspecting}
use Rattle.vr_change.proofs.suspect.on_suspect.Goals as goal

pub returns-then-not-may_suspect-clause-step : goal.returns-then-not-may_suspect-clause-step
returns-then-not-may_suspect-clause-step g c =
    let r = c.args.replica.now in
    unsuspecting r.count r.index (state r) c.sending.result.sends.items c.sending.result.replies.items
    (sym c.may_suspect.ensures.may ∙ c.if-not-may_suspect.true) (ap (λ v. v.items) c.sending.ensures.sends
    ∙ c.new.ensures.items) c.sending.ensures.replies

pub returns-clause-step : goal.returns-clause-step
returns-clause-step g c =
    let r = c.args.replica.now in
    suspecting r.count r.index (state r) (state c.enter.new.replica) c.storing.result.sends.items
    c.storing.result.replies.items
    (sym c.may_suspect.ensures.may ∙ c.if-not-may_suspect.false) c.in_ok-enter.ensures.ok
    (ap (λ v. v.items) c.storing.ensures.sends ∙ ap (λ v. v.items) c.sending-2.ensures.sends ∙ c.in_ok-sends.ensures)
    (ap (λ v. v.items) c.storing.ensures.replies ∙ c.sending-2.ensures.replies)
