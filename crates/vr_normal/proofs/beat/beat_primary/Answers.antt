-- What search doesn't prove of `beat_primary`: the clause `step`, by lemmas of `Asking`.
use Rattle.std.proofs.Common.{ap, ◌∙◌}
use Rattle.vr_state.specs.Views.{state}
use Rattle.vr_normal.proofs.Asking.{beat_again, beat_whole}
use Rattle.vr_normal.proofs.beat.beat_primary.Goals as goal

pub returns-in_ok-sends-clause-step : goal.returns-in_ok-sends-clause-step
returns-in_ok-sends-clause-step g c =
    let r = c.args.replica.now in
    beat_again r.count r.index (state r) c.len.result c.sending.result.sends.items c.sending.result.replies.items
    c.len.ensures.len c.if-replica-len.true
    (ap (λ v. v.items) c.sending.ensures.sends ∙ c.in_ok-sends.ensures) c.sending.ensures.replies

pub returns-in_ok-sends-2-clause-step : goal.returns-in_ok-sends-2-clause-step
returns-in_ok-sends-2-clause-step g c =
    let r = c.args.replica.now in
    beat_whole r.count r.index (state r) c.len.result c.sending-else-replica-len.result.sends.items
    c.sending-else-replica-len.result.replies.items c.len.ensures.len c.if-replica-len.false
    (ap (λ v. v.items) c.sending-else-replica-len.ensures.sends ∙ c.in_ok-sends-2.ensures)
    c.sending-else-replica-len.ensures.replies
