-- What search doesn't prove of `declare`: the clause `step`, by lemmas of `Changing`.
use Rattle.std.proofs.Common.{ap}
use Rattle.vr_state.specs.Views.{state}
use Rattle.vr_change.proofs.Changing.{declared_is}
use Rattle.vr_change.proofs.declaring.declare.Goals as goal

pub returns-in_ok-sends-clause-step : goal.returns-in_ok-sends-clause-step
returns-in_ok-sends-clause-step g c =
    declared_is c.args.replica.now.count c.args.replica.now.index (state c.args.replica.now) c.args.sends.items
    c.in_ok-declared.declared.items c.in_ok-sends.sends.items c.sending.result.sends.items
    c.sending.result.replies.items
    c.if-replica.false c.in_ok-declared.ensures c.in_ok-sends.ensures (ap (λ v. v.items) c.sending.ensures.sends)
    c.sending.ensures.replies
