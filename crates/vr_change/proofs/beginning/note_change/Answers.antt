-- What search doesn't prove of `note_change`: the clause `step`, by lemmas of `Changing`.
use Rattle.std.proofs.lemmas.Result.{IfOk-weaker}
use Rattle.vr_state.specs.Views.{state}
use Rattle.vr_change.proofs.Changing.{change_again, change_noted}
use Rattle.vr_change.proofs.beginning.note_change.Goals as goal

pub returns-then-is_noted-clause-step : goal.returns-then-is_noted-clause-step
returns-then-is_noted-clause-step g c =
    let r = c.args.replica.now in
    IfOk-weaker c.try_begin.result _ _
    (λ _. change_again r.count r.index c.args.from c.args.change (state r) c.args.sends.items c.deref.result.now
    c.if-is_noted.ensures c.deref.ensures.value)
    c.try_begin.ensures.step

pub returns-in-Ok-clause-step : goal.returns-in-Ok-clause-step
returns-in-Ok-clause-step g c =
    let r = c.args.replica.now in
    change_noted r.count r.index c.args.from c.args.change (state r) c.push.new.self.items c.args.sends.items
    c.deref.result.now c.if-is_noted.ensures c.deref.ensures.value c.in_ok-push.ensures.items c.in-Ok.ensures.step
