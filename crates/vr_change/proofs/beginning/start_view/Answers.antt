-- What search doesn't prove of `start_view`: what it returns, step by step.
use Rattle.std.proofs.lemmas.Result.{IfOk-weaker}
use Rattle.std.proofs.Common.{ap, ◌∙◌, ◌++◌}
use Rattle.vr_state.specs.declared.message.PeerMessage.TheVariants.{StartView}
use Rattle.vr_state.specs.Outcome.{to_all}
use Rattle.vr_change.proofs.beginning.start_view.Goals as goal

pub returns : goal.returns
returns g c =
    let r = c.args.replica.now in
    IfOk-weaker c.join.result _ _
    (λ _ joined. joined ∙ ap (λ all. c.args.sends.items ++ all) (c.in_ok-started.ensures
    ∙ ap (λ l. to_all r.count r.index
    (StartView r.view_number (record { log = l; commit_number = c.args.commit_number }))) c.in_ok-copy.ensures))
    c.join.ensures
