-- What search doesn't prove of `answer_prepare`: the clause `step` and the clause `store`, by lemmas of `Steps` and
-- `Laws` (`vr_state`).
use Rattle.std.proofs.Common.{ap, ◌∙◌}
use Rattle.vr_state.specs.Views.{state}
use Rattle.vr_normal.proofs.Steps.{prepared_is, view_kept}
use Rattle.vr_state.proofs.Laws.{none_to_store}
use Rattle.vr_normal.proofs.prepare.answer_prepare.Goals as goal

pub returns-clause-step : goal.returns-clause-step
returns-clause-step g c =
    prepared_is c.args.from c.args.view_number c.args.op_number c.args.commit_number c.held_with-held.result
    c.committed-by_then.result c.args.entry (state c.args.replica.now) (state c.take_in.new.replica)
    (state c.commit_to.new.replica) c.sending.result.sends.items c.sending.result.replies.items
    c.commit_to.ensures.state c.in_ok-take_in.ensures.ok c.held_with-held.ensures c.committed-by_then.ensures
    (ap (λ v. v.items) c.sending.ensures.sends ∙ c.in_ok-sends.ensures) c.sending.ensures.replies

pub returns-clause-store : goal.returns-clause-store
returns-clause-store g c =
    c.sending.ensures.store
    ∙ none_to_store (state c.args.replica.now) (state c.commit_to.new.replica)
    (view_kept c.args.op_number c.args.commit_number c.args.entry (state c.args.replica.now)
    (state c.take_in.new.replica) (state c.commit_to.new.replica) c.commit_to.ensures.state
    c.in_ok-take_in.ensures.ok)
