-- What search doesn't prove of `beat_changing`: the clause `step` and the clause `store`, by lemmas of `Changing` and
-- `Stores` (`vr_state`).
use Rattle.std.proofs.Common.{ap, refl, ◌∙◌}
use Rattle.vr_state.specs.Views.{state}
use Rattle.vr_state.proofs.Stores.{none_to_store}
use Rattle.vr_change.proofs.Changing.{beaten}
use Rattle.vr_change.proofs.beat.beat_changing.Goals as goal

pub returns-clause-step : goal.returns-clause-step
returns-clause-step g c =
    let r = c.args.replica.now in
    beaten r.count r.index (state r) c.in_ok-told.told.items c.in_ok-declared.declared.items
    c.sending.result.sends.items c.sending.result.replies.items
    c.in_ok-told.ensures c.in_ok-declared.ensures (ap (λ v. v.items) c.sending.ensures.sends ∙ c.in_ok-sends.ensures)
    c.sending.ensures.replies

pub returns-clause-store : goal.returns-clause-store
returns-clause-store g c = c.sending.ensures.store ∙ none_to_store (state c.args.replica.now)
    (state c.args.replica.now) refl
