-- What search doesn't prove of `acknowledge`: the clause `step`, by lemmas of `Steps`.
use Rattle.std.proofs.Common.{◌≡◌, List, ℕ, ◌/◌, max, min, length, slice_index, slice_set, ap, ◌∙◌}
use Rattle.std.proofs.lemmas.List.{length-set}
use Rattle.vr_state.specs.Outcome.{others}
use Rattle.vr_state.specs.NormalCase.{reached}
use Rattle.vr_state.specs.Views.{state}
use Rattle.vr_normal.proofs.Steps.{acknowledged_is}
use Rattle.vr_normal.proofs.prepare_ok.acknowledge.Goals as goal

pub returns-clause-step : goal.returns-clause-step
returns-clause-step g c =
    let same : c.in_ok-acknowledged.acknowledged.items ≡ slice_set c.args.replica.now.acknowledged.items c.args.from
    (max (slice_index c.args.replica.now.acknowledged.items c.args.from) c.args.op_number) =
    c.in_ok-acknowledged.ensures
    ∙ ap (λ (l : List ℕ). slice_set l c.args.from (max (slice_index l c.args.from) c.args.op_number))
    c.deref.ensures.value in
    acknowledged_is c.args.replica.now.count c.args.replica.now.index c.reached-reached.result
    c.max-commit_number.result (state c.args.replica.now) c.in_ok-acknowledged.acknowledged.items _
    c.new.result.items c.in_ok-replies.replies.items
    same (ap length same ∙ (length-set _ _ _ ∙ c.args.replica.now.counted))
    (c.reached-reached.ensures
    ∙ ap (λ (l : List ℕ). reached (length l / 2) l (others (length l) c.args.replica.now.index)
    (others (length l) c.args.replica.now.index)) c.deref-2.ensures.value)
    (c.max-commit_number.ensures ∙ ap (max c.args.replica.now.commit_number) (c.min.ensures
    ∙ ap (min c.reached-reached.result) c.len-held.ensures.len))
    c.new.ensures.items c.in_ok-replies.ensures
