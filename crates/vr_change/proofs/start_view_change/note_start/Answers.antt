-- What search doesn't prove of `note_start`: the clause `step`, by lemmas of `Changing`.
use Rattle.std.proofs.Common.{ℕ, ◌+◌, ◌==◌, List, length, sym, ap, ◌∙◌}
use Rattle.std.specs.List.{list_any}
use Rattle.vr_state.specs.Views.{state, outcome}
use Rattle.vr_change.proofs.Changing.{noted_again, noted_idle, noted_declared}
use Rattle.vr_change.proofs.start_view_change.note_start.Goals as goal

pub returns-then-noted-replica-clause-step : goal.returns-then-noted-replica-clause-step
returns-then-noted-replica-clause-step g c =
    noted_idle c.args.replica.now.count c.args.replica.now.index c.args.from (state c.args.replica.now)
    c.push.new.self.items c.args.sends.items c.sending-then-noted-replica.result.sends.items
    c.sending-then-noted-replica.result.replies.items
    (ap (list_any (λ j. j == c.args.from)) (sym c.as_slice.ensures.value) ∙ sym c.contains.ensures.value
    ∙ c.if-contains.false)
    c.in_ok-push.ensures.items
    (λ q. c.if-noted-replica.true (ap (λ (l : List ℕ). length l + 1) c.as_slice-noted.ensures.value ∙ q))
    (ap (λ v. v.items) c.sending-then-noted-replica.ensures.sends) c.sending-then-noted-replica.ensures.replies

pub returns-in-Ok-clause-step : goal.returns-in-Ok-clause-step
returns-in-Ok-clause-step g c =
    noted_declared c.args.replica.now.count c.args.replica.now.index c.args.from (state c.args.replica.now)
    c.push.new.self.items c.args.sends.items (outcome c.declare.new.replica c.in-Ok.outputs)
    (ap (list_any (λ j. j == c.args.from)) (sym c.as_slice.ensures.value) ∙ sym c.contains.ensures.value
    ∙ c.if-contains.false)
    c.in_ok-push.ensures.items
    (sym (ap (λ (l : List ℕ). length l + 1) c.as_slice-noted.ensures.value) ∙ c.if-noted-replica.false)
    c.in-Ok.ensures.step

pub returns-then-contains-clause-step : goal.returns-then-contains-clause-step
returns-then-contains-clause-step g c =
    noted_again c.args.replica.now.count c.args.replica.now.index c.args.from (state c.args.replica.now)
    c.args.sends.items c.sending.result.sends.items c.sending.result.replies.items
    (ap (list_any (λ j. j == c.args.from)) (sym c.as_slice.ensures.value) ∙ sym c.contains.ensures.value
    ∙ c.if-contains.true)
    (ap (λ v. v.items) c.sending.ensures.sends) c.sending.ensures.replies
