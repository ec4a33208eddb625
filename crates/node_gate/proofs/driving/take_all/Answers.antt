-- What search doesn't prove of `take_all`: the clause `stepped`, the clause `left_out` and what `new` requires, by
-- lemmas of `BeatSent` and `Sent`.
use Rattle.std.proofs.Common.{ap, sym, subst, ◌∙◌}
use Rattle.node_gate.specs.Batches.{left_out, sends_at}
use Rattle.node_gate.specs.private.Batches.{IsBeatAt}
use Rattle.node_gate.proofs.BeatSent.{beat_of}
use Rattle.node_gate.proofs.Sent.{stepped_all}
use Rattle.node_gate.proofs.driving.take_all.Goals as goal

pub returns-clause-stepped : goal.returns-clause-stepped
returns-clause-stepped g c = stepped_all g.P.Peers.takes _ _ _ _ _ _ _ _ c.in_ok-handled.ensures.handled
    (ap (λ v. v.items) c.of-outputs.ensures) c.send_each-left_out.ensures.taken

pub returns-clause-left_out : goal.returns-clause-left_out
returns-clause-left_out g c = c.send_each-left_out.ensures.left_out ∙ ap (λ v. left_out v.items)
    (sym c.of-outputs.ensures)

pub new-requires : goal.new-requires
new-requires g c =
    let place = c.place_of_beat-place.result in
    beat_of _ c.args.held.now.published.node c.handle_all.new.self.published.node _ _ place _ c.args.held.now.stays
    c.in_ok-handled.ensures.handled.steps_are (subst (IsBeatAt place) c.as_slice.ensures.value
    c.place_of_beat-place.ensures)
    (sym (ap (sends_at place) c.as_slice-2.ensures.value) ∙ c.in-Some.ensures)
