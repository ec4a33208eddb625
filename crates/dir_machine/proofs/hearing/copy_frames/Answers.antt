-- What search doesn't prove of `copy_frames`: `loop-place-preserved` and what it returns, by lemmas of `Gathered`.
use Rattle.std.proofs.Common.{◌≡◌, ℕ, suc, ◌+◌, take, get_or, sym, ap, ◌∙◌, arith}
use Rattle.std.proofs.Math.Seq.{take-suc}
use Rattle.std.proofs.lemmas.Option.{slice_get-get_or}
use Rattle.dir_machine.proofs.Gathered.{at_more, one_unwritten}
use Rattle.dir_machine.specs.Shown.{octets_in}
use Rattle.dir_machine.specs.declared.events.FramePlace.{FramePlace}
use Rattle.dir_machine.proofs.hearing.copy_frames.Goals as goal

-- what an index past the end would give
abbrev none : FramePlace
none = record { event = 0; frame = 0 }

pub returns-in-None : goal.returns-in-None
returns-in-None c =
    let at = c.loop-place.place-index in
    one_unwritten c.args.replica c.args.shown.now c.args.places.now at (get_or c.args.places.now at none)
    (slice_get-get_or c.args.places.now at none c.loop-place-test.true)
    (sym c.in_ok-frame.ensures ∙ ap octets_in c.in-None.is)

pub loop-place-preserved : goal.loop-place-preserved
loop-place-preserved c =
    let at = c.loop-place.place-index in
    let all = c.args.places.now in
    let next : at + 1 ≡ suc at = omega arith in
    at_more c.args.replica c.args.shown.now (take at all) (take (at + 1) all) c.loop-place.frames.items
    c.push.new.self.items (get_or all at none) c.in-Some.frame
    (ap (λ (k : ℕ). take k all) next ∙ take-suc all at none c.loop-place-test.true)
    c.in_ok-push-in-Some.ensures.items (sym c.in_ok-frame.ensures ∙ ap octets_in c.in-Some.is) c.loop-place.invariant
