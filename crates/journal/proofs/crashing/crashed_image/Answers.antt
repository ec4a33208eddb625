-- What search doesn't prove of `crashed_image`: what `after_call` requires, by lemmas of `Mixing`.
use Rattle.std.proofs.Common.{List, ℕ, sym, ap, ◌∙◌, subst, arith, length, map, reverse, take}
use Rattle.journal.specs.Memory.{event}
use Rattle.journal.specs.private.Memory.{FitsIn}
use Rattle.journal.proofs.Mixing.{fits_at, no_shorter}
use Rattle.journal.proofs.crashing.crashed_image.Goals as goal

pub after_call-requires-clause-fits : goal.after_call-requires-clause-fits
after_call-requires-clause-fits c =
    let within = fits_at event c.args.base.now c.args.calls.now c.loop-call.call-index c.call-item.result
    c.loop-call-test.true c.call-item.is c.requires in
    subst (λ (l : List ℕ). FitsIn (event c.call-item.result) (length l)) (sym (c.deref-in-loop-call.ensures.value
    ∙ c.loop-call.invariant.1)) within.0

pub after_call-requires-clause-no_shorter : goal.after_call-requires-clause-no_shorter
after_call-requires-clause-no_shorter c =
    let within = fits_at event c.args.base.now c.args.calls.now c.loop-call.call-index c.call-item.result
    c.loop-call-test.true c.call-item.is c.requires in
    let long = no_shorter c.args.base.now (reverse (map event (take c.loop-call.call-index c.args.calls.now)))
    within.1 c.loop-call.image.items c.loop-call.invariant.0 in
    omega (
      arith,
      long,
      ap length c.deref-in-loop-call.ensures.value,
      ap length c.loop-call.invariant.1,
      ap length c.deref.ensures.value,
    )
