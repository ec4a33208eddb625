-- What search doesn't prove of `cut_entries`: what it returns and `loop-counter-preserved`, by lemmas of `Loop`.
use Rattle.std.proofs.lemmas.Result.{err_from_is_err_and}
use Rattle.vr_wire.specs.private.Cutting.{cut_entries}
use Rattle.vr_wire.proofs.Loop.{goes_on, ends}
use Rattle.vr_wire.proofs.logs.cut_entries.Goals as goal

pub returns-in_err-entry : goal.returns-in_err-entry
returns-in_err-entry c =
    let p = err_from_is_err_and c.from_residual-in_err-entry.result c.from_residual-in_err-entry.ensures.1 in
    rw (p.1, p.2) (ends c.in_err-entry.field-0.0 c.loop-counter.entries.items c.args.count c.loop-counter.counter
    c.loop-counter.rest.now (cut_entries c.args.count c.args.octets.now) c.loop-counter-test.true
    c.in_err-entry.ensures c.loop-counter.invariant)

pub loop-counter-preserved : goal.loop-counter-preserved
loop-counter-preserved c =
    rw c.in_ok-push.ensures.items (goes_on c.loop-counter.entries.items c.args.count c.loop-counter.counter
    c.loop-counter.rest.now c.in_ok-entry.entry c.in_ok-entry.after.now
    (cut_entries c.args.count c.args.octets.now) c.loop-counter-test.true c.in_ok-entry.ensures
    c.loop-counter.invariant)
