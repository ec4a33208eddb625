-- What search doesn't prove of `entries_of`: what it returns and `loop-entry-preserved`, by lemmas of `Stands`.
use Rattle.std.proofs.Common.{◌+◌, arith}
use Rattle.std.proofs.lemmas.Result.{err_from_is_err_and}
use Rattle.vr_wire.proofs.Stands.{entries_push, entries_refused}
use Rattle.vr_wire.proofs.payloads.entries_of.Goals as goal

pub returns-in_err-entry : goal.returns-in_err-entry
returns-in_err-entry c =
    let p = err_from_is_err_and c.from_residual-in_err-entry.result c.from_residual-in_err-entry.ensures.1 in
    rw (p.1, p.2) (entries_refused c.in_err-entry.field-0.0 c.args.entries.now c.loop-entry.entry-index
    c.entry-item.result c.entry-item.result c.loop-entry-test.true c.entry-item.is c.in_err-entry.ensures)

pub loop-entry-preserved : goal.loop-entry-preserved
loop-entry-preserved c =
    entries_push c.loop-entry.read.items c.push.new.self.items c.args.entries.now c.loop-entry.entry-index
    (c.loop-entry.entry-index + 1) c.in_ok-entry.entry c.entry-item.result c.entry-item.result
    (omega arith) c.in_ok-push.ensures.items c.loop-entry.invariant c.loop-entry-test.true c.entry-item.is
    c.in_ok-entry.ensures
