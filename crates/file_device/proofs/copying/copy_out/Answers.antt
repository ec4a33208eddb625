-- What search doesn't prove of `copy_out`: the clause `octets`, `loop-piece-preserved` and the clause `whole`, by
-- lemmas of `Copied`.
use Rattle.std.proofs.Common.{length, drop, eq-eqb, arith, length-drop}
use Rattle.file_device.specs.private.Pieces.{octets_in}
use Rattle.file_device.proofs.Copied.{full_then, done_then, whole_copied}
use Rattle.file_device.proofs.copying.copy_out.Goals as goal

pub returns-then-done-buffer-clause-octets : goal.returns-then-done-buffer-clause-octets
returns-then-done-buffer-clause-octets c = λ _.
    full_then (drop c.args.start (octets_in c.args.pieces.now)) c.loop-piece.buffer c.copy_behind-done.new.buffer
    c.loop-piece.done (length c.args.buffer.now) c.copy_behind-done.result c.loop-piece.skip c.min-from.result
    c.args.pieces.now c.loop-piece.piece-index c.piece-item.result c.deref.result.now c.loop-piece-test.true
    c.piece-item.is c.deref.ensures.value (omega (arith, c.min-from.ensures, c.len.ensures, c.deref.ensures.len))
    c.loop-piece.invariant
    c.copy_behind-done.ensures.count c.copy_behind-done.ensures.long c.copy_behind-done.ensures.octets
    c.if-done-buffer.true

pub loop-piece-preserved : goal.loop-piece-preserved
loop-piece-preserved c =
    done_then (drop c.args.start (octets_in c.args.pieces.now)) c.loop-piece.buffer c.copy_behind-done.new.buffer
    c.loop-piece.done (length c.args.buffer.now) c.copy_behind-done.result c.loop-piece.skip c.min-from.result
    c.args.pieces.now c.loop-piece.piece-index c.piece-item.result c.deref.result.now c.loop-piece-test.true
    c.piece-item.is c.deref.ensures.value (omega (arith, c.min-from.ensures, c.len.ensures, c.deref.ensures.len))
    c.loop-piece.invariant
    c.copy_behind-done.ensures.count c.copy_behind-done.ensures.long c.copy_behind-done.ensures.octets
    c.if-done-buffer.false

pub returns-clause-whole : goal.returns-clause-whole
returns-clause-whole c = λ enough.
    let wanted = drop c.args.start (octets_in c.args.pieces.now) in
    let full = whole_copied wanted c.loop-piece.buffer c.loop-piece.done (length c.args.buffer.now) c.loop-piece.skip
    c.args.pieces.now c.loop-piece.piece-index c.loop-piece.invariant
    c.loop-piece-test.false (omega (arith, enough, length-drop c.args.start (octets_in c.args.pieces.now))) in
    eq-eqb c.loop-piece.done (length c.loop-piece.buffer) full
