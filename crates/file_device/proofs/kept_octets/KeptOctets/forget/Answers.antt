-- What search doesn't prove of `forget`: the invariant, `overflow_sub-self` and `overflow_sub-self-in-pieces-2`, by
-- lemmas of `Copied`.
use Rattle.std.proofs.Common.{◌<◌, length, arith}
use Rattle.file_device.specs.History.{octets_of}
use Rattle.file_device.proofs.Copied.{first_let, first_within}
use Rattle.file_device.proofs.kept_octets.KeptOctets.forget.Goals as goal

pub invariant_of-self : goal.invariant_of-self
invariant_of-self c =
    let was = c.pieces.self in
    let some : 0 < length was.pieces.items = grind (arith, was.pieces.ok, c.pieces-test.true, c.is_empty.ensures) in
    let h = first_let was.pieces.items c.index.result.now was.size was.kept c.len-count.result
    (octets_of was.known.history) (record { sized = was.sized; within = was.within; are = was.kept_are })
    some c.index.ensures (omega (arith, c.len-count.ensures, c.index.result.now.ok)) c.remove.new.self.items
    c.remove.ensures.by_index.2 in
    record { writes_within = was.writes_within; sized = h.sized; within = h.within; kept_are = h.are }

pub overflow_sub-self : goal.overflow_sub-self
overflow_sub-self c =
    let was = c.pieces.self in
    let some : 0 < length was.pieces.items = grind (arith, was.pieces.ok, c.pieces-test.true, c.is_empty.ensures) in
    first_within was.pieces.items c.index.result.now was.size was.kept c.len-count.result
    (octets_of was.known.history) (record { sized = was.sized; within = was.within; are = was.kept_are })
    some c.index.ensures (omega (arith, c.len-count.ensures, c.index.result.now.ok))

pub overflow_sub-self-in-pieces-2 : goal.overflow_sub-self-in-pieces-2
overflow_sub-self-in-pieces-2 c =
    let was = c.pieces.self in
    let some : 0 < length was.pieces.items = grind (arith, was.pieces.ok, c.pieces-test.true, c.is_empty.ensures) in
    first_within was.pieces.items c.index.result.now was.size was.kept c.len-count.result
    (octets_of was.known.history) (record { sized = was.sized; within = was.within; are = was.kept_are })
    some c.index.ensures (omega (arith, c.len-count.ensures, c.index.result.now.ok))
