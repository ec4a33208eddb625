-- Frames: the next part is handed out, and the others are left.
use Rattle.std.proofs.Common.{◌<◌, drop, arith}
use Rattle.vr_wire.proofs.Pieces.{handed, part_small}
use Rattle.vr_wire.proofs.parts.next_part.Goals as goal

pub returns-clause-next : goal.returns-clause-next
returns-clause-next c =
    let p = c.args.parts.now in
    let lt : p.place < p.count = omega arith in
    handed p.cluster p.sender p.number p.count p.place p.size p.start c.end_of-end.result p.octets.items
    c.in_ok-frame.frame.items lt c.requires.start_is (omega arith) c.in_ok-frame.ensures

pub returns-clause-small : goal.returns-clause-small
returns-clause-small c =
    let p = c.args.parts.now in
    part_small p.cluster p.sender p.number p.place p.count p.size (drop p.start p.octets.items)
    c.in_ok-frame.frame.items c.requires.small c.in_ok-frame.ensures
