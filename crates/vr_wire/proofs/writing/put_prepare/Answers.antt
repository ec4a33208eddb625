-- Frames: parts put one after the other are the body.
use Rattle.std.proofs.Common.{ℕ, List, ◌++◌, ap, append_assoc}
use Rattle.vr_state.specs.declared.message.PeerMessage.TheVariants.{Prepare}
use Rattle.vr_wire.specs.Frames.{number, entry_octets, body_octets}
use Rattle.vr_wire.specs.Payloads.{written, written_entry}
use Rattle.vr_wire.specs.private.Putting.{most_under}
use Rattle.vr_wire.proofs.PutLaws.{three_parts}
use Rattle.vr_wire.proofs.writing.put_prepare.Goals as goal

pub returns-clause-spelled : goal.returns-clause-spelled
returns-clause-spelled g c =
    let a = c.args in
    let e = entry_octets (written_entry a.entry.now) in
    three_parts (most_under g.row.LIMIT) c.put_entry.result a.out.now.items c.put_number.new.out.items
    c.put_two.new.out.items c.put_entry.new.out.items
    (number a.view_number) (number a.op_number ++ number a.commit_number) e
    (body_octets (written (Prepare a.view_number a.entry.now a.op_number a.commit_number)))
    c.in_ok-put_number.ensures.spelled c.in_ok-put_two.ensures.spelled c.put_entry.ensures.spelled
    (ap (λ (l : List ℕ). number a.view_number ++ l) (append_assoc (number a.op_number) (number a.commit_number) e))
