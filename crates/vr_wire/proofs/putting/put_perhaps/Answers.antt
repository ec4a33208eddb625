-- Frames: an octet and a log are a log that may be missing.
use Rattle.std.proofs.Common.{◌∷◌, []}
use Rattle.vr_wire.specs.Frames.{held_octets}
use Rattle.vr_wire.specs.Payloads.{written_held}
use Rattle.vr_wire.specs.private.Putting.{most_under}
use Rattle.vr_wire.proofs.PutLaws.{puts_last}
use Rattle.vr_wire.proofs.putting.put_perhaps.Goals as goal

pub returns-in_ok-put_octet-in-Some-clause-spelled : goal.returns-in_ok-put_octet-in-Some-clause-spelled
returns-in_ok-put_octet-in-Some-clause-spelled g c =
    rw c.in-Some.is (puts_last (most_under g.row.LIMIT) c.put_held.result c.args.out.now.items
    c.put_octet-in-Some.new.out.items c.put_held.new.out.items
    (1 ∷ []) (held_octets (written_held c.in-Some.held)) c.in_ok-put_octet-in-Some.ensures.spelled
    c.put_held.ensures.spelled)
