-- Frames: a message's frames are its one frame or its parts.
use Rattle.std.proofs.Common.{◌≡◌, ℕ, ◌<◌, min, max, List, ◌∷◌, length, drop, slice_index, ap, ◌∙◌, arith}
use Rattle.std.proofs.lemmas.List.{length-append}
use Rattle.std.proofs.lemmas.Result.{err_from_is_err_and}
use Rattle.vr_wire.specs.Frames.{limit, short, rest_octets, frame_octets}
use Rattle.vr_wire.specs.Payloads.{written}
use Rattle.vr_wire.specs.Parts.{saying_octets}
use Rattle.vr_wire.proofs.Pieces.{in_parts, not_made}
use Rattle.vr_wire.proofs.parts.frames_of.Goals as goal

pub returns-in_err-octets : goal.returns-in_err-octets
returns-in_err-octets c =
    let a = c.args in
    let p = err_from_is_err_and c.from_residual.result c.from_residual.ensures.1 in
    rw (p.1, p.2) (not_made (min a.sizes.most limit) (max a.sizes.part_size 1) a.cluster a.sender a.number
    (written a.message.now) c.in_err-octets.field-0.0 c.in_err-octets.ensures)

pub returns : goal.returns
returns c =
    let a = c.args in
    let m = written a.message.now in
    let rest = rest_octets a.cluster a.sender m in
    let octets : c.in_ok-octets.octets.items ≡ 0 ∷ 0 ∷ 0 ∷ 0 ∷ rest = c.in_ok-octets.ensures in
    let long : min a.sizes.most limit < length (frame_octets a.cluster a.sender m) =
    omega (arith, ap length octets, length-append (short (length rest)) rest) in
    let said : drop 12 c.put_kind.new.octets.items ≡ saying_octets m = c.put_kind.ensures.said
    ∙ ap (λ (l : List ℕ). slice_index l 11 ∷ drop 13 l) octets in
    in_parts (min a.sizes.most limit) (max a.sizes.part_size 1) c.min-2.result a.cluster a.sender a.number m
    (drop 12 c.put_kind.new.octets.items) c.in_parts.result long (omega arith) said c.in_parts.ensures
