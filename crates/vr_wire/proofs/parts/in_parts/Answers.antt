-- Frames: the pieces of a message are its parts.
use Rattle.std.proofs.Common.{◌≡◌, ℕ, ◌-◌, ◌*◌, ◌<◌, ◌≤◌, length, drop, sym, subst, arith}
use Rattle.std.proofs.lemmas.List.{length-drop}
use Rattle.vr_wire.specs.Parts.{parts_from, pieces_of}
use Rattle.vr_wire.specs.private.Parts.{ArePartsWithin}
use Rattle.vr_wire.proofs.Pieces.{made}
use Rattle.vr_wire.proofs.parts.in_parts.Goals as goal

pub returns : goal.returns
returns c =
    let a = c.args in
    let o = drop 12 a.octets.items in
    let count = c.in-Ok.count in
    let w = c.in-Ok.ensures in
    let len : length o ≡ length a.octets.items - 12 = length-drop 12 a.octets.items in
    let all : c.len.result - 12 ≤ count * a.size = subst (λ (n : ℕ). c.len.result - 12 ≤ n * a.size) (sym w.1)
    c.count_of.ensures.covers in
    let there : length o ≡ c.len.result - 12 = omega arith in
    let some : 0 < length o = omega arith in
    let below : (c.count_of.result - 1) * a.size < c.len.result - 12 = c.count_of.ensures.least (omega arith) in
    let least : (count - 1) * a.size < length o = subst (λ (n : ℕ). (n - 1) * a.size < length o) (sym w.1)
    (omega arith) in
    let finish = made a.size a.cluster a.sender a.number count o c.requires.size c.requires.small some (omega arith)
    least (omega arith) in
    let all_left : count ≡ count - 0 = omega arith in
    subst (λ (n : ℕ). ArePartsWithin a.size a.cluster a.sender a.number o (parts_from a.cluster a.sender a.number
    count 0 (pieces_of a.size n o))) all_left finish
