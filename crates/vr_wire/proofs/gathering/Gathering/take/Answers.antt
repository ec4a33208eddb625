-- Frames: what comes of a frame, by whether it is a part, and whose.
use Rattle.std.proofs.Common.{◌≡◌, ◌≢◌, ℕ, List, Some, None, sym, subst, ◌∙◌, arith}
use Rattle.vr_wire.specs.Parts.{IsPart}
use Rattle.vr_wire.specs.private.Parts.{cut_part}
use Rattle.vr_wire.proofs.PartFrames.{part_takes}
use Rattle.vr_wire.proofs.Comes.{taken_part, taken_frame, taken_foreign}
use Rattle.vr_wire.proofs.gathering.Gathering.take.Goals as goal

pub take_part-requires : goal.take_part-requires
take_part-requires c =
    let p = c.in-Ok-Some in
    let cut : cut_part c.args.frame.now ≡ Some (p.other, p.part) = sym p.ensures ∙ p.field-0-is in
    let is = part_takes c.args.frame.now (p.other, p.part) (λ i. omega (arith, c.type_inv.frame i)) cut in
    omega (arith, is.place_is, is.count_is)

pub returns-in-Ok-None : goal.returns-in-Ok-None
returns-in-Ok-None c =
    taken_frame c.args.cluster c.args.self.now c.args.frame.now c.take_message.result c.take_message.new.self
    (sym c.in-Ok-None.ensures ∙ c.in-Ok-None.field-0-is) c.take_message.ensures.comes c.take_message.ensures.dropped

pub returns-then-other-number : goal.returns-then-other-number
returns-then-other-number c =
    let frame = c.args.frame.now in
    let p = c.in-Ok-Some in
    let cut : cut_part frame ≡ Some (p.other, p.part) = sym p.ensures ∙ p.field-0-is in
    let is = part_takes frame (p.other, p.part) (λ i. omega (arith, c.type_inv.frame i)) cut in
    let same : p.other ≡ c.args.cluster = c.if-other-number.true ∙ c.number.ensures.same in
    taken_part c.args.cluster c.args.self.now frame p.part c.take_part.result c.take_part.new.self
    (subst (λ (n : ℕ). IsPart n p.part frame) same is) c.take_part.ensures

pub returns-else-other-number : goal.returns-else-other-number
returns-else-other-number c =
    let frame = c.args.frame.now in
    let p = c.in-Ok-Some in
    let cut : cut_part frame ≡ Some (p.other, p.part) = sym p.ensures ∙ p.field-0-is in
    let is = part_takes frame (p.other, p.part) (λ i. omega (arith, c.type_inv.frame i)) cut in
    let differs : p.other ≢ c.args.cluster = (λ e. c.if-other-number.false (e ∙ sym c.number.ensures.same)) in
    taken_foreign c.args.cluster c.args.self.now frame p.other p.part is differs
