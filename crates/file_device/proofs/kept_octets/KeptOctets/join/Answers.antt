-- What search doesn't prove of `join`: the invariant, by lemmas of `Copied` and `Histories`.
use Rattle.std.proofs.Common.{◌≡◌, [], ◌∷◌, ◌++◌, ap, ◌∙◌, refl, arith}
use Rattle.file_device.specs.History.{octets_of}
use Rattle.file_device.proofs.Copied.{joined}
use Rattle.file_device.proofs.Histories.{joined_octets, joined_within}
use Rattle.file_device.proofs.kept_octets.KeptOctets.join.Goals as goal

pub invariant_of-self-2 : goal.invariant_of-self-2
invariant_of-self-2 c =
    let was = c.args.self.now in
    let octets = octets_of was.known.history in
    let new : octets_of c.join.new.self.history ≡ octets ++ c.args.piece.items =
    joined_octets was.known.history c.join.new.self.history c.deref.result.now c.requires.opened c.join.ensures
    ∙ ap (λ l. octets ++ l) c.deref.ensures.value in
    let h = joined was.pieces.items c.push_reserved.new.self.items c.args.piece octets
    (octets_of c.join.new.self.history) was.size was.kept c.len-count.result
    (record { sized = was.sized; within = was.within; are = was.kept_are })
    (c.push_reserved.ensures.items ∙ ap (λ l. l ++ c.args.piece ∷ []) c.reserve.ensures.items) new
    (omega (arith, c.len-count.ensures, c.args.piece.ok)) in
    record {
      writes_within = joined_within was.known.history c.join.new.self.history c.deref.result.now
          c.requires.opened c.join.ensures;
      sized = h.sized;
      within = h.within;
      kept_are = h.are;
    }
