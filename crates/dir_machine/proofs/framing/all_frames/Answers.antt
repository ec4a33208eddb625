-- What search doesn't prove of `all_frames`: `loop-all-preserved`, by a lemma of `Gathered`.
use Rattle.std.proofs.Common.{ℕ, List, [], ◌∷◌, ◌++◌, Option, Ok, Vec, append_assoc, sym, ap, ◌∙◌, subst}
use Rattle.std.specs.Global.{Global}
use Rattle.vr_wire.specs.Parts.{HandsFrame}
use Rattle.dir_machine.proofs.Gathered.{octets_more}
use Rattle.dir_machine.specs.Shown.{octets_of}
use Rattle.dir_machine.proofs.framing.all_frames.Goals as goal

pub loop-all-preserved : goal.loop-all-preserved
loop-all-preserved c =
    let next = subst (λ (o : Option (Vec ℕ Global)). HandsFrame (Ok o) c.loop-all.frames c.next_frame.new.frames)
    c.in-Some.is c.in_ok-frame.ensures in
    ap (λ (l : List (Vec ℕ Global)). octets_of l ++ c.next_frame.new.frames) c.in_ok-push.ensures.items
    ∙ ap (λ (l : List (List ℕ)). l ++ c.next_frame.new.frames) (octets_more c.loop-all.all.items c.in-Some.frame)
    ∙ append_assoc (octets_of c.loop-all.all.items) (c.in-Some.frame.items ∷ []) c.next_frame.new.frames
    ∙ ap (λ (l : List (List ℕ)). octets_of c.loop-all.all.items ++ l) (sym next)
    ∙ c.loop-all.invariant
