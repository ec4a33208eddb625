-- What search doesn't prove of `lines_in`: `loop-piece-init`, by lemmas of `OneByOne`.
use Rattle.std.proofs.Common.{ℕ, Bor, List, nat_eq, ap₂, ◌∙◌}
use Rattle.std.specs.List.{slice_split}
use Rattle.ldif.specs.Records.{ValueModel}
use Rattle.lab_script.specs.Each.{all_of}
use Rattle.lab_script.specs.Updates.{line_in}
use Rattle.lab_script.proofs.OneByOne.{after, texts_begin}
use Rattle.lab_script.proofs.adds.lines_in.Goals as goal

pub loop-piece-init : goal.loop-piece-init
loop-piece-init c =
    ap₂ (λ (vs : List ValueModel) (ps : List (Bor (List ℕ))). after vs (all_of (λ (p : Bor (List ℕ)). line_in p.now)
    ps)) c.new-lines.ensures.items c.deref-piece-items.ensures.value
    ∙ texts_begin line_in c.in_ok-pieces.pieces.items (slice_split (nat_eq 124) c.args.text.now) c.in_ok-pieces.ensures
