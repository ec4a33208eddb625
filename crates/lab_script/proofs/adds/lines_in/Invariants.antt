use Rattle.std.proofs.Common.{◌≡◌, ℕ, Bor, List, drop}
use Rattle.lab_script.specs.Each.{all_of}
use Rattle.lab_script.specs.Updates.{line_in, lines_in}
use Rattle.lab_script.proofs.OneByOne.{after}
use Rattle.lab_script.proofs.adds.lines_in.Given as goal

-- what is read so far, and then what is left, is all
abbrev pub invariant-loop-piece : goal.invariant-loop-piece
invariant-loop-piece l = after l.lines.items (all_of (λ (p : Bor (List ℕ)). line_in p.now)
    (drop l.piece-index l.piece-items)) ≡ lines_in l.text
