use Rattle.std.proofs.Common.{◌≡◌, ℕ, take}
use Rattle.index_choice.specs.Choice.{kinds_of}
use Rattle.index_choice.specs.Texts.{chosen}
use Rattle.index_choice.proofs.choosing.kinds_of_lines.Given as goal

abbrev pub invariant-loop-line : goal.invariant-loop-line
invariant-loop-line l = (t : ℕ) → kinds_of l.kinds.items t ≡ chosen (take l.line-index l.lines) t
