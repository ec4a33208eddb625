use Rattle.std.proofs.Common.{◌≡◌, ℕ, length}
use Rattle.lab_script.specs.Cuts.{behind_spaces}
use Rattle.lab_script.proofs.cuts.behind_spaces.Given as goal

-- the spaces so far stand at the front
abbrev pub invariant-loop-rest : goal.invariant-loop-rest
invariant-loop-rest l = behind_spaces l.rest ≡ behind_spaces l.fn.text

abbrev pub decreases-loop-rest : goal.decreases-loop-rest
decreases-loop-rest l = length l.rest
