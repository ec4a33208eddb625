use Rattle.std.proofs.Common.{◌≡◌, take, drop}
use Rattle.lab_script.specs.Cuts.{cut_pair}
use Rattle.lab_script.proofs.Pairs.{over}
use Rattle.lab_script.proofs.cuts.cut_pair.Given as goal

-- so far no colon with a space behind it
abbrev pub invariant-loop-at : goal.invariant-loop-at
invariant-loop-at l = over (take l.at l.text) (cut_pair (drop l.at l.text)) ≡ cut_pair l.text
