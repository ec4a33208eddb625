use Rattle.std.proofs.Common.{◌≡◌, None, replicate}
use Rattle.dir_lab.proofs.advancing.none_kept.Given as goal

-- so far nothing is kept of so many
abbrev pub invariant-loop : goal.invariant-loop
invariant-loop l = l.kept.items ≡ replicate l.counter None
