use Rattle.std.proofs.Common.{◌≡◌, [], drop}
use Rattle.ldif_faults.specs.Values.{repeats}
use Rattle.ldif_faults.proofs.values.first_repeat.Given as goal

abbrev pub invariant-loop-line : goal.invariant-loop-line
invariant-loop-line l = repeats l.schema l.seen.items (drop l.line-index l.lines) ≡ repeats l.schema [] l.lines
