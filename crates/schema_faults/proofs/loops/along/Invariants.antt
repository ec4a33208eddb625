use Rattle.std.proofs.Common.{◌≡◌, [], drop, string_bytes}
use Rattle.schema_faults.specs.Loops.{along}
use Rattle.schema_faults.proofs.loops.along.Given as goal

abbrev pub invariant-loop-number : goal.invariant-loop-number
invariant-loop-number l = along l.called (string_bytes l.way) (drop l.number-index l.numbers) ≡ along l.called []
    l.numbers
