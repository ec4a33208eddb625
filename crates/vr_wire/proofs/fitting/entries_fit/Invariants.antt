use Rattle.std.proofs.Common.{take}
use Rattle.std.specs.List.{AllByRecursion}
use Rattle.vr_wire.specs.private.Fitting.{IsSpelled}
use Rattle.vr_wire.proofs.fitting.entries_fit.Given as goal

abbrev pub invariant-loop-entry : goal.invariant-loop-entry
invariant-loop-entry l = AllByRecursion IsSpelled (take l.entry-index l.entries)
