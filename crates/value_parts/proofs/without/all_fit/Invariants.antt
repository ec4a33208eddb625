use Rattle.std.proofs.Common.{◌≡◌, drop}
use Rattle.std.specs.List.{list_all}
use Rattle.value_parts.specs.private.Fitting.{fits}
use Rattle.value_parts.proofs.without.all_fit.Given as goal

abbrev pub invariant-loop-part : goal.invariant-loop-part
invariant-loop-part l = list_all (fits l.keyed) (drop l.part-index l.parts) ≡ list_all (fits l.keyed) l.parts
