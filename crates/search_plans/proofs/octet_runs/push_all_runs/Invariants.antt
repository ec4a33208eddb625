use Rattle.std.proofs.Common.{◌≡◌, take}
use Rattle.search_plans.specs.OctetRuns.{runs_of_all, with_runs}
use Rattle.search_plans.proofs.octet_runs.push_all_runs.Given as goal

abbrev pub invariant-loop-part : goal.invariant-loop-part
invariant-loop-part l = l.runs.items ≡ with_runs l.fn.runs.items (runs_of_all (take l.part-index l.parts))
