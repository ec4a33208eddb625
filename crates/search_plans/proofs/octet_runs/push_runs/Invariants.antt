use Rattle.std.proofs.Common.{◌≡◌, length}
use Rattle.search_plans.specs.OctetRuns.{runs_of, with_runs}
use Rattle.search_plans.proofs.octet_runs.push_runs.Given as goal

abbrev pub invariant-loop-rest : goal.invariant-loop-rest
invariant-loop-rest l = with_runs l.runs.items (runs_of l.rest) ≡ with_runs l.initial.runs.items (runs_of l.part)

abbrev pub decreases-loop-rest : goal.decreases-loop-rest
decreases-loop-rest l = length l.rest
