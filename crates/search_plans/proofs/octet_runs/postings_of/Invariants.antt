use Rattle.std.proofs.Common.{◌≡◌, take}
use Rattle.search_plans.specs.private.OctetRuns.{run_plans}
use Rattle.search_plans.proofs.octet_runs.postings_of.Given as goal

abbrev pub invariant-loop-run : goal.invariant-loop-run
invariant-loop-run l = l.plans.items ≡ run_plans l.type_id (take l.run-index l.runs)
