-- What search doesn't prove of `push_runs`: what it returns, by lemmas of `RunLists`.
use Rattle.std.proofs.Common.{◌≤◌, length, arith}
use Rattle.search_plans.specs.OctetRuns.{runs_of}
use Rattle.search_plans.proofs.RunLists.{runs_end, runs_full}
use Rattle.search_plans.proofs.octet_runs.push_runs.Goals as goal

pub returns-then-len-ge-MOST_RUNS : goal.returns-then-len-ge-MOST_RUNS
returns-then-len-ge-MOST_RUNS c =
    let full : 64 ≤ length c.loop-rest.runs.items = omega arith in
    runs_full c.loop-rest.runs.items _ (runs_of c.loop-rest.rest.now) full c.loop-rest.invariant

pub returns : goal.returns
returns c = runs_end c.loop-rest.runs.items _ c.loop-rest.rest.now c.in_default.len_below c.loop-rest.invariant
