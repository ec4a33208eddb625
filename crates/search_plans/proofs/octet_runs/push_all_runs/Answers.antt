-- What search doesn't prove of `push_all_runs`: `loop-part-preserved`, by lemmas of `RunLists`.
use Rattle.search_plans.proofs.RunLists.{runs_more}
use Rattle.search_plans.proofs.octet_runs.push_all_runs.Goals as goal

pub loop-part-preserved : goal.loop-part-preserved
loop-part-preserved c =
    runs_more c.args.runs.now.items c.loop-part.runs.items c.push_runs.new.runs.items c.args.parts.now
    c.loop-part.part-index c.part-item.result c.as_octets.result.now
    c.loop-part-test.true c.part-item.is c.as_octets.ensures c.loop-part.invariant c.in_ok-push_runs.ensures
