-- What search doesn't prove of `choose`: what it returns, by lemmas of `RunLists`.
use Rattle.std.proofs.Common.{ap}
use Rattle.ldap_eval.specs.ldap_syntax.Parts.{part_or_nothing}
use Rattle.search_plans.proofs.RunLists.{runs_whole}
use Rattle.search_plans.proofs.octet_runs.choose.Goals as goal

pub returns : goal.returns
returns c =
    runs_whole c.args.parts.now c.new-runs.result.items c.push_end_runs.new.runs.items c.push_all_runs.new.runs.items
    c.push_end_runs-2.new.runs.items _ _ c.any.result.now
    (ap part_or_nothing c.initial.ensures) c.any.ensures (ap part_or_nothing c.last.ensures) c.new-runs.ensures.items
    c.in_ok-push_end_runs.ensures c.in_ok-push_all_runs.ensures c.in_ok-push_end_runs-2.ensures
