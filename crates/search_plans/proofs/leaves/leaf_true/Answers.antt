-- What search doesn't prove of `leaf_true`: the clause `runs`, by lemmas of `RunLists`.
use Rattle.std.proofs.Common.{sym, ◌∙◌}
use Rattle.search_plans.proofs.RunLists.{true_has_runs}
use Rattle.search_plans.proofs.leaves.leaf_true.Goals as goal

pub returns-in_ok-may-clause-runs : goal.returns-in_ok-may-clause-runs
returns-in_ok-may-clause-runs c = λ e h.
    let decided = sym c.is_listed.ensures ∙ c.if-is_listed.true in
    true_has_runs c.args.indexes.now c.args.leaf.now e ((c.in_ok-may.ensures c.args.indexes.now decided e).sound h)
