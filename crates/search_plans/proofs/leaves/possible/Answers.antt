-- What search doesn't prove of `possible`: the clause `bounds`, by lemmas of `Rows` and `RunLists`.
use Rattle.std.proofs.Common.{◌≡◌, true, sym, ap, ◌∙◌}
use Rattle.dir_index.specs.index_choice.declared.kinds.Kinds.{Kinds}
use Rattle.dir_index.specs.index_choice.Choice.{kinds_of}
use Rattle.search_plans.proofs.Rows.{if_ok_weaker}
use Rattle.search_plans.proofs.RunLists.{run_bounds, unknown_true}
use Rattle.search_plans.proofs.leaves.possible.Goals as goal

pub returns-in-Unknown-clause-bounds : goal.returns-in-Unknown-clause-bounds
returns-in-Unknown-clause-bounds c = unknown_true c.args.indexes.now c.args.leaf.now c.in-Unknown.is

pub returns-then-kinds-clause-bounds : goal.returns-then-kinds-clause-bounds
returns-then-kinds-clause-bounds c =
    let kept : (kinds_of c.args.indexes.now c.args.leaf.now.type_id).substrings ≡ true =
    sym (ap (λ (k : Kinds). k.substrings) c.kinds-kinds.ensures) ∙ c.if-kinds.true in
    if_ok_weaker _ _ (λ p h. run_bounds c.args.indexes.now c.args.leaf.now c.in-Parts.parts p c.in-Parts.is
    (h c.args.indexes.now kept)) c.possible_by_runs.result c.possible_by_runs.ensures
