-- What search doesn't prove of `unknown_false`: what it returns, by lemmas of `LeafPlans`.
use Rattle.std.proofs.Common.{sym, ap, ◌∙◌}
use Rattle.dir_index.specs.index_choice.declared.kinds.Kinds.{Kinds}
use Rattle.search_plans.proofs.LeafPlans.{unknown_bounds}
use Rattle.search_plans.proofs.leaves.unknown_false.Goals as goal

pub returns-in_ok-may : goal.returns-in_ok-may
returns-in_ok-may c =
    unknown_bounds c.args.indexes.now c.args.type_id c.in_ok-must.must c.in_ok-may.may _
    (sym (ap (λ (k : Kinds). k.presence) c.kinds.ensures) ∙ c.if-kinds.true)
    (c.in_ok-must.ensures c.args.indexes.now) (c.in_ok-may.ensures c.args.indexes.now)
