-- What search doesn't prove of `possible_by_type`: what it returns, by lemmas of `LeafPlans`.
use Rattle.std.proofs.Common.{sym, ap, ◌∙◌}
use Rattle.dir_index.specs.index_choice.declared.kinds.Kinds.{Kinds}
use Rattle.search_plans.proofs.LeafPlans.{possible_present}
use Rattle.search_plans.proofs.leaves.possible_by_type.Goals as goal

pub returns-then-kinds : goal.returns-then-kinds
returns-then-kinds c = possible_present c.args.indexes.now c.args.leaf.now
    (sym (ap (λ (k : Kinds). k.presence) c.kinds.ensures) ∙ c.if-kinds.true)
