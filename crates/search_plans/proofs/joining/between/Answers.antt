-- What search doesn't prove of `between`: what it returns, by lemmas of `Joined`.
use Rattle.std.proofs.Common.{ap, ap₂, ◌∙◌, ◌++◌, ◌∷◌, [], List, Option, ℕ}
use Rattle.dir_index.specs.declared.posting.Posting.TheVariants as posting
use Rattle.search_plans.specs.declared.plan.Plan.{Plan}
use Rattle.search_plans.specs.declared.plan.Plan.TheVariants as plan
use Rattle.search_plans.proofs.Joined.{between_is}
use Rattle.search_plans.proofs.joining.between.Goals as goal

pub returns : goal.returns
returns c = λ ix e.
    let t = c.args.lower.now.type_id in
    let several = plan.Posting (posting.Several t) in
    let range : Option (List ℕ) → Option (List ℕ) →
    Plan = λ f u. plan.Range (record { type_id = t; from = f; upto = u }) in
    between_is ix e c.args.lower.now c.args.upper.now c.push-2.new.self
    (c.in_ok-push-2.ensures.items
    ∙ ap (λ (ps : List Plan). ps ++ several ∷ []) (c.in_ok-push.ensures.items
    ∙ ap (λ (ps : List Plan). ps ++ range c.in_ok-from.from c.in_ok-upto.upto ∷ []) c.new-parts.ensures.items)
    ∙ ap₂ (λ (f u : Option (List ℕ)). range f u ∷ several ∷ []) c.in_ok-from.ensures c.in_ok-upto.ensures)
