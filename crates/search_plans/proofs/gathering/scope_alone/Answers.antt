-- What search doesn't prove of `scope_alone`: the clause `stream`, by lemmas of `Together`.
use Rattle.std.proofs.Common.{◌≡◌, ◌∷◌, ◌++◌, [], ◌∙◌, ap, List, ℕ}
use Rattle.search_plans.specs.Streams.{together}
use Rattle.search_plans.proofs.Together.{together_one}
use Rattle.search_plans.proofs.gathering.scope_alone.Goals as goal

pub returns-clause-stream : goal.returns-clause-stream
returns-clause-stream c =
    let is : c.push.new.self.items ≡ c.args.scope.now ∷ [] =
    c.in_ok-push.ensures.items ∙ ap (λ (ls : List (List ℕ)). ls ++ c.walk.result ∷ []) c.new-walks.ensures.items
    ∙ ap (λ (xs : List ℕ). xs ∷ []) c.walk.ensures in
    c.new.ensures ∙ ap together is ∙ together_one c.args.scope.now c.rises.ensures
