-- What search doesn't prove of `next`: the invariant and what it returns, by lemmas of `Together`.
use Rattle.std.proofs.Common.{◌≡◌, ◌∷◌, [], List, ℕ, ◌∙◌, sym, ap}
use Rattle.search_plans.specs.Streams.{together}
use Rattle.search_plans.proofs.Together.{next_is, none_left, behind_all_rising}
use Rattle.search_plans.proofs.stream.Stream.next.Goals as goal

pub invariant_of-self : goal.invariant_of-self
invariant_of-self c = rw c.skip.ensures (behind_all_rising _ _ c.self.invariant)

pub returns-in-Some : goal.returns-in-Some
returns-in-Some c =
    let least = rw (c.deref.ensures.value, c.in-Some.is) at c.least_head.ensures in
    sym c.self.view_is ∙ next_is c.in-Some.number c.self.inside.walks.items c.self.invariant least
    ∙ ap (λ (ls : List (List ℕ)). c.in-Some.number ∷ together ls) (sym c.skip.ensures)

pub returns-in-None : goal.returns-in-None
returns-in-None c =
    let least = rw (c.deref.ensures.value, c.in-None.is) at c.least_head.ensures in
    let none : c.args.self.now ≡ [] = sym c.self.view_is ∙ none_left c.self.inside.walks.items least in
    (none, none)
