-- What search doesn't prove of `is_found`: the clause `must` and the clause `may`, step by step.
use Rattle.std.proofs.Common.{ℕ, Bool, ap, ◌∙◌}
use Rattle.search_plans.specs.declared.resolved.ResolvedSides.{ResolvedSides}
use Rattle.search_plans.specs.private.Resolved.{is_in_resolved}
use Rattle.search_plans.proofs.telling.is_found.Goals.{else-not-must-via-then-not-must+else-not-has_inside, else-not-must-via-else-not-must}
use Rattle.search_plans.proofs.telling.is_found.Goals as goal

pub returns-then-not-has-clause-must : goal.returns-then-not-has-clause-must
returns-then-not-has-clause-must g c =
    let by : ℕ → ResolvedSides → Bool = λ n s. is_in_resolved (g.K.PostingLists.lists c.args.criteria.now.kept.now)
    s.must n in
    elim c.else-not-must.branch [
      | else-not-must-via-then-not-must+else-not-has_inside w ↦ λ n le. ap (by n) w.sides-is
          ∙ c.has_inside-must.ensures.same n le
      | else-not-must-via-else-not-must w ↦ λ n le. ap (by n) w.sides-is ∙ c.has_inside-must.ensures.same n le
    ]

pub returns-then-not-has-clause-may : goal.returns-then-not-has-clause-may
returns-then-not-has-clause-may g c =
    let by : ℕ → ResolvedSides → Bool = λ n s. is_in_resolved (g.K.PostingLists.lists c.args.criteria.now.kept.now)
    s.may n in
    elim c.else-not-must.branch [
      | else-not-must-via-then-not-must+else-not-has_inside w ↦ λ n le. ap (by n) w.sides-is
          ∙ w.has_inside.ensures.same n le
      | else-not-must-via-else-not-must w ↦ λ n le. ap (by n) w.sides-is
    ]

pub returns-then-must-clause-must : goal.returns-then-must-clause-must
returns-then-must-clause-must g c =
    let by : ℕ → ResolvedSides → Bool = λ n s. is_in_resolved (g.K.PostingLists.lists c.args.criteria.now.kept.now)
    s.must n in
    elim c.else-not-must.branch [
      | else-not-must-via-then-not-must+else-not-has_inside w ↦ λ n le. ap (by n) w.sides-is
          ∙ c.has_inside-must.ensures.same n le
      | else-not-must-via-else-not-must w ↦ λ n le. ap (by n) w.sides-is ∙ c.has_inside-must.ensures.same n le
    ]

pub returns-clause-must : goal.returns-clause-must
returns-clause-must g c =
    let by : ℕ → ResolvedSides → Bool = λ n s. is_in_resolved (g.K.PostingLists.lists c.args.criteria.now.kept.now)
    s.must n in
    elim c.else-not-must.branch [
      | else-not-must-via-then-not-must+else-not-has_inside w ↦ λ n le. ap (by n) w.sides-is
          ∙ c.has_inside-must.ensures.same n le
      | else-not-must-via-else-not-must w ↦ λ n le. ap (by n) w.sides-is ∙ c.has_inside-must.ensures.same n le
    ]

pub returns-clause-may : goal.returns-clause-may
returns-clause-may g c =
    let by : ℕ → ResolvedSides → Bool = λ n s. is_in_resolved (g.K.PostingLists.lists c.args.criteria.now.kept.now)
    s.may n in
    elim c.else-not-must.branch [
      | else-not-must-via-then-not-must+else-not-has_inside w ↦ λ n le. ap (by n) w.sides-is
          ∙ w.has_inside.ensures.same n le
      | else-not-must-via-else-not-must w ↦ λ n le. ap (by n) w.sides-is
    ]
