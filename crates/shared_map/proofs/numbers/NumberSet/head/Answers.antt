-- What search doesn't prove of `head`: what it returns, by lemmas of `Keys`.
use Rattle.std.proofs.Common.{sym, subst, ap, ◌∙◌}
use Rattle.shared_map.specs.Sets.{numbers_in}
use Rattle.shared_map.specs.private.Ahead.{IsHead}
use Rattle.shared_map.proofs.Keys.{head_of_run}
use Rattle.shared_map.proofs.numbers.NumberSet.head.Goals as goal

pub returns-in-Many : goal.returns-in-Many
returns-in-Many c =
    let whole = sym c.self.view_is ∙ ap numbers_in c.in-Many.is in
    subst (λ l. IsHead l c.head_of.result.first c.head_of.result.rest.now) (sym whole)
    (head_of_run _ _ c.head_of.result.first c.head_of.result.rest.now c.first_run-run.ensures c.head_of.ensures)
