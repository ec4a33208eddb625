-- What search doesn't prove of `head_after`: what it returns, by lemmas of `Keys`.
use Rattle.std.proofs.Common.{sym, subst, ap, ◌∙◌, nat_lt}
use Rattle.std.specs.Prelude.{filter}
use Rattle.shared_map.specs.Sets.{numbers_in}
use Rattle.shared_map.specs.private.Ahead.{IsHead}
use Rattle.shared_map.proofs.Keys.{keys-after, head_of_run}
use Rattle.shared_map.proofs.numbers.NumberSet.head_after.Goals as goal

pub returns-in-Many : goal.returns-in-Many
returns-in-Many c =
    let whole = sym c.self.view_is ∙ ap numbers_in c.in-Many.is in
    let above = keys-after c.args.number c.in-Many.map ∙ ap (filter (nat_lt c.args.number)) (sym whole) in
    subst (λ l. IsHead l c.head_of.result.first c.head_of.result.rest.now) above
    (head_of_run _ _ c.head_of.result.first c.head_of.result.rest.now c.run_after-run.ensures c.head_of.ensures)
