-- What search doesn't prove of `skip`: `loop-walk-preserved`, by lemmas of `StreamSteps`.
use Rattle.std.proofs.Common.{ap, sym, ◌∙◌, length, List, ℕ, arith, ◌≡◌}
use Rattle.search_plans.specs.private.Streams.{behind}
use Rattle.search_plans.proofs.StreamSteps.{skip_step}
use Rattle.search_plans.proofs.stream.skip.Goals as goal

pub loop-walk-preserved : goal.loop-walk-preserved
loop-walk-preserved c =
    let same : length c.loop-walk.walk-items ≡ length c.args.walks.now.items = c.loop-walk.auto.walk-items
    ∙ ap (λ (xs : List (List ℕ)). length xs) c.deref_mut-walk-items.ensures.value in
    skip_step c.args.number c.args.walks.now.items c.loop-walk.walk-items c.loop-walk.walk-index c.walk-item.result
    c.pass.new.self (omega arith) same c.loop-walk.invariant c.walk-item.is (c.pass.ensures
    ∙ ap (behind c.args.number) (sym c.walk-item.is))
