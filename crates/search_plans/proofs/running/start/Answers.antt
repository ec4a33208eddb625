-- What search doesn't prove of `start`: the invariant and the clause `numbers`, by lemmas of `Rising` and `Started`.
use Rattle.search_plans.specs.Sets.{is_in}
use Rattle.search_plans.proofs.Rising.{drawn}
use Rattle.search_plans.proofs.Started.{started, started_numbers, same_as_plan, sure_may}
use Rattle.search_plans.proofs.running.start.Goals as goal

pub invariant_of-result : goal.invariant_of-result
invariant_of-result g c =
    let lists = g.K.PostingLists.lists c.args.kept.now in
    let scope = c.args.scope.now in
    let sided = c.args.sided.now in
    let stream = c.in_ok-drawn.drawn.stream in
    let sure = c.in_ok-drawn.drawn.known.is_sure in
    let sides = c.in_ok-sides.sides in
    rw c.expect_heads.ensures (
      started _ _ (g.V.Values.value_at c.args.values) scope stream (g.V.Values.looks c.args.values)
          c.rises.ensures c.in_ok-drawn.ensures.rising (drawn _ scope stream c.rises.ensures
          c.in_ok-drawn.ensures.rising c.in_ok-drawn.ensures.covers) c.requires.guides c.requires.room,
      c.in_ok-drawn.ensures.inside,
      same_as_plan sure lists scope stream sided.must sides.must c.in_ok-sides.ensures.must (λ known n there inside.
          c.in_ok-drawn.ensures.sure known n there),
      same_as_plan sure lists scope stream sided.may sides.may c.in_ok-sides.ensures.may
          (sure_may sure (is_in lists scope sided.must) (is_in lists scope sided.may)
          (g.V.Values.value_at c.args.values) scope stream c.requires.guides c.in_ok-drawn.ensures.sure),
    )

pub returns-clause-numbers : goal.returns-clause-numbers
returns-clause-numbers g c =
    rw c.expect_heads.ensures (started_numbers _ _ (g.V.Values.value_at c.args.values) c.args.scope.now
    c.in_ok-drawn.drawn.stream
    (drawn _ c.args.scope.now c.in_ok-drawn.drawn.stream c.rises.ensures c.in_ok-drawn.ensures.rising
    c.in_ok-drawn.ensures.covers) c.requires.guides)
