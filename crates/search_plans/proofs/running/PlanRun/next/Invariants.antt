use Rattle.std.proofs.Common.{◌≡◌, ◌+◌, length}
use Rattle.std.specs.Prelude.{filter}
use Rattle.search_plans.specs.Sets.{is_in}
use Rattle.search_plans.specs.Runs.{is_open, is_wanted}
use Rattle.search_plans.specs.private.Resolved.{is_in_resolved}
use Rattle.search_plans.specs.private.Runs.{AreInside, AreSameWithin, IsUnderWay}
use Rattle.search_plans.proofs.running.PlanRun.next.Given as goal

abbrev pub invariant-loop-number : goal.invariant-loop-number
invariant-loop-number g l =
    let must = is_in (g.K.PostingLists.lists l.self-inside.criteria.kept.now) l.self-inside.criteria.scope.now
    l.self-inside.sided.now.must in
    let may = is_in (g.K.PostingLists.lists l.self-inside.criteria.kept.now) l.self-inside.criteria.scope.now
    l.self-inside.sided.now.may in
    record {
      under_way : IsUnderWay must may (g.V.Values.value_at l.self-inside.values) l.self-inside.criteria.scope.now
          l.self-inside.stream l.self-inside.tests (g.V.Values.looks l.self-inside.values);
      inside : AreInside l.self-inside.criteria.is_inside l.self-inside.stream l.self-inside.criteria.scope.now;
      must_same : AreSameWithin (is_in_resolved (g.K.PostingLists.lists l.self-inside.criteria.kept.now)
          l.self-inside.sides.must) must l.self-inside.criteria.scope.now l.self-inside.stream;
      may_same : AreSameWithin (is_in_resolved (g.K.PostingLists.lists l.self-inside.criteria.kept.now)
          l.self-inside.sides.may) may l.self-inside.criteria.scope.now l.self-inside.stream;
      to_come : l.fn.self.to_come ≡ filter (is_wanted (g.V.Values.value_at l.self-inside.values)
          l.self-inside.criteria.scope.now) l.self-inside.stream;
      left_open : filter (is_open must may) l.self-inside.criteria.scope.now ≡ l.fn.self.open_numbers;
      counted : g.V.Values.looks l.self-inside.values + l.fn.self.tests ≡ l.fn.self.looks + l.self-inside.tests;
    }

abbrev pub decreases-loop-number : goal.decreases-loop-number
decreases-loop-number g l = length l.self-inside.stream
