use Rattle.std.proofs.Common.{◌∙◌, sym, ap}
use Rattle.std.specs.Prelude.{filter}
use Rattle.search_plans.specs.Sets.{is_in}
use Rattle.search_plans.specs.Runs.{is_wanted}
use Rattle.search_plans.specs.private.Resolved.{is_in_resolved}
use Rattle.search_plans.proofs.Passing.{passed_by, room_for, guided, wanted_same, filter_no, even_more, none_left, inside_first, inside_rest, same_first, same_left}
use Rattle.search_plans.proofs.running.PlanRun.next.Goals as goal

pub invariant_of-self : goal.invariant_of-self
invariant_of-self g c =
    let run = c.loop-number.self-inside in
    let sets = is_in (g.K.PostingLists.lists run.criteria.kept.now) run.criteria.scope.now in
    let resolved = is_in_resolved (g.K.PostingLists.lists run.criteria.kept.now) in (
      (passed_by (sets run.sided.now.must) (sets run.sided.now.may) (resolved run.sides.must) (resolved run.sides.may)
          (g.V.Values.value_at run.values) (g.V.Values.value_at c.is_found.new.values) run.criteria.scope.now
          run.stream c.next.new.self
          c.in-Some.number run.tests (g.V.Values.looks run.values) c.is_found.new.tests
          (g.V.Values.looks c.is_found.new.values)
          c.in-Some.ensures c.loop-number.invariant.under_way c.loop-number.invariant.must_same
          c.loop-number.invariant.may_same c.is_found.ensures.same c.is_found.ensures.tests
          c.is_found.ensures.counted).under_way,
      inside_rest run.criteria.is_inside c.in-Some.number c.next.new.self run.criteria.scope.now run.stream
          c.in-Some.ensures c.loop-number.invariant.inside,
      same_left (sets run.sided.now.must) (sets run.sided.now.may) (g.V.Values.value_at run.values)
          (resolved run.sides.must) (resolved c.is_found.new.sides.must) (sets run.sided.now.must) c.in-Some.number
          c.next.new.self run.criteria.scope.now run.stream run.tests (g.V.Values.looks run.values)
          c.in-Some.ensures c.loop-number.invariant.under_way c.is_found.ensures.must c.loop-number.invariant.must_same,
      same_left (sets run.sided.now.must) (sets run.sided.now.may) (g.V.Values.value_at run.values)
          (resolved run.sides.may) (resolved c.is_found.new.sides.may) (sets run.sided.now.may) c.in-Some.number
          c.next.new.self run.criteria.scope.now run.stream run.tests (g.V.Values.looks run.values)
          c.in-Some.ensures c.loop-number.invariant.under_way c.is_found.ensures.may c.loop-number.invariant.may_same,
    )

pub is_found-requires-clause-inside : goal.is_found-requires-clause-inside
is_found-requires-clause-inside g c =
    inside_first c.loop-number.self-inside.criteria.is_inside c.in-Some.number c.next.new.self
    c.loop-number.self-inside.criteria.scope.now c.loop-number.self-inside.stream c.in-Some.ensures
    c.loop-number.invariant.inside

pub is_found-requires-clause-guides : goal.is_found-requires-clause-guides
is_found-requires-clause-guides g c =
    let run = c.loop-number.self-inside in
    let sets = is_in (g.K.PostingLists.lists run.criteria.kept.now) run.criteria.scope.now in
    let resolved = is_in_resolved (g.K.PostingLists.lists run.criteria.kept.now) in
    guided (sets run.sided.now.must) (sets run.sided.now.may) (resolved run.sides.must) (resolved run.sides.may)
    (g.V.Values.value_at run.values) run.criteria.scope.now c.in-Some.number
    c.loop-number.invariant.under_way.guides
    (same_first (resolved run.sides.must) (sets run.sided.now.must) c.in-Some.number c.next.new.self
    run.criteria.scope.now run.stream c.in-Some.ensures c.loop-number.invariant.must_same)
    (same_first (resolved run.sides.may) (sets run.sided.now.may) c.in-Some.number c.next.new.self
    run.criteria.scope.now run.stream c.in-Some.ensures c.loop-number.invariant.may_same)

pub is_found-requires-clause-room : goal.is_found-requires-clause-room
is_found-requires-clause-room g c =
    let run = c.loop-number.self-inside in
    let sets = is_in (g.K.PostingLists.lists run.criteria.kept.now) run.criteria.scope.now in
    let resolved = is_in_resolved (g.K.PostingLists.lists run.criteria.kept.now) in
    room_for (sets run.sided.now.must) (sets run.sided.now.may) (resolved run.sides.must) (resolved run.sides.may)
    (g.V.Values.value_at run.values) run.criteria.scope.now run.stream c.next.new.self c.in-Some.number run.tests
    (g.V.Values.looks run.values)
    c.in-Some.ensures c.loop-number.invariant.under_way c.loop-number.invariant.must_same
    c.loop-number.invariant.may_same

pub returns-then-is_found-clause-asked : goal.returns-then-is_found-clause-asked
returns-then-is_found-clause-asked g c =
    let run = c.loop-number.self-inside in
    let sets = is_in (g.K.PostingLists.lists run.criteria.kept.now) run.criteria.scope.now in
    let resolved = is_in_resolved (g.K.PostingLists.lists run.criteria.kept.now) in
    (passed_by (sets run.sided.now.must) (sets run.sided.now.may) (resolved run.sides.must) (resolved run.sides.may)
    (g.V.Values.value_at run.values) (g.V.Values.value_at c.is_found.new.values) run.criteria.scope.now run.stream
    c.next.new.self
    c.in-Some.number run.tests (g.V.Values.looks run.values) c.is_found.new.tests
    (g.V.Values.looks c.is_found.new.values)
    c.in-Some.ensures c.loop-number.invariant.under_way c.loop-number.invariant.must_same
    c.loop-number.invariant.may_same c.is_found.ensures.same c.is_found.ensures.tests
    c.is_found.ensures.counted).asked

-- no candidate is left
pub returns-clause-asked : goal.returns-clause-asked
returns-clause-asked g c = none_left _ _ _ _ _ _ _ c.loop-number.invariant.under_way c.in_default.ensures.0

pub loop-number-preserved : goal.loop-number-preserved
loop-number-preserved g c =
    let run = c.loop-number.self-inside in
    let sets = is_in (g.K.PostingLists.lists run.criteria.kept.now) run.criteria.scope.now in
    let resolved = is_in_resolved (g.K.PostingLists.lists run.criteria.kept.now) in
    record {
      under_way = (passed_by (sets run.sided.now.must) (sets run.sided.now.may) (resolved run.sides.must)
          (resolved run.sides.may) (g.V.Values.value_at run.values) (g.V.Values.value_at c.is_found.new.values)
          run.criteria.scope.now run.stream c.next.new.self
          c.in-Some.number run.tests (g.V.Values.looks run.values) c.is_found.new.tests
          (g.V.Values.looks c.is_found.new.values)
          c.in-Some.ensures c.loop-number.invariant.under_way c.loop-number.invariant.must_same
          c.loop-number.invariant.may_same c.is_found.ensures.same c.is_found.ensures.tests
          c.is_found.ensures.counted).under_way;
      inside = inside_rest run.criteria.is_inside c.in-Some.number c.next.new.self run.criteria.scope.now run.stream
          c.in-Some.ensures c.loop-number.invariant.inside;
      must_same = same_left (sets run.sided.now.must) (sets run.sided.now.may) (g.V.Values.value_at run.values)
          (resolved run.sides.must) (resolved c.is_found.new.sides.must) (sets run.sided.now.must) c.in-Some.number
          c.next.new.self run.criteria.scope.now run.stream run.tests (g.V.Values.looks run.values)
          c.in-Some.ensures c.loop-number.invariant.under_way c.is_found.ensures.must c.loop-number.invariant.must_same;
      may_same = same_left (sets run.sided.now.must) (sets run.sided.now.may) (g.V.Values.value_at run.values)
          (resolved run.sides.may) (resolved c.is_found.new.sides.may) (sets run.sided.now.may) c.in-Some.number
          c.next.new.self run.criteria.scope.now run.stream run.tests (g.V.Values.looks run.values)
          c.in-Some.ensures c.loop-number.invariant.under_way c.is_found.ensures.may c.loop-number.invariant.may_same;
      to_come =
          c.loop-number.invariant.to_come
          ∙ ap (filter (is_wanted (g.V.Values.value_at run.values) run.criteria.scope.now)) c.in-Some.ensures
          ∙ filter_no (is_wanted (g.V.Values.value_at run.values) run.criteria.scope.now) c.in-Some.number
          c.next.new.self (sym c.is_found.ensures.found ∙ c.if-is_found.false)
          ∙ sym (wanted_same (g.V.Values.value_at run.values) (g.V.Values.value_at c.is_found.new.values)
          run.criteria.scope.now c.next.new.self c.is_found.ensures.same);
      left_open = c.loop-number.invariant.left_open;
      counted = even_more (g.V.Values.looks run.values) c.args.self.now.tests c.args.self.now.looks run.tests
          (g.V.Values.looks c.is_found.new.values) c.is_found.new.tests _ c.loop-number.invariant.counted
          c.is_found.ensures.counted c.is_found.ensures.tests;
    }
