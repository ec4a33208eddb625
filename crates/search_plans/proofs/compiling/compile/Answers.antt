-- What search doesn't prove of `compile`: the clause `sets`, the clause `guides`, the clause `entries`, the clause
-- `runs` and others, by lemmas of `Rows`, `Whole` and `Planned`.
use Rattle.std.proofs.Common.{◌≡◌, Vec, Global, refl, sym, subst, ◌∙◌}
use Rattle.ldap_eval.specs.ldap_match.declared.truth.Truth.TheVariants.{True}
use Rattle.ldap_eval.specs.Bound.{bound_value}
use Rattle.ldap_eval.specs.declared.bound.BoundFilter.{BoundFilter}
use Rattle.ldap_eval.specs.declared.bound.BoundFilter.TheVariants as bound
use Rattle.search_plans.specs.Bounds.{is_decided, DecidedAreTrue}
use Rattle.search_plans.proofs.Rows.{if_ok_weaker}
use Rattle.search_plans.proofs.Whole.{side_of_and_true, parts_of_every, bounds_sets, bounds_guide, and_parts_same}
use Rattle.search_plans.proofs.Planned.{planned}
use Rattle.search_plans.proofs.compiling.compile.Goals as goal

pub returns-in-And-clause-sets : goal.returns-in-And-clause-sets
returns-in-And-clause-sets c =
    let found = rw c.deref.ensures.value at c.every.ensures in
    if_ok_weaker _ _
    (λ s h n. bounds_sets c.args.indexes.now (λ e. bound_value n e c.args.filter.now) True
    (is_decided c.args.indexes.now c.args.filter.now) s.must s.may c.sets_are_of_entries.ensures
    ((side_of_and_true c.args.indexes.now _ c.args.filter.now c.in-And.filters s.must s.may c.in-And.is refl h).bounds
    n))
    c.every.result found

pub returns-in-And-clause-guides : goal.returns-in-And-clause-guides
returns-in-And-clause-guides c =
    let found = rw c.deref.ensures.value at c.every.ensures in
    if_ok_weaker _ _
    (λ s h n. bounds_guide c.args.indexes.now (λ e. bound_value n e c.args.filter.now) (is_decided c.args.indexes.now
    c.args.filter.now) s.must s.may c.sets_are_of_entries.ensures
    ((side_of_and_true c.args.indexes.now _ c.args.filter.now c.in-And.filters s.must s.may c.in-And.is refl h).bounds
    n))
    c.every.result found

pub returns-in-And-clause-entries : goal.returns-in-And-clause-entries
returns-in-And-clause-entries c =
    let found = rw c.deref.ensures.value at c.every.ensures in
    if_ok_weaker _ _ (λ s h. (side_of_and_true c.args.indexes.now _ c.args.filter.now c.in-And.filters s.must s.may
    c.in-And.is refl h).bounds) c.every.result found

pub returns-in-And-clause-runs : goal.returns-in-And-clause-runs
returns-in-And-clause-runs c =
    let found = rw c.deref.ensures.value at c.every.ensures in
    if_ok_weaker _ _ (λ s h. (side_of_and_true c.args.indexes.now _ c.args.filter.now c.in-And.filters s.must s.may
    c.in-And.is refl h).runs refl) c.every.result found

pub returns-in-And-clause-parts : goal.returns-in-And-clause-parts
returns-in-And-clause-parts c =
    let found = rw c.deref.ensures.value at c.every.ensures in
    if_ok_weaker _ _
    (λ s h v is n e k.
    let both : bound.And c.in-And.filters ≡ bound.And v = sym c.in-And.is ∙ is in
    let same : c.in-And.filters ≡ v = and_parts_same c.in-And.filters v both in
    subst (λ (w : Vec BoundFilter Global). DecidedAreTrue c.args.indexes.now n e w.items) same
    (parts_of_every c.args.indexes.now c.in-And.filters.items s.must s.may h n e k))
    c.every.result found

pub returns-in-And-clause-filters : goal.returns-in-And-clause-filters
returns-in-And-clause-filters c =
    let found = rw c.deref.ensures.value at c.every.ensures in
    if_ok_weaker _ _
    (λ s h m t stands made. planned c.sets_are_of_entries.ensures c.tests_are_items.ensures m c.args.indexes.now t
    c.args.filter.now s.must s.may
    (side_of_and_true c.args.indexes.now _ c.args.filter.now c.in-And.filters s.must s.may c.in-And.is refl h)
    (λ v is n e k.
    let both : bound.And c.in-And.filters ≡ bound.And v = sym c.in-And.is ∙ is in
    let same : c.in-And.filters ≡ v = and_parts_same c.in-And.filters v both in
    subst (λ (w : Vec BoundFilter Global). DecidedAreTrue c.args.indexes.now n e w.items) same
    (parts_of_every c.args.indexes.now c.in-And.filters.items s.must s.may h n e k))
    stands made)
    c.every.result found

pub returns-in_default : goal.returns-in_default
returns-in_default c = record {
  sets = if_ok_weaker _ _
      (λ s h n. bounds_sets c.args.indexes.now (λ e. bound_value n e c.args.filter.now) True
      (is_decided c.args.indexes.now c.args.filter.now) s.must s.may c.sets_are_of_entries.ensures (h.bounds n))
      c.side.result c.side.ensures;
  guides = if_ok_weaker _ _
      (λ s h n. bounds_guide c.args.indexes.now (λ e. bound_value n e c.args.filter.now)
      (is_decided c.args.indexes.now c.args.filter.now) s.must s.may c.sets_are_of_entries.ensures (h.bounds n))
      c.side.result c.side.ensures;
  entries = if_ok_weaker _ _ (λ s h. h.bounds) c.side.result c.side.ensures;
  parts = if_ok_weaker _ _ (λ s h v is n e k. absurd (c.in_default.not-And v is)) c.side.result c.side.ensures;
  runs = if_ok_weaker _ _ (λ s h. h.runs refl) c.side.result c.side.ensures;
  filters = if_ok_weaker _ _ (λ s h m t stands made. planned c.sets_are_of_entries.ensures c.tests_are_items.ensures m
      c.args.indexes.now t c.args.filter.now s.must s.may h (λ v is n e k. absurd (c.in_default.not-And v is)) stands
      made) c.side.result c.side.ensures;
}
