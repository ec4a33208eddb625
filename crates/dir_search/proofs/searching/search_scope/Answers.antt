use Rattle.std.proofs.lemmas.Result.{IfOk-weaker}
use Rattle.ldap_filter.specs.View.{view as filter_view}
use Rattle.indexed_tree.specs.directory_api.ldap_msg.View.{search_view}
use Rattle.dir_search.proofs.Answered.{found_among}
use Rattle.dir_search.proofs.Evaluated.{few_at, count_at}
use Rattle.dir_search.proofs.Few.{bound_on}
use Rattle.dir_search.proofs.Scoped.{found_scope, scope_counted}
use Rattle.dir_search.proofs.searching.search_scope.Goals as goal

-- the filter is bound under the schema that the entries are keyed by
pub invariant_of-bound_search : goal.invariant_of-bound_search
invariant_of-bound_search c = record {
  bound_on = bound_on c.args.schema.now (filter_view c.args.request.now.filter) c.in_ok-bound.bound
      c.args.indexed.now.tree.entries c.requires.keyed c.in_ok-bound.ensures.value;
  base_stands = c.requires.stands;
  shown_as = c.requires.shown_as;
}

-- what is found of the numbers is what the directory's scope has
pub returns-clause-found : goal.returns-clause-found
returns-clause-found c =
    let q = search_view c.args.request.now in
    IfOk-weaker c.in_scope.result _ _
    (λ a h. found_among a c.args.schema.now q c.args.indexed.now.indexes c.in_ok-bound.bound
    c.args.indexed.now.tree.entries _ _ _
    (found_scope c.args.schema.now c.args.indexed.now.tree q c.args.base.now
    (rw c.tree.ensures at c.is_directory.ensures.rise))
    (scope_counted c.args.schema.now c.args.indexed.now.tree q.scope c.args.base.now) h)
    c.in_scope.ensures

pub returns-clause-few : goal.returns-clause-few
returns-clause-few c =
    IfOk-weaker c.in_scope.result _ _
    (λ a h. few_at c.args.schema.now c.args.indexed.now.tree (search_view c.args.request.now)
    c.args.indexed.now.indexes c.in_ok-bound.bound c.args.base.now a c.tests_are_items.ensures
    (rw c.tree.ensures at c.is_directory.ensures.rise) c.requires.keyed
    c.in_ok-bound.ensures.value c.in_ok-bound.ensures.parts h)
    c.in_scope.ensures

pub returns-clause-counted : goal.returns-clause-counted
returns-clause-counted c =
    IfOk-weaker c.in_scope.result _ _
    (λ a h. count_at c.args.schema.now c.args.indexed.now.tree (search_view c.args.request.now)
    c.args.indexed.now.indexes c.in_ok-bound.bound c.args.base.now a
    (rw c.tree.ensures at c.is_directory.ensures.rise) c.requires.keyed
    c.in_ok-bound.ensures.value c.in_ok-bound.ensures.parts h)
    c.in_scope.ensures
