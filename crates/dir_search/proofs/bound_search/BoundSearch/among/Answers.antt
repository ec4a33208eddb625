use Rattle.std.proofs.Common.{subst, sym, List, ℕ}
use Rattle.std.specs.Prelude.{IfOk}
use Rattle.std.proofs.lemmas.Result.{IfOk-weaker}
use Rattle.indexed_tree.specs.directory_api.ldap_msg.View.{search_view}
use Rattle.indexed_tree.specs.Listed.{lists_of}
use Rattle.search_plans.specs.Sets.{is_in}
use Rattle.search_plans.specs.Runs.{is_open}
use Rattle.dir_search.specs.private.Looks.{AreHere}
use Rattle.dir_search.specs.private.View.{FindsAmong}
use Rattle.dir_search.proofs.Few.{among as found_among, true_here}
use Rattle.dir_search.proofs.bound_search.BoundSearch.among.Goals as goal

pub start-requires-clause-guides : goal.start-requires-clause-guides
start-requires-clause-guides c = rw (c.visit.ensures, c.tree-tree.ensures, c.of_set-scope.ensures)
    (c.in_ok-sided.ensures.guides c.args.numbers.now c.requires)

pub show_found-requires : goal.show_found-requires
show_found-requires c = record {
  here =
      subst (λ (l : List ℕ). AreHere c.tree-tree.result.now.entries l) (sym c.in_ok-running.ensures.numbers)
      (rw c.visit.ensures (true_here c.args.self.now.bound.now c.tree-tree.result.now.entries c.of_set-scope.result));
  shown_as = c.args.self.now.shown_as;
}

-- what is shown of the numbers that a run of the plans gives
pub returns : goal.returns
returns c =
    let s = c.args.self.now.schema.now in
    let q = search_view c.args.self.now.request.now in
    let b = c.args.self.now.bound.now in
    let ix = c.args.self.now.indexed.now.indexes in
    let d = c.args.self.now.indexed.now.tree.entries in
    let ks = c.args.numbers.now in
    let lists = lists_of c.args.self.now.indexed.now in
    let sided = c.in_ok-sided.sided in
    let shown = rw (
      c.in_ok-running.ensures.numbers,
      c.in_ok-running.ensures.undecided,
      c.of_set-scope.ensures,
      c.visit.ensures,
      c.tree-tree.ensures,
    ) at c.show_found.ensures in
    let found : IfOk c.show_found.result (λ a. FindsAmong a s q ix b d ks) =
    IfOk-weaker c.show_found.result _ _
    (λ a h. found_among a s q ix b d ks (is_open (is_in lists ks sided.must) (is_in lists ks sided.may)) sided.must
    sided.may
    c.args.self.now.bound_on (c.in_ok-sided.ensures.few ks c.requires) c.in_ok-sided.ensures.plans
    (c.in_ok-sided.ensures.told ks c.requires) h)
    shown in
    found
