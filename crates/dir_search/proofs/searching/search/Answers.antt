-- What search doesn't prove of `search`: the clause `few` and the clause `counted`, by lemmas of `Answered`.
use Rattle.std.proofs.Common.{ap}
use Rattle.indexed_tree.specs.ldap_dn.Texts.{name_of_text}
use Rattle.indexed_tree.specs.directory_api.ldap_msg.View.{search_view}
use Rattle.dir_search.specs.Answer.{is_subordinate}
use Rattle.dir_search.proofs.Answered.{no_scope, no_scope_counted}
use Rattle.dir_search.proofs.searching.search.Goals as goal

pub returns-in-SubordinateSubtree-clause-few : goal.returns-in-SubordinateSubtree-clause-few
returns-in-SubordinateSubtree-clause-few c =
    let q = search_view c.args.request.now in
    no_scope c.args.store.now q (name_of_text c.args.store.now.directory.schema q.base) c.refused_with.result.tests
    (ap is_subordinate c.in-SubordinateSubtree.is)

pub returns-in-SubordinateSubtree-clause-counted : goal.returns-in-SubordinateSubtree-clause-counted
returns-in-SubordinateSubtree-clause-counted c =
    let q = search_view c.args.request.now in
    no_scope_counted c.args.store.now q (name_of_text c.args.store.now.directory.schema q.base)
    c.refused_with.result.tests (ap is_subordinate c.in-SubordinateSubtree.is)
