-- In each scope the numbers are those of the definition.
use Rattle.indexed_tree.specs.directory_api.ldap_msg.ldap_requests.declared.search.Scope.TheVariants.{BaseObject, SingleLevel, WholeSubtree, SubordinateSubtree}
use Rattle.dir_search.proofs.Answered.{among_same, among_scope}
use Rattle.dir_search.proofs.Scoped.{numbers_nowhere}
use Rattle.dir_search.proofs.bound_search.BoundSearch.in_scope.Goals as goal

pub returns-in-BaseObject : goal.returns-in-BaseObject
returns-in-BaseObject c = among_scope c.entry.result c.args.self.now BaseObject c.in-BaseObject.is c.entry.ensures

pub returns-in-SingleLevel : goal.returns-in-SingleLevel
returns-in-SingleLevel c = among_scope c.level.result c.args.self.now SingleLevel c.in-SingleLevel.is c.level.ensures

pub returns-in-WholeSubtree : goal.returns-in-WholeSubtree
returns-in-WholeSubtree c = among_scope c.subtree.result c.args.self.now WholeSubtree c.in-WholeSubtree.is
    c.subtree.ensures

-- no entry is in the scope that is none
pub returns-in-SubordinateSubtree : goal.returns-in-SubordinateSubtree
returns-in-SubordinateSubtree c =
    among_scope c.nothing.result c.args.self.now SubordinateSubtree c.in-SubordinateSubtree.is
    (among_same c.nothing.result c.args.self.now _ _ (numbers_nowhere c.args.self.now.indexed.now.tree.entries)
    c.nothing.ensures)
