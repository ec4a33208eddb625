use Rattle.std.proofs.Common.{sym, ◌∙◌}
use Rattle.indexed_tree.specs.ldap_dn.Names.{rdns}
use Rattle.dir_search.proofs.Answered.{among_same}
use Rattle.dir_search.proofs.Scoped.{level_root, stands_found}
use Rattle.dir_search.proofs.bound_search.BoundSearch.level.Goals as goal

-- right under the empty name stands the root
pub returns-then-is_unnamed : goal.returns-then-is_unnamed
returns-then-is_unnamed c =
    let b = c.args.self.now in
    among_same c.root.result b _ _ (level_root (rdns b.indexed.now.tree.suffix) b.base.now b.indexed.now.tree.entries
    (sym c.is_unnamed.ensures ∙ c.if-is_unnamed.true)) c.root.ensures

-- another base is an entry's name
pub numbers_right_under-numbers-requires-clause-here : goal.numbers_right_under-numbers-requires-clause-here
numbers_right_under-numbers-requires-clause-here c =
    let b = c.args.self.now in
    rw c.tree.ensures (stands_found b.schema.now b.indexed.now.tree b.base.now b.base_stands (sym c.is_unnamed.ensures
    ∙ c.if-is_unnamed.false))
