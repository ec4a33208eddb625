-- What search doesn't prove of `deleted`: what `removed` requires, the clause `tree` and the clause `shown`, by lemmas
-- of `LevelFacts` and `Updates`.
use Rattle.dir_entry.specs.ldap_dn.Names.{rdns}
use Rattle.dir_tree.specs.declared.roots.Roots.{Roots}
use Rattle.dir_tree.proofs.LevelFacts.{if_ok}
use Rattle.dir_tree.proofs.UpdatesMade.{deleted_as, leaf_as}
use Rattle.dir_tree.proofs.roots.Roots.deleted.Goals as goal

pub removed-requires-clause-leaf : goal.removed-requires-clause-leaf
removed-requires-clause-leaf c = leaf_as c.args.self.now c.requires.tree (rdns c.args.name.now) c.args.number
    c.requires.here c.requires.leaf

pub returns-clause-tree : goal.returns-clause-tree
returns-clause-tree c = if_ok _ _ c.removed.result (λ (r : Roots) d. (deleted_as c.args.self.now r c.requires.tree
    (rdns c.args.name.now) c.args.number c.requires.here c.requires.leaf d).0) c.removed.ensures

pub returns-clause-shown : goal.returns-clause-shown
returns-clause-shown c = if_ok _ _ c.removed.result (λ (r : Roots) d. (deleted_as c.args.self.now r c.requires.tree
    (rdns c.args.name.now) c.args.number c.requires.here c.requires.leaf d).1) c.removed.ensures
