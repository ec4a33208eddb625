-- What search doesn't prove of `added`: the clause `tree` and the clause `shown`, by lemmas of `LevelFacts` and
-- `Updates`.
use Rattle.std.proofs.Common.{List, ap, ◌∙◌}
use Rattle.dir_entry.specs.ldap_dn.Names.{RdnModel}
use Rattle.dir_tree.specs.declared.roots.Roots.{Roots}
use Rattle.dir_tree.proofs.LevelFacts.{if_ok}
use Rattle.dir_tree.proofs.Updates.{superior}
use Rattle.dir_tree.proofs.UpdatesMade.{added_as}
use Rattle.dir_tree.proofs.roots.Roots.added.Goals as goal

pub returns-clause-tree : goal.returns-clause-tree
returns-clause-tree c =
    if_ok _ _ c.placed.result
    (λ (r : Roots) d. (added_as c.args.self r c.requires.tree c.args.number c.args.name c.in_ok-place.place
    c.args.entry c.new-standing.result c.superior-above.result c.root_after-root.result c.in_ok-reach.reach
    c.requires.above c.requires.absent c.requires.footing
    (c.superior-above.ensures ∙ ap (λ (n : List RdnModel). superior c.args.self c.requires.tree n) c.rdns.ensures)
    c.root_after-root.ensures c.in_ok-reach.ensures c.in_ok-place.ensures c.new-standing.ensures d).0)
    c.placed.ensures

pub returns-clause-shown : goal.returns-clause-shown
returns-clause-shown c =
    if_ok _ _ c.placed.result
    (λ (r : Roots) d. (added_as c.args.self r c.requires.tree c.args.number c.args.name c.in_ok-place.place
    c.args.entry c.new-standing.result c.superior-above.result c.root_after-root.result c.in_ok-reach.reach
    c.requires.above c.requires.absent c.requires.footing
    (c.superior-above.ensures ∙ ap (λ (n : List RdnModel). superior c.args.self c.requires.tree n) c.rdns.ensures)
    c.root_after-root.ensures c.in_ok-reach.ensures c.in_ok-place.ensures c.new-standing.ensures d).1)
    c.placed.ensures
