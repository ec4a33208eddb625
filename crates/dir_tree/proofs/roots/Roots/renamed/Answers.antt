-- What search doesn't prove of `renamed`: the clause `tree` and the clause `shown`, by lemmas of `LevelFacts` and
-- `Updates`.
use Rattle.std.proofs.Common.{List, ℕ, ap, ◌∙◌, ◌+◌}
use Rattle.dir_entry.specs.ldap_dn.Names.{RdnModel, rdns}
use Rattle.dir_tree.specs.Directory.{above}
use Rattle.dir_tree.specs.declared.roots.Roots.{Roots}
use Rattle.dir_tree.specs.private.Superiors.{number_at, step_at}
use Rattle.dir_tree.proofs.LevelFacts.{if_ok}
use Rattle.dir_tree.proofs.UpdatesMade.{renamed_as}
use Rattle.dir_tree.proofs.roots.Roots.renamed.Goals as goal

pub returns-clause-tree : goal.returns-clause-tree
returns-clause-tree c =
    if_ok _ _ c.placed.result
    (λ (r : Roots) d. (renamed_as c.args.self r c.requires.tree c.args.number (rdns c.args.name.now)
    c.args.new_name c.in_ok-place.place c.args.new_entry c.new-standing.result c.number_over-above.result
    c.in_ok-longer.field-0 c.in_ok-reach.reach c.requires.here c.requires.root c.requires.parent c.requires.apart
    c.requires.free
    (c.number_over-above.ensures ∙ ap (λ (n : List RdnModel). number_at (step_at c.args.self.levels)
    (rdns c.args.self.suffix) c.args.self.root (above (rdns n))) c.rdns.ensures) c.in_ok-longer.ensures
    (c.in_ok-reach.ensures ∙ ap (λ (m : ℕ). c.in_ok-longer.field-0 + m) c.len.ensures) c.in_ok-place.ensures
    c.new-standing.ensures d).0)
    c.placed.ensures

pub returns-clause-shown : goal.returns-clause-shown
returns-clause-shown c =
    if_ok _ _ c.placed.result
    (λ (r : Roots) d. (renamed_as c.args.self r c.requires.tree c.args.number (rdns c.args.name.now)
    c.args.new_name c.in_ok-place.place c.args.new_entry c.new-standing.result c.number_over-above.result
    c.in_ok-longer.field-0 c.in_ok-reach.reach c.requires.here c.requires.root c.requires.parent c.requires.apart
    c.requires.free
    (c.number_over-above.ensures ∙ ap (λ (n : List RdnModel). number_at (step_at c.args.self.levels)
    (rdns c.args.self.suffix) c.args.self.root (above (rdns n))) c.rdns.ensures) c.in_ok-longer.ensures
    (c.in_ok-reach.ensures ∙ ap (λ (m : ℕ). c.in_ok-longer.field-0 + m) c.len.ensures) c.in_ok-place.ensures
    c.new-standing.ensures d).1)
    c.placed.ensures
