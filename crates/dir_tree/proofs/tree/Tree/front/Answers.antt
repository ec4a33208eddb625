-- What search doesn't prove of `front`: what it returns, by lemmas of `TreeReads`.
use Rattle.std.proofs.Common.{subst, ◌≡◌, ◌∙◌}
use Rattle.dir_entry.specs.ldap_dn.Names.{rdns}
use Rattle.dir_tree.specs.Directory.{TreeModel, front}
use Rattle.dir_tree.proofs.TreeReads.{front_as}
use Rattle.dir_tree.proofs.tree.Tree.front.Goals as goal

pub returns : goal.returns
returns c = subst (λ (v : TreeModel). c.front.result ≡ front (rdns c.args.name.now) v.entries) c.self.view_is
    (c.front.ensures ∙ front_as c.self.inside.roots c.self.invariant c.args.name.now)
