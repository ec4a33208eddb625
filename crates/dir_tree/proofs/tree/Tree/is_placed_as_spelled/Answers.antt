-- What search doesn't prove of `is_placed_as_spelled`: what it returns, by lemmas of `TreeReads`.
use Rattle.std.proofs.Common.{subst}
use Rattle.dir_entry.specs.ldap_dn.Names.{rdns}
use Rattle.dir_tree.specs.Directory.{TreeModel}
use Rattle.dir_tree.specs.Placed.{IsPlacedAsSpelled}
use Rattle.dir_tree.proofs.TreeReads.{placed_read}
use Rattle.dir_tree.proofs.tree.Tree.is_placed_as_spelled.Goals as goal

pub returns : goal.returns
returns c = subst (λ (v : TreeModel). IsPlacedAsSpelled (rdns v.suffix) v.entries) c.self.view_is
    (placed_read c.self.inside.roots c.self.invariant)
