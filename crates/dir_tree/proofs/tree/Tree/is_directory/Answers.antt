-- What search doesn't prove of `is_directory`: what it returns, by lemmas of `TreeReads`.
use Rattle.std.proofs.Common.{subst}
use Rattle.dir_entry.specs.ldap_dn.Names.{rdns}
use Rattle.dir_tree.specs.Directory.{TreeModel, IsDirectory}
use Rattle.dir_tree.proofs.TreeReads.{directory_read}
use Rattle.dir_tree.proofs.tree.Tree.is_directory.Goals as goal

pub returns : goal.returns
returns c = subst (λ (v : TreeModel). IsDirectory (rdns v.suffix) v.entries) c.self.view_is
    (directory_read c.self.inside.roots c.self.invariant)
