-- What search doesn't prove of `is_rooted`: what it returns, by lemmas of `TreeReads`.
use Rattle.std.proofs.Common.{subst, ◌≡◌, None, []}
use Rattle.dir_entry.specs.ldap_dn.Names.{rdns}
use Rattle.dir_tree.specs.Directory.{TreeModel, find}
use Rattle.dir_tree.proofs.TreeReads.{rooted_read}
use Rattle.dir_tree.proofs.tree.Tree.is_rooted.Goals as goal

pub returns : goal.returns
returns c = subst (λ (v : TreeModel). find (rdns v.suffix) v.entries ≡ None → v.entries ≡ []) c.self.view_is
    (rooted_read c.self.inside.roots c.self.invariant)
