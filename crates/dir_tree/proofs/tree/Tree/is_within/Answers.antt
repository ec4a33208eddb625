-- What search doesn't prove of `is_within`: what it returns, by lemmas of `TreeReads`.
use Rattle.std.proofs.Common.{subst, ◌≡◌, true}
use Rattle.dir_entry.specs.ldap_dn.Names.{rdns}
use Rattle.dir_tree.specs.Directory.{TreeModel, numbers, is_at_or_below}
use Rattle.dir_tree.proofs.TreeReads.{within_all_read}
use Rattle.dir_tree.proofs.tree.Tree.is_within.Goals as goal

pub returns : goal.returns
returns c = subst (λ (v : TreeModel). numbers (is_at_or_below (rdns v.suffix)) v.entries ≡ numbers (λ e. true)
    v.entries) c.self.view_is (within_all_read c.self.inside.roots c.self.invariant)
