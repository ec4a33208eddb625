-- What search doesn't prove of `is_single`: what it returns, by lemmas of `TreeReads`.
use Rattle.std.proofs.Common.{subst, ◌≡◌}
use Rattle.dir_entry.specs.ldap_dn.Names.{rdns}
use Rattle.dir_tree.specs.Directory.{NameKey, TreeModel, numbers, name_eq, number_found, find}
use Rattle.dir_tree.proofs.TreeReads.{single_read}
use Rattle.dir_tree.proofs.tree.Tree.is_single.Goals as goal

pub returns : goal.returns
returns c = subst (λ (v : TreeModel). (q : NameKey) → numbers (λ e. name_eq q (rdns e.name)) v.entries ≡ number_found
    (find q v.entries)) c.self.view_is (single_read c.self.inside.roots c.self.invariant)
