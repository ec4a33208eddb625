-- What search doesn't prove of `has_below`: what it returns, by lemmas of `TreeReads`.
use Rattle.std.proofs.Common.{ap, ◌∙◌, nat_lt}
use Rattle.dir_entry.specs.ldap_dn.Names.{rdns}
use Rattle.dir_tree.proofs.TreeReads.{below_from}
use Rattle.dir_tree.proofs.tree.Tree.has_below.Goals as goal

pub returns-in-Some : goal.returns-in-Some
returns-in-Some c = ap (nat_lt 1) c.len.ensures ∙ below_from (rdns c.args.name.now) c.args.self.now.entries
    c.in-Some.numbers.now c.is_directory.ensures.differ c.requires.here c.in-Some.ensures
