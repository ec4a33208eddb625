-- What search doesn't prove of `find`: what it returns, by lemmas of `TreeReads`.
use Rattle.std.proofs.Common.{subst, ◌≡◌, ◌∙◌}
use Rattle.std.specs.Option.{option_map}
use Rattle.dir_entry.specs.ldap_dn.Names.{rdns}
use Rattle.dir_tree.specs.Directory.{TreeModel, Entered, find}
use Rattle.dir_tree.proofs.TreeReads.{find_read}
use Rattle.dir_tree.proofs.tree.Tree.find.Goals as goal

pub returns : goal.returns
returns c = subst (λ (v : TreeModel). c.number_of.result ≡ option_map (λ (e : Entered). e.number)
    (find (rdns c.args.name.now) v.entries)) c.self.view_is (c.number_of.ensures ∙ find_read c.self.inside.roots
    c.self.invariant (rdns c.args.name.now))
