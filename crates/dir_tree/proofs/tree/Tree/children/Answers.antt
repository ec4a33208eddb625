-- What search doesn't prove of `children`: what it returns, by lemmas of `TreeReads`.
use Rattle.std.proofs.Common.{subst, sym, ◌≡◌, Some, None}
use Rattle.std.specs.Option.{option_map}
use Rattle.dir_entry.specs.ldap_dn.Names.{rdns}
use Rattle.dir_tree.specs.Directory.{TreeModel, Entered, numbers, is_right_under, find}
use Rattle.dir_tree.specs.Kept.{shown}
use Rattle.dir_tree.proofs.TreeReads.{children_read, none_read}
use Rattle.dir_tree.proofs.tree.Tree.children.Goals as goal

pub returns-in-Some : goal.returns-in-Some
returns-in-Some c =
    subst (λ (v : TreeModel). Some c.children.result.now ≡
    option_map (λ (e : Entered). numbers (is_right_under (rdns c.args.name.now)) v.entries)
    (find (rdns c.args.name.now) v.entries)) c.self.view_is
    (children_read c.self.inside.roots c.self.invariant (rdns c.args.name.now) c.in-Some.number c.children.result.now
    (sym c.in-Some.ensures) c.children.ensures.set c.children.ensures.rises)

pub returns-in-None : goal.returns-in-None
returns-in-None c =
    subst (λ (v : TreeModel). None ≡ option_map (λ (e : Entered). numbers (is_right_under (rdns c.args.name.now))
    v.entries) (find (rdns c.args.name.now) v.entries)) c.self.view_is
    (none_read c.self.inside.roots c.self.invariant (λ (e : Entered). numbers (is_right_under (rdns c.args.name.now))
    (shown c.self.inside.roots)) (rdns c.args.name.now) (sym c.in-None.ensures))
