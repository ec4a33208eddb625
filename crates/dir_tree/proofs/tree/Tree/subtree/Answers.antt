-- What search doesn't prove of `subtree`: what it returns, by lemmas of `TreeReads`.
use Rattle.std.proofs.Common.{ℕ, List, subst, sym, ◌≡◌, None}
use Rattle.std.specs.Option.{option_map}
use denote.Bor.{Bor}
use Rattle.dir_entry.specs.ldap_dn.Names.{rdns}
use Rattle.dir_tree.specs.Directory.{TreeModel, Entered, numbers, is_at_or_below, find}
use Rattle.dir_tree.specs.Kept.{shown}
use Rattle.dir_tree.proofs.TreeReads.{within_read, none_read, some_rises}
use Rattle.dir_tree.proofs.tree.Tree.subtree.Goals as goal

pub returns-in-Some : goal.returns-in-Some
returns-in-Some c =
    subst (λ (v : TreeModel). option_map (λ (s : Bor (List ℕ)). s.now) c.within.result ≡
    option_map (λ (e : Entered). numbers (is_at_or_below (rdns c.args.name.now)) v.entries)
    (find (rdns c.args.name.now) v.entries)) c.self.view_is
    (within_read c.self.inside.roots c.self.invariant (rdns c.args.name.now) c.in-Some.number
    (option_map (λ (s : Bor (List ℕ)). s.now) c.within.result) (sym c.in-Some.ensures) c.within.ensures.set
    (some_rises c.within.result c.within.ensures.rises))

pub returns-in-None : goal.returns-in-None
returns-in-None c =
    subst (λ (v : TreeModel). None ≡ option_map (λ (e : Entered). numbers (is_at_or_below (rdns c.args.name.now))
    v.entries) (find (rdns c.args.name.now) v.entries)) c.self.view_is
    (none_read c.self.inside.roots c.self.invariant (λ (e : Entered). numbers (is_at_or_below (rdns c.args.name.now))
    (shown c.self.inside.roots)) (rdns c.args.name.now) (sym c.in-None.ensures))
