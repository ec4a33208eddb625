-- What search doesn't prove of `rdns_from_leaf`: what it returns, by lemmas of `TreeReads`.
use Rattle.std.proofs.Common.{subst, sym, ap, ◌≡◌, ◌∙◌, Some, None, List, map, reverse}
use Rattle.std.specs.Option.{option_map}
use denote.Bor.{Bor}
use Rattle.dir_entry.specs.ldap_dn.Names.{RdnModel}
use Rattle.dir_tree.specs.Directory.{TreeModel, Entered, entry_at}
use Rattle.dir_tree.proofs.TreeReads.{name_read_as, nameless_read}
use Rattle.dir_tree.proofs.tree.Tree.rdns_from_leaf.Goals as goal

pub returns-in_ok-rdns_from_leaf : goal.returns-in_ok-rdns_from_leaf
returns-in_ok-rdns_from_leaf c =
    subst (λ (v : TreeModel). Some (map (λ (r : Bor RdnModel). r.now) c.in_ok-rdns_from_leaf.field-0.items) ≡
    option_map (λ (e : Entered). reverse e.name) (entry_at c.args.number v.entries)) c.self.view_is
    (ap (λ (n : List RdnModel). Some n) c.in_ok-rdns_from_leaf.ensures ∙ name_read_as c.self.inside.roots
    c.self.invariant reverse c.args.number (sym c.has_number.ensures ∙ c.if-has_number.true))

pub returns-else-has_number : goal.returns-else-has_number
returns-else-has_number c =
    subst (λ (v : TreeModel). None ≡ option_map (λ (e : Entered). reverse e.name) (entry_at c.args.number v.entries))
    c.self.view_is (nameless_read c.self.inside.roots c.self.invariant (λ (e : Entered). reverse e.name)
    c.args.number (sym c.has_number.ensures ∙ c.if-has_number.false))
