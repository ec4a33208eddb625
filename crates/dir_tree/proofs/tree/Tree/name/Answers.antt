-- What search doesn't prove of `name`: what it returns, by lemmas of `TreeReads`.
use Rattle.std.proofs.Common.{subst, sym, ap, ◌≡◌, ◌∙◌, Some, None, List}
use Rattle.std.specs.Option.{option_map}
use Rattle.dir_entry.specs.ldap_dn.Names.{RdnModel}
use Rattle.dir_tree.specs.Directory.{TreeModel, Entered, entry_at}
use Rattle.dir_tree.proofs.TreeReads.{name_read, nameless_read}
use Rattle.dir_tree.proofs.tree.Tree.name.Goals as goal

pub returns-in_ok-name : goal.returns-in_ok-name
returns-in_ok-name c =
    subst (λ (v : TreeModel). Some c.in_ok-name.field-0 ≡ option_map (λ (e : Entered). e.name)
    (entry_at c.args.number v.entries)) c.self.view_is
    (ap (λ (n : List RdnModel). Some n) c.in_ok-name.ensures ∙ name_read c.self.inside.roots c.self.invariant
    c.args.number (sym c.has_number.ensures ∙ c.if-has_number.true))

pub returns-else-has_number : goal.returns-else-has_number
returns-else-has_number c =
    subst (λ (v : TreeModel). None ≡ option_map (λ (e : Entered). e.name) (entry_at c.args.number v.entries))
    c.self.view_is (nameless_read c.self.inside.roots c.self.invariant (λ (e : Entered). e.name) c.args.number
    (sym c.has_number.ensures ∙ c.if-has_number.false))
