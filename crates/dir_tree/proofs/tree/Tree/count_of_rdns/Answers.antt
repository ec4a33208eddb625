-- What search doesn't prove of `count_of_rdns`: what it returns, by lemmas of `TreeReads`.
use Rattle.std.proofs.Common.{subst, sym, ap, ◌≡◌, ◌∙◌, ℕ, Some, None, length}
use Rattle.std.specs.Option.{option_map}
use Rattle.dir_tree.specs.Directory.{TreeModel, Entered, entry_at}
use Rattle.dir_tree.proofs.TreeReads.{name_read_as, nameless_read}
use Rattle.dir_tree.proofs.tree.Tree.count_of_rdns.Goals as goal

pub returns-then-has_number : goal.returns-then-has_number
returns-then-has_number c =
    subst (λ (v : TreeModel). Some c.count_of_rdns.result ≡ option_map (λ (e : Entered). length e.name)
    (entry_at c.args.number v.entries)) c.self.view_is
    (ap (λ (n : ℕ). Some n) c.count_of_rdns.ensures ∙ name_read_as c.self.inside.roots c.self.invariant length
    c.args.number (sym c.has_number.ensures ∙ c.if-has_number.true))

pub returns-else-has_number : goal.returns-else-has_number
returns-else-has_number c =
    subst (λ (v : TreeModel). None ≡ option_map (λ (e : Entered). length e.name) (entry_at c.args.number v.entries))
    c.self.view_is (nameless_read c.self.inside.roots c.self.invariant (λ (e : Entered). length e.name)
    c.args.number (sym c.has_number.ensures ∙ c.if-has_number.false))
