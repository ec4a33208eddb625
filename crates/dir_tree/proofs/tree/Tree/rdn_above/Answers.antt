-- What search doesn't prove of `rdn_above`: what it returns, by lemmas of `TreeReads`.
use Rattle.std.proofs.Common.{subst, ◌≡◌, ◌∙◌, reverse, slice_get}
use Rattle.std.specs.Option.{option_and_then, option_copied}
use Rattle.dir_tree.specs.Directory.{TreeModel, Entered, entry_at}
use Rattle.dir_tree.proofs.TreeReads.{above_read}
use Rattle.dir_tree.proofs.tree.Tree.rdn_above.Goals as goal

pub returns : goal.returns
returns c =
    subst (λ (v : TreeModel). option_copied c.rdn_above.result ≡ option_and_then
    (λ (e : Entered). slice_get (reverse e.name) c.args.up) (entry_at c.args.number v.entries)) c.self.view_is
    (c.rdn_above.ensures ∙ above_read c.self.inside.roots c.self.invariant c.args.number c.args.up)
