-- What search doesn't prove of `entry`: what it returns, by lemmas of `TreeReads`.
use Rattle.std.proofs.Common.{subst, ◌≡◌, ◌∙◌, List}
use Rattle.std.specs.Option.{option_map}
use denote.Bor.{Bor}
use Rattle.dir_entry.specs.Entry.{KeyedAttribute}
use Rattle.dir_tree.specs.Directory.{TreeModel, Entered, entry_at}
use Rattle.dir_tree.proofs.TreeReads.{copied_now, entry_read}
use Rattle.dir_tree.proofs.tree.Tree.entry.Goals as goal

pub returns : goal.returns
returns c =
    subst (λ (v : TreeModel). option_map (λ (e : Bor (List KeyedAttribute)). e.now) c.entry.result ≡
    option_map (λ (e : Entered). e.entry) (entry_at c.args.number v.entries)) c.self.view_is
    (copied_now c.entry.result ∙ c.entry.ensures ∙ entry_read c.self.inside.roots c.self.invariant c.args.number)
