-- What search doesn't prove of `indexed_again`: what `newly_indexed` requires and what it returns, step by step.
use Rattle.std.proofs.Common.{length, ap, sym, subst, ◌∙◌}
use Rattle.std.proofs.lemmas.Result.{IfOk-weaker}
use Rattle.dir_entry.specs.Entry.{KeyedAttribute}
use Rattle.entry_changes.specs.Opening.{octets_by}
use Rattle.entry_changes.specs.private.Opening.{IsIndexed}
use Rattle.entry_changes.proofs.opened.indexed_again.Goals as goal

pub newly_indexed-requires : goal.newly_indexed-requires
newly_indexed-requires c =
    ap (λ (a : KeyedAttribute). length (octets_by c.args.by_keys a)) c.in_ok-attribute.ensures ∙ c.requires.long
    ∙ ap (λ (a : KeyedAttribute). length a.values) (sym c.in_ok-attribute.ensures)

pub returns : goal.returns
returns c = IfOk-weaker c.newly_indexed.result _ _ (λ x h. subst (λ (a : KeyedAttribute). IsIndexed c.args.by_keys a
    x) c.in_ok-attribute.ensures h) c.newly_indexed.ensures
