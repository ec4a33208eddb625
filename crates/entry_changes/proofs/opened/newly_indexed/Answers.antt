-- What search doesn't prove of `newly_indexed`: what it returns, by lemmas of `Indexing`.
use Rattle.std.proofs.Common.{refl}
use Rattle.entry_changes.proofs.Indexing.{new_index}
use Rattle.entry_changes.proofs.opened.newly_indexed.Goals as goal

pub returns : goal.returns
returns c = new_index c.args.by_keys c.args.attribute
    (record { attribute = c.args.attribute; index = c.in_ok-index.index }) c.requires refl
    c.in_ok-index.ensures.by_keys c.in_ok-index.ensures.held
