-- What search doesn't prove of `are_allowed`: what it returns, by lemmas of `Shown`.
use Rattle.std.proofs.Common.{sym, ◌∙◌}
use Rattle.entry_updates.proofs.Shown.{allowed_shown}
use Rattle.entry_updates.proofs.obeying.are_allowed.Goals as goal

pub returns : goal.returns
returns c = c.are_of_allowed_types.ensures ∙ sym (allowed_shown c.args.schema.now c.args.classes.now
    c.args.attributes.now)
