-- What search doesn't prove of `mark_changed_keys`: the clause `apart`, by lemmas of `Changed`.
use Rattle.std.proofs.Common.{sym, ◌∙◌}
use Rattle.dir_index.proofs.Changed.{no_keys}
use Rattle.dir_index.proofs.apart.mark_changed_keys.Goals as goal

pub returns-then-not-lists_keys-clause-apart : goal.returns-then-not-lists_keys-clause-apart
returns-then-not-lists_keys-clause-apart c = λ p h.
    let none = sym c.lists_keys.ensures ∙ c.if-not-lists_keys.true in
    no_keys c.args.kinds c.args.type_id p c.args.before.now.keys none
    ∙ sym (no_keys c.args.kinds c.args.type_id p c.args.after.now.keys none)
