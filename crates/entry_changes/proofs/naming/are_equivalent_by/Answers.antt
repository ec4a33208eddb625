-- What search doesn't prove of `are_equivalent_by`: what it returns, by lemmas of `Held`.
use Rattle.std.proofs.Common.{Ok, ap, ◌∙◌}
use Rattle.entry_changes.proofs.Held.{equivalent_keys}
use Rattle.entry_changes.proofs.naming.are_equivalent_by.Goals as goal

pub returns : goal.returns
returns c =
    c.is_same.ensures
    ∙ equivalent_keys c.tests_are_items.ensures c.args.schema.now c.args.type_id c.args.rule c.args.a.now c.args.b.now
    c.in-Some.first c.in-Some-2.second c.requires
    (c.key_or_none.ensures.some c.in-Some.first (c.in_ok-first.was ∙ ap Ok c.in-Some.is))
    (c.key_or_none-2.ensures.some c.in-Some-2.second (c.in_ok-second.was ∙ ap Ok c.in-Some-2.is))
