-- What search doesn't prove of `holds_by_rule`: what it returns, by lemmas of `Held`.
use Rattle.std.proofs.Common.{ℕ, List, Ok, ap, sym, ◌∙◌}
use Rattle.std.specs.List.{list_any}
use Rattle.std.specs.Str.{bytes_eq}
use Rattle.entry_changes.proofs.Held.{held_by_key, held_by_none}
use Rattle.entry_changes.proofs.naming.holds_by_rule.Goals as goal

pub returns-in-Some : goal.returns-in-Some
returns-in-Some c =
    c.has.ensures
    ∙ ap (λ (q : List ℕ). list_any (bytes_eq q) c.args.attribute.now.keys) c.as_octets.ensures
    ∙ held_by_key c.tests_are_items.ensures c.args.schema.now c.args.attribute.now.kind c.args.rule c.args.value.now
    c.in-Some.key c.args.attribute.now.values c.args.attribute.now.keys c.requires.rule
    (c.key_or_none.ensures.some c.in-Some.key (c.in_ok-key.was ∙ ap Ok c.in-Some.is)) c.requires.keyed

pub returns-in-None : goal.returns-in-None
returns-in-None c =
    sym (held_by_none c.args.schema.now c.args.attribute.now.kind c.args.rule c.args.value.now
    c.args.attribute.now.values c.requires.rule (c.key_or_none.ensures.none (c.in_ok-key.was ∙ ap Ok c.in-None.is)))
