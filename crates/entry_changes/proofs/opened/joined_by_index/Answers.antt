-- What search doesn't prove of `joined_by_index`: the clause `refused`, what `extended` requires, the clause `fresh`
-- and the clause `keyed`, by lemmas of `Indexing`.
use Rattle.std.proofs.Common.{refl, sym, ◌∙◌}
use Rattle.entry_changes.proofs.Indexing.{some_held, long_given, joined_keyed}
use Rattle.entry_changes.proofs.opened.joined_by_index.Goals as goal

pub returns-then-branch-clause-refused : goal.returns-then-branch-clause-refused
returns-then-branch-clause-refused c = (
  refl,
  sym (some_held c.tests_are_items.ensures c.args.schema.now c.args.held c.args.given c.in_ok-attribute.field-0
      c.requires.kind c.requires.held c.requires.given c.in_ok-attribute.ensures)
      ∙ sym c.in_ok-holds_some_of.ensures ∙ c.if-branch.true,
)

pub extended-requires-clause-long : goal.extended-requires-clause-long
extended-requires-clause-long c = long_given c.args.schema.now c.args.held c.args.given c.in_ok-attribute.field-0
    c.requires.kind c.requires.given c.in_ok-attribute.ensures

pub returns-clause-fresh : goal.returns-clause-fresh
returns-clause-fresh c =
    sym (some_held c.tests_are_items.ensures c.args.schema.now c.args.held c.args.given c.in_ok-attribute.field-0
    c.requires.kind c.requires.held c.requires.given c.in_ok-attribute.ensures)
    ∙ sym c.in_ok-holds_some_of.ensures ∙ c.if-branch.false

pub returns-clause-keyed : goal.returns-clause-keyed
returns-clause-keyed c =
    joined_keyed c.args.schema.now c.args.held c.args.given c.in_ok-extended.field-0 c.in_ok-attribute.field-0
    c.requires.kind c.requires.held c.requires.given c.in_ok-attribute.ensures
    c.in_ok-extended.ensures.kind c.in_ok-extended.ensures.values c.in_ok-extended.ensures.octets
