-- What search doesn't prove of `left_by_index`: the clause `refused`, the clause `values`, the clause `keyed` and the
-- clause `held`, by lemmas of `Indexing`.
use Rattle.std.proofs.Common.{not, refl, ap, sym, ◌∙◌}
use Rattle.entry_changes.proofs.Indexing.{all_held, left_values, left_keyed}
use Rattle.entry_changes.proofs.opened.left_by_index.Goals as goal

pub returns-then-not-branch-clause-refused : goal.returns-then-not-branch-clause-refused
returns-then-not-branch-clause-refused c = (
  refl,
  ap not (sym (all_held c.tests_are_items.ensures c.args.schema.now c.args.held c.args.given.now
      c.in_ok-attribute.field-0 c.requires.kind c.requires.held c.requires.given c.in_ok-attribute.ensures)
      ∙ sym c.in_ok-holds_all_of.ensures ∙ c.if-not-branch.true),
)

pub returns-clause-values : goal.returns-clause-values
returns-clause-values c =
    left_values c.tests_are_items.ensures c.args.schema.now c.args.held c.args.given.now c.in_ok-attribute.field-0
    c.in_ok-lessened.field-0.values c.requires.kind c.requires.held c.requires.given c.in_ok-attribute.ensures
    c.in_ok-lessened.ensures.values

pub returns-clause-keyed : goal.returns-clause-keyed
returns-clause-keyed c =
    left_keyed c.args.schema.now c.args.held c.args.given.now c.in_ok-lessened.field-0 c.in_ok-attribute.field-0
    c.requires.held c.in_ok-attribute.ensures
    c.in_ok-lessened.ensures.kind c.in_ok-lessened.ensures.values c.in_ok-lessened.ensures.octets

pub returns-clause-held : goal.returns-clause-held
returns-clause-held c =
    sym (all_held c.tests_are_items.ensures c.args.schema.now c.args.held c.args.given.now c.in_ok-attribute.field-0
    c.requires.kind c.requires.held c.requires.given c.in_ok-attribute.ensures)
    ∙ sym c.in_ok-holds_all_of.ensures ∙ c.if-not-branch.false
