-- What search doesn't prove of `joined_by_search`: the clause `refused`, the clause `fresh` and the clause `keyed`, by
-- lemmas of `Looked`.
use Rattle.std.proofs.Common.{is_some, refl, sym, ap, ◌∙◌}
use Rattle.dir_entry.specs.ldap_schema.Rules.{equality_of}
use Rattle.entry_changes.proofs.Looked.{some_found, keyed_after}
use Rattle.entry_changes.proofs.opened.joined_by_search.Goals as goal

pub returns-then-branch-clause-refused : goal.returns-then-branch-clause-refused
returns-then-branch-clause-refused c = (
  refl,
  sym (some_found c.tests_are_items.ensures c.args.schema.now c.args.held c.args.given c.requires.kind c.requires.held
      c.requires.given c.is_by_keys-by_keys.result
      (c.is_by_keys-by_keys.ensures ∙ ap (λ t. is_some (equality_of c.args.schema.now t)) c.type_id.ensures))
      ∙ sym c.in_ok-has_some_of.ensures ∙ c.if-branch.true,
)

pub returns-clause-fresh : goal.returns-clause-fresh
returns-clause-fresh c =
    sym (some_found c.tests_are_items.ensures c.args.schema.now c.args.held c.args.given c.requires.kind
    c.requires.held c.requires.given c.is_by_keys-by_keys.result
    (c.is_by_keys-by_keys.ensures ∙ ap (λ t. is_some (equality_of c.args.schema.now t)) c.type_id.ensures))
    ∙ sym c.in_ok-has_some_of.ensures ∙ c.if-branch.false

pub returns-clause-keyed : goal.returns-clause-keyed
returns-clause-keyed c =
    keyed_after c.args.schema.now c.args.held c.args.given c.in_ok-attribute.attribute c.requires.kind c.requires.held
    c.requires.given c.in_ok-attribute.ensures.kind c.in_ok-attribute.ensures.values c.in_ok-attribute.ensures.keys
