-- What search doesn't prove of `left_by_search`: the clause `refused`, the clause `held`, the clause `values` and the
-- clause `keyed`, by lemmas of `Looked`.
use Rattle.std.proofs.Common.{Bool, List, map, is_some, not, refl, ap, sym, ◌∙◌}
use Rattle.std.specs.List.{list_any}
use Rattle.std.specs.Str.{bytes_eq}
use Rattle.dir_entry.specs.ldap_schema.Rules.{equality_of}
use Rattle.dir_entry.specs.Entry.{KeyedAttribute}
use Rattle.entry_changes.specs.Opening.{octets_by}
use Rattle.entry_changes.proofs.Looked.{all_found, values_found, keyed_marked}
use Rattle.entry_changes.proofs.opened.left_by_search.Goals as goal

-- of each value, whether it is none of the given ones
abbrev beside : Bool → KeyedAttribute → KeyedAttribute → List Bool
beside by held given = map (λ x. not (list_any (bytes_eq x) (octets_by by given))) (octets_by by held)

pub returns-then-not-branch-clause-refused : goal.returns-then-not-branch-clause-refused
returns-then-not-branch-clause-refused c = (
  refl,
  ap not (sym (all_found c.tests_are_items.ensures c.args.schema.now c.args.held c.args.given.now c.requires.kind
      c.requires.held c.requires.given c.is_by_keys-by_keys.result
      (c.is_by_keys-by_keys.ensures ∙ ap (λ t. is_some (equality_of c.args.schema.now t)) c.type_id.ensures))
      ∙ sym c.in_ok-has_all_of.ensures ∙ c.if-not-branch.true),
)

pub returns-clause-held : goal.returns-clause-held
returns-clause-held c =
    sym (all_found c.tests_are_items.ensures c.args.schema.now c.args.held c.args.given.now c.requires.kind
    c.requires.held c.requires.given c.is_by_keys-by_keys.result
    (c.is_by_keys-by_keys.ensures ∙ ap (λ t. is_some (equality_of c.args.schema.now t)) c.type_id.ensures))
    ∙ sym c.in_ok-has_all_of.ensures ∙ c.if-not-branch.false

pub returns-clause-values : goal.returns-clause-values
returns-clause-values c =
    values_found c.tests_are_items.ensures c.args.schema.now c.args.held c.args.given.now c.requires.kind
    c.requires.held c.requires.given c.is_by_keys-by_keys.result
    (c.is_by_keys-by_keys.ensures ∙ ap (λ t. is_some (equality_of c.args.schema.now t)) c.type_id.ensures)
    c.in_ok-attribute.attribute.values (beside c.is_by_keys-by_keys.result c.args.held c.args.given.now)
    c.in_ok-attribute.ensures.values refl

pub returns-clause-keyed : goal.returns-clause-keyed
returns-clause-keyed c =
    keyed_marked c.args.schema.now c.args.held c.in_ok-attribute.attribute
    (beside c.is_by_keys-by_keys.result c.args.held c.args.given.now) c.requires.held
    c.in_ok-attribute.ensures.kind c.in_ok-attribute.ensures.values c.in_ok-attribute.ensures.keys
