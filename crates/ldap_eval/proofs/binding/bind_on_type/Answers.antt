-- What search doesn't prove of `bind_on_type`: the clause `value` and the clause `parts`, by lemmas of `Items` and
-- `Made`.
use Rattle.std.proofs.Common.{sym, ◌∙◌}
use Rattle.ldap_eval.specs.private.Asked.{item_of}
use Rattle.ldap_eval.proofs.Items.{leaves_item, unanswered_item}
use Rattle.ldap_eval.proofs.Made.{leaves_on, unanswered_on}
use Rattle.ldap_eval.proofs.binding.bind_on_type.Goals as goal

pub returns-clause-value : goal.returns-clause-value
returns-clause-value c = λ lt n e k.
    leaves_item c.args.schema.now (item_of c.args.asked) c.args.type_id c.in_ok-leaves.field-0
    c.tests_are_items.ensures lt (sym c.in_ok-is_answerable.ensures ∙ c.if-not-branch.false) c.in_ok-leaves.ensures n
    e k

pub returns-clause-parts : goal.returns-clause-parts
returns-clause-parts c =
    leaves_on c.args.schema.now (item_of c.args.asked) c.args.type_id c.in_ok-leaves.field-0
    (sym c.in_ok-is_answerable.ensures ∙ c.if-not-branch.false) c.in_ok-leaves.ensures

pub returns-then-not-branch-clause-value : goal.returns-then-not-branch-clause-value
returns-then-not-branch-clause-value c = λ lt n e k.
    unanswered_item c.args.schema.now (item_of c.args.asked) c.args.type_id (sym c.in_ok-is_answerable.ensures
    ∙ c.if-not-branch.true) n e

pub returns-then-not-branch-clause-parts : goal.returns-then-not-branch-clause-parts
returns-then-not-branch-clause-parts c =
    unanswered_on c.args.schema.now (item_of c.args.asked) c.args.type_id (sym c.in_ok-is_answerable.ensures
    ∙ c.if-not-branch.true)
