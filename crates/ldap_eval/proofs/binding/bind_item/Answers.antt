-- What search doesn't prove of `bind_item`: the clause `value` and the clause `parts`, by lemmas of `Items` and `Made`.
use Rattle.std.proofs.Common.{sym, ◌∙◌}
use Rattle.std.proofs.lemmas.Result.{IfOk-weaker}
use Rattle.ldap_eval.specs.private.Asked.{item_of}
use Rattle.ldap_eval.proofs.Items.{item_bound}
use Rattle.ldap_eval.proofs.Made.{item_for}
use Rattle.ldap_eval.proofs.binding.bind_item.Goals as goal

pub returns-clause-value : goal.returns-clause-value
returns-clause-value c =
    IfOk-weaker c.bind_on_type.result _ _
    (λ b h. item_bound c.args.schema.now c.args.description.now (item_of c.args.asked) c.in-Some.type_id b
    (sym c.find.ensures ∙ c.in-Some.is) h)
    c.bind_on_type.ensures.value

pub returns-clause-parts : goal.returns-clause-parts
returns-clause-parts c =
    IfOk-weaker c.bind_on_type.result _ _
    (λ b h. item_for c.args.schema.now c.args.description.now (item_of c.args.asked) c.in-Some.type_id b
    (sym c.find.ensures ∙ c.in-Some.is) h)
    c.bind_on_type.ensures.parts
