-- What search doesn't prove of `bind_named`: the clause `value` and the clause `parts`, by lemmas of `Matches` and
-- `Made`.
use Rattle.std.proofs.Common.{Some, sym, ◌∙◌}
use Rattle.std.proofs.lemmas.Result.{IfOk-weaker}
use Rattle.ldap_filter.specs.ItemView.{extensible_view}
use Rattle.ldap_eval.proofs.Matches.{no_type}
use Rattle.ldap_eval.proofs.Made.{type_made, no_type_made}
use Rattle.ldap_eval.proofs.binding.bind_named.Goals as goal

pub returns-in-Some-clause-value : goal.returns-in-Some-clause-value
returns-in-Some-clause-value c = IfOk-weaker c.bind_known.result _ _ (λ b h is_how. h is_how (sym c.type_of.ensures
    ∙ c.in-Some.is)) c.bind_known.ensures.value

pub returns-in-Some-clause-parts : goal.returns-in-Some-clause-parts
returns-in-Some-clause-parts c =
    IfOk-weaker c.bind_known.result _ _
    (λ b h. type_made c.args.schema.now (extensible_view c.args.asked.now) (Some c.args.how) c.in-Some.asked_type b
    (sym c.type_of.ensures ∙ c.in-Some.is) h)
    c.bind_known.ensures.parts

pub returns-in-None-clause-value : goal.returns-in-None-clause-value
returns-in-None-clause-value c = λ is_how. no_type c.args.schema.now (extensible_view c.args.asked.now) c.args.how
    is_how (sym c.type_of.ensures ∙ c.in-None.is)

pub returns-in-None-clause-parts : goal.returns-in-None-clause-parts
returns-in-None-clause-parts c = no_type_made c.args.schema.now (extensible_view c.args.asked.now) c.args.how
    (sym c.type_of.ensures ∙ c.in-None.is)
