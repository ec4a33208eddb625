-- What search doesn't prove of `bind_extensible`: the clause `value` and the clause `parts`, by lemmas of `Matches` and
-- `Made`.
use Rattle.std.proofs.Common.{sym, ◌∙◌}
use Rattle.std.proofs.lemmas.Result.{IfOk-weaker}
use Rattle.ldap_filter.specs.ItemView.{extensible_view}
use Rattle.ldap_eval.specs.Value.{type_of}
use Rattle.ldap_eval.proofs.Matches.{no_how}
use Rattle.ldap_eval.proofs.Made.{how_made, no_how_made}
use Rattle.ldap_eval.proofs.binding.bind_extensible.Goals as goal

pub returns-in-Some-clause-value : goal.returns-in-Some-clause-value
returns-in-Some-clause-value c = IfOk-weaker c.bind_named.result _ _ (λ b h. h (sym c.how_of.ensures ∙ c.in-Some.is))
    c.bind_named.ensures.value

pub returns-in-Some-clause-parts : goal.returns-in-Some-clause-parts
returns-in-Some-clause-parts c =
    let s = c.args.schema.now in
    let x = extensible_view c.args.asked.now in
    IfOk-weaker c.bind_named.result _ _ (λ b h. how_made s x c.in-Some.how (type_of s x.description) b
    (sym c.how_of.ensures ∙ c.in-Some.is) h) c.bind_named.ensures.parts

pub returns-in-None-clause-value : goal.returns-in-None-clause-value
returns-in-None-clause-value c = no_how c.args.schema.now (extensible_view c.args.asked.now) (sym c.how_of.ensures
    ∙ c.in-None.is)

pub returns-in-None-clause-parts : goal.returns-in-None-clause-parts
returns-in-None-clause-parts c =
    let s = c.args.schema.now in
    let x = extensible_view c.args.asked.now in
    no_how_made s x (type_of s x.description) (sym c.how_of.ensures ∙ c.in-None.is)
