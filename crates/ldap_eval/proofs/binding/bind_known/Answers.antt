-- What search doesn't prove of `bind_known`: the clause `value` and the clause `parts`, by lemmas of `Matches` and
-- `Made`.
use Rattle.std.proofs.lemmas.Result.{IfOk-weaker}
use Rattle.ldap_filter.specs.ItemView.{extensible_view}
use Rattle.ldap_eval.proofs.Matches.{bound_equality, bound_match}
use Rattle.ldap_eval.proofs.Made.{equality_made, residual_made}
use Rattle.ldap_eval.proofs.binding.bind_known.Goals as goal

pub returns-in-Some-clause-value : goal.returns-in-Some-clause-value
returns-in-Some-clause-value c =
    let some = c.equality_type.ensures.some c.in-Some.above c.in-Some.is in
    IfOk-weaker c.bind_on_type.result _ _
    (λ b h is_how is_type. bound_equality c.args.schema.now (extensible_view c.args.asked.now) c.args.how
    c.args.asked_type.now c.in-Some.above b some.0 some.1 some.2 is_how is_type h)
    (rw c.as_slice.ensures.value at c.bind_on_type.ensures.value)

pub returns-in-Some-clause-parts : goal.returns-in-Some-clause-parts
returns-in-Some-clause-parts c =
    let some = c.equality_type.ensures.some c.in-Some.above c.in-Some.is in
    IfOk-weaker c.bind_on_type.result _ _
    (λ b h. equality_made c.args.schema.now (extensible_view c.args.asked.now) c.args.how c.args.asked_type.now
    c.in-Some.above b some.1 some.2 h)
    (rw c.as_slice.ensures.value at c.bind_on_type.ensures.parts)

pub returns-in-None-clause-value : goal.returns-in-None-clause-value
returns-in-None-clause-value c =
    IfOk-weaker c.bind_match.result _ _
    (λ b h is_how is_type. bound_match c.args.schema.now (extensible_view c.args.asked.now) c.args.how
    c.args.asked_type.now b is_how is_type h)
    (rw c.as_slice-in-None.ensures.value at c.bind_match.ensures.value)

pub returns-in-None-clause-parts : goal.returns-in-None-clause-parts
returns-in-None-clause-parts c =
    IfOk-weaker c.bind_match.result _ _
    (λ b h. residual_made c.args.schema.now (extensible_view c.args.asked.now) c.args.how c.args.asked_type.now b
    (c.equality_type.ensures.none c.in-None.is) h)
    (rw c.as_slice-in-None.ensures.value at c.bind_match.ensures.parts)
