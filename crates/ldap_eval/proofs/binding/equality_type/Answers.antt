-- What search doesn't prove of `equality_type`: the clause `some` and the clause `none`, by lemmas of `Matches`.
use Rattle.std.proofs.Common.{Some, true, false, ◌≡◌, sym, subst, ◌∙◌}
use Rattle.ldap_filter.specs.ItemView.{extensible_view}
use Rattle.ldap_eval.specs.declared.naming_rules.How.{How}
use Rattle.ldap_eval.specs.Made.{is_equality_item}
use Rattle.ldap_eval.proofs.Matches.{own_some, own_none}
use Rattle.ldap_eval.proofs.binding.equality_type.Goals as goal

pub returns-in-Own-clause-some : goal.returns-in-Own-clause-some
returns-in-Own-clause-some c = λ t e.
    let s = c.args.schema.now in
    let x = extensible_view c.args.asked.now in
    let asked = c.args.asked_type.now in
    let o = own_some s x asked t (sym c.own_type.ensures ∙ e) in
    (c.in-Own.is, o.0, subst (λ (h : How). is_equality_item s x (Some h) (Some asked) ≡ true) (sym c.in-Own.is) o.1)

pub returns-in-Own-clause-none : goal.returns-in-Own-clause-none
returns-in-Own-clause-none c = λ e.
    let s = c.args.schema.now in
    let x = extensible_view c.args.asked.now in
    let asked = c.args.asked_type.now in
    subst (λ (h : How). is_equality_item s x (Some h) (Some asked) ≡ false) (sym c.in-Own.is)
    (own_none s x asked (sym c.own_type.ensures ∙ e))
