-- What search doesn't prove of `is_under`: the clause `chain` and the clause `table`, by lemmas of `Chains`.
use Rattle.std.proofs.Common.{List, ap, sym, ◌∙◌, ◌≡◌, true, subst, length}
use Rattle.std.specs.List.{list_any}
use Rattle.std.specs.Prelude.{nat_eq}
use Rattle.ldap_schema.specs.Schema.{TypeModel, SchemaModel, is_under, superiors, are_loopless}
use Rattle.ldap_schema.proofs.Chains.{as_chain, under_same, under_other}
use Rattle.ldap_schema.proofs.schema.Schema.is_under.Goals as goal

loopless : (s t : SchemaModel) → s ≡ t → are_loopless s.types s.types 0 ≡ true → are_loopless t.types t.types 0 ≡ true
loopless s t e h = subst (λ (x : SchemaModel). are_loopless x.types x.types 0 ≡ true) e h

pub returns-then-eq-clause-chain : goal.returns-then-eq-clause-chain
returns-then-eq-clause-chain c =
    as_chain c.args.self.now c.args.below c.args.above c.eq.result
    (loopless _ _ c.self.view_is c.self.invariant.loopless)
    (c.if-eq.true ∙ sym (under_same c.args.self.now c.args.below c.args.above c.if-eq.ensures))

pub returns-else-eq-clause-table : goal.returns-else-eq-clause-table
returns-else-eq-clause-table c =
    under_other c.self.inside.types.items c.args.below c.args.above c.leads_to.result c.if-eq.ensures
    (c.leads_to.ensures ∙ ap (λ (ts : List TypeModel). list_any (λ t. nat_eq t c.args.above)
    (superiors (length ts) ts c.args.below)) c.as_slice.ensures.value)
    ∙ ap (λ (s : SchemaModel). is_under s c.args.below c.args.above) c.self.view_is

pub returns-else-eq-clause-chain : goal.returns-else-eq-clause-chain
returns-else-eq-clause-chain c =
    as_chain c.args.self.now c.args.below c.args.above c.leads_to.result
    (loopless _ _ c.self.view_is c.self.invariant.loopless)
    (under_other c.self.inside.types.items c.args.below c.args.above c.leads_to.result c.if-eq.ensures
    (c.leads_to.ensures ∙ ap (λ (ts : List TypeModel). list_any (λ t. nat_eq t c.args.above)
    (superiors (length ts) ts c.args.below)) c.as_slice.ensures.value)
    ∙ ap (λ (s : SchemaModel). is_under s c.args.below c.args.above) c.self.view_is)
