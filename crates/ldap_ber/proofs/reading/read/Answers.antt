-- The goals of `read` that no tactic closes, each by one lemma over plain lists.
use Rattle.std.proofs.Common.{ap, arith}
use Rattle.std.proofs.lemmas.Result.{IfOk-weaker}
use Rattle.ldap_ber.proofs.Numbers.{octets_from}
use Rattle.ldap_ber.proofs.ElementLemmas.{Read, found, only, exact, IsOkAnd-weaker}
use Rattle.ldap_ber.proofs.reading.read.Goals as goal

pub returns-clause-found : goal.returns-clause-found
returns-clause-found c =
    IfOk-weaker c.element_of.result _ _ (λ x t. (t.spelling, t.is_element, t.parts))
    (found _ c.args.octets.now c.element_of.result (octets_from _ (λ i. omega (arith, c.type_inv.octets i)))
    c.element_of.ensures)

pub returns-clause-only : goal.returns-clause-only
returns-clause-only c = λ spelling content rest first is e.
    IsOkAnd-weaker c.element_of.result _ _
    (λ x same. (ap (λ (r : Read). r.0) same, ap (λ (r : Read). r.1) same, ap (λ (r : Read). r.2) same))
    (only _ c.args.octets.now spelling content rest first c.element_of.result is e c.element_of.ensures)

pub returns-clause-fault : goal.returns-clause-fault
returns-clause-fault c = λ f. exact _ c.args.octets.now c.element_of.result f
    (octets_from _ (λ i. omega (arith, c.type_inv.octets i))) c.element_of.ensures
