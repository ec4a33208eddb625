-- The goals of `header` that no tactic closes, each by one lemma over plain lists.
use Rattle.std.proofs.Common.{ap, arith}
use Rattle.std.proofs.lemmas.Result.{IfOk-weaker}
use Rattle.ldap_ber.proofs.Numbers.{octets_from}
use Rattle.ldap_ber.proofs.ElementLemmas.{IsOkAnd-weaker}
use Rattle.ldap_ber.proofs.Headers.{Heading, found, only, exact}
use Rattle.ldap_ber.proofs.heading.header.Goals as goal

pub returns-clause-found : goal.returns-clause-found
returns-clause-found c =
    IfOk-weaker c.header_of.result _ _ (λ x t. (t.spelling, t.rest, t.is_header, t.parts, t.count))
    (found _ c.args.octets.now c.header_of.result (octets_from _ (λ i. omega (arith, c.type_inv.octets i)))
    c.header_of.ensures)

pub returns-clause-only : goal.returns-clause-only
returns-clause-only c = λ spelling rest first n is e.
    IsOkAnd-weaker c.header_of.result _ _
    (λ x same. (ap (λ (r : Heading). r.0) same, ap (λ (r : Heading). r.1) same, ap (λ (r : Heading). r.2) same))
    (only _ c.args.octets.now spelling rest first n c.header_of.result is e c.header_of.ensures)

pub returns-clause-fault : goal.returns-clause-fault
returns-clause-fault c = λ f. exact _ c.args.octets.now c.header_of.result f
    (octets_from _ (λ i. omega (arith, c.type_inv.octets i))) c.header_of.ensures
