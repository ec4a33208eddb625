-- The goals of `decode` that no tactic closes, each by one lemma over plain lists.
use Rattle.ldap_requests.proofs.ldap_ber.RowLemmas.{some_left, none_left}
use Rattle.ldap_msg.specs.View.{view}
use Rattle.ldap_msg.proofs.Exits.{message_whole}
use Rattle.ldap_msg.proofs.Whole.{only_whole, whole_faults}
use Rattle.ldap_msg.proofs.decoding.decode.Goals as goal

pub returns-then-not-is_empty-clause-only : goal.returns-then-not-is_empty-clause-only
returns-then-not-is_empty-clause-only c = λ m is within size.
    absurd (message_whole c.args.octets.now c.in_ok-content.content.now c.in_ok-content.rest.now
    c.in_ok-content.ensures.found (some_left c.is_empty.result _ c.is_empty.ensures c.if-not-is_empty.true) (m, is))

pub returns-then-not-is_empty-clause-fault : goal.returns-then-not-is_empty-clause-fault
returns-then-not-is_empty-clause-fault c =
    message_whole c.args.octets.now c.in_ok-content.content.now c.in_ok-content.rest.now c.in_ok-content.ensures.found
    (some_left c.is_empty.result _ c.is_empty.ensures c.if-not-is_empty.true)

pub returns-clause-only : goal.returns-clause-only
returns-clause-only c = λ m is within size.
    only_whole view c.message_of.result c.args.octets.now c.in_ok-content.content.now c.in_ok-content.rest.now
    c.in_ok-content.ensures.found c.message_of.ensures.found c.message_of.ensures.fault m is within

pub returns-clause-fault : goal.returns-clause-fault
returns-clause-fault c = whole_faults c.message_of.result c.args.octets.now c.in_ok-content.content.now
    c.in_ok-content.rest.now c.in_ok-content.ensures.found (none_left c.is_empty.result _ c.is_empty.ensures
    c.if-not-is_empty.false) c.message_of.ensures.fault
