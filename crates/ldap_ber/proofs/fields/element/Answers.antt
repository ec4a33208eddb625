-- The goals of `element` that no tactic closes, each by one lemma over plain lists.
use Rattle.ldap_ber.proofs.fields.element.Goals as goal

pub returns-in-Err-clause-fault : goal.returns-in-Err-clause-fault
returns-in-Err-clause-fault c = λ h. c.in-Err.ensures.only h.3.spelling h.1 h.2 h.0 h.3.is_element h.3.parts
