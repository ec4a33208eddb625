-- The goals of `message_length` that no tactic closes, each by one lemma over plain lists.
use Rattle.std.proofs.Common.{ℕ, ◌+◌, min, ap, ◌∙◌}
use Rattle.ldap_requests.specs.ldap_ber.Element.{element_bytes}
use Rattle.ldap_requests.specs.ldap_ber.Written.{number_bytes}
use Rattle.ldap_msg.proofs.Encoded.{three_measure}
use Rattle.ldap_msg.proofs.encoding.message_length.Goals as goal

pub returns : goal.returns
returns c = λ first octets ending measured is.
    three_measure (number_bytes 2 c.args.id) (element_bytes first octets) ending c.number_length.result
    c.element_length.result 4294967296 c.add_lengths.result c.add_lengths-2.result
    (c.number_length.ensures 2) (c.element_length.ensures first octets measured) c.add_lengths.ensures
    (c.add_lengths-2.ensures ∙ ap (λ (n : ℕ). min (c.add_lengths.result + n) 4294967296) is)
