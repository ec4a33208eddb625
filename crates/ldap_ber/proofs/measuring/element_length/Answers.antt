-- The goals of `element_length` that are answered, each by one lemma over plain lists.
use Rattle.ldap_ber.proofs.Written.{element_measure}
use Rattle.ldap_ber.proofs.measuring.element_length.Goals as goal

pub returns : goal.returns
returns c = λ first octets same. element_measure first c.args.content c.head_length.result c.add_lengths.result octets
    same c.head_length.ensures c.add_lengths.ensures
