-- What search doesn't prove of `number_of_digits`: what it returns, by lemmas of `Numbers`.
use Rattle.ldap_words.proofs.Numbers.{digit_none}
use Rattle.ldap_words.proofs.numbering.number_of_digits.Goals as goal

pub returns-in-None : goal.returns-in-None
returns-in-None c = digit_none c.args.text.now c.loop-octet.number c.loop-octet.octet-index
    c.loop-octet.invariant.read c.loop-octet-test.true c.in-None.ensures.longer
