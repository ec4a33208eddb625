-- What the loops of `put_digits` keep, and what grows less.
use Rattle.ldap_ber.proofs.writing.+put_digits.Given as goal

abbrev pub decreases-put_digits : goal.decreases-put_digits
decreases-put_digits l = l.count
