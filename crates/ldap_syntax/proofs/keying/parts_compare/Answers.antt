-- What search doesn't prove of `parts_compare`: what it returns, by lemmas of `Compare`.
use Rattle.ldap_syntax.proofs.Compare.{parts_stand}
use Rattle.ldap_syntax.proofs.keying.parts_compare.Goals as goal

pub returns : goal.returns
returns c = parts_stand
