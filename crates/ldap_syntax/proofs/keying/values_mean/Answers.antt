-- What search doesn't prove of `values_mean`: what it returns, by lemmas of `Fit`.
use Rattle.ldap_syntax.proofs.Fit.{values_of_the_syntax_mean}
use Rattle.ldap_syntax.proofs.keying.values_mean.Goals as goal

pub returns : goal.returns
returns c = values_of_the_syntax_mean
