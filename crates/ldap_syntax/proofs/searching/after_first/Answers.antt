-- What search doesn't prove of `after_first`: what it returns, by lemmas of `Search`.
use Rattle.ldap_syntax.proofs.Search.{nowhere, found_rest}
use Rattle.ldap_syntax.proofs.searching.after_first.Goals as goal

pub returns-in_err-at : goal.returns-in_err-at
returns-in_err-at c = rw c.from_residual.ensures (nowhere c.args.octets.now c.args.part.now c.in_err-at.ensures)

pub returns : goal.returns
returns c = found_rest c.args.octets.now c.args.part.now c.in_ok-at.at c.in_ok-at.ensures.0 c.in_ok-at.ensures.1
