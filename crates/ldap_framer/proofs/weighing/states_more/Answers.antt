-- What search doesn't prove of `states_more`: the clause `no`, by lemmas of `Weighed`.
use Rattle.std.proofs.Common.{arith}
use Rattle.ldap_framer.proofs.Weighed.{unless_more}
use Rattle.ldap_framer.proofs.weighing.states_more.Goals as goal

pub returns-in-Ok-clause-no : goal.returns-in-Ok-clause-no
returns-in-Ok-clause-no c = unless_more _ _ (λ m.
    let k = c.in-Ok.ensures.only m.header m.rest m.first m.n m.is_header m.whole in
    let more = m.more in
    let len = c.from.ensures in
    omega arith)

pub returns-in-Err-clause-no : goal.returns-in-Err-clause-no
returns-in-Err-clause-no c = λ m. c.in-Err.ensures.only m.header m.rest m.first m.n m.is_header m.whole
