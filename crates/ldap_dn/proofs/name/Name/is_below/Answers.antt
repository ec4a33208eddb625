-- What search doesn't prove of `is_below`: what it returns, by lemmas of `Fronts`.
use Rattle.ldap_dn.proofs.Fronts.{below_answer}
use Rattle.ldap_dn.proofs.name.Name.is_below.Goals as goal

pub returns-then-len : goal.returns-then-len
returns-then-len c = below_answer c.args.self.now c.args.other.now c.rdns-then-len.result.now c.rdns.result.now
    c.is_front.result c.len-2.result c.len.result c.len-2.ensures c.len.ensures c.if-len.true c.rdns-then-len.ensures
    c.rdns.ensures c.is_front.ensures
