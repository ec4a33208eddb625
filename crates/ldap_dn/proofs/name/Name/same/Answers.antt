-- What search doesn't prove of `same`: what it returns, by lemmas of `Fronts`.
use Rattle.ldap_dn.proofs.Fronts.{same_answer}
use Rattle.ldap_dn.proofs.name.Name.same.Goals as goal

pub returns-then-len : goal.returns-then-len
returns-then-len c = same_answer c.args.self.now c.args.other.now c.rdns.result.now c.rdns-then-len.result.now
    c.is_front.result c.len.result c.len-2.result c.len.ensures c.len-2.ensures c.if-len.true c.rdns.ensures
    c.rdns-then-len.ensures c.is_front.ensures
