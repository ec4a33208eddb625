-- The goals of `put_digits` that no tactic closes, each by one lemma over plain lists.
use Rattle.ldap_ber.proofs.Digits.{push_digit}
use Rattle.ldap_ber.proofs.writing.+put_digits.Goals as goal

pub returns-then-negative-clause-items : goal.returns-then-negative-clause-items
returns-then-negative-clause-items t c =
    push_digit c.args.out.now.items c.put_digits.new.out.items c.push_reserved.new.self.items c.args.negative
    c.args.count c.args.bits c.if-count-gt0.true c.put_digits.ensures.items
    (rw c.if-negative.true c.push_reserved.ensures.items)

pub returns-else-negative-clause-items : goal.returns-else-negative-clause-items
returns-else-negative-clause-items t c =
    push_digit c.args.out.now.items c.put_digits.new.out.items c.push_reserved-else-negative.new.self.items
    c.args.negative c.args.count c.args.bits c.if-count-gt0.true c.put_digits.ensures.items
    (rw c.if-negative.false c.push_reserved-else-negative.ensures.items)
