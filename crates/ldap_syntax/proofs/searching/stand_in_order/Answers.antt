-- What search doesn't prove of `stand_in_order`: `loop-part-init`, what it returns and `loop-part-preserved`, by lemmas
-- of `Search`.
use Rattle.ldap_syntax.proofs.Search.{begins, goes_on_at, fails_at, ends_at}
use Rattle.ldap_syntax.proofs.searching.stand_in_order.Goals as goal

pub loop-part-init : goal.loop-part-init
loop-part-init c = begins c.args.parts.now c.args.octets.now

pub returns-in-None : goal.returns-in-None
returns-in-None c =
    fails_at c.args.parts.now c.loop-part.part-index c.part-item.result c.as_octets.result.now c.args.octets.now
    c.loop-part.rest.now c.loop-part-test.true c.part-item.is c.as_octets.ensures c.loop-part.invariant
    c.in-None.ensures

pub loop-part-preserved : goal.loop-part-preserved
loop-part-preserved c =
    goes_on_at c.args.parts.now c.loop-part.part-index c.part-item.result c.as_octets.result.now c.args.octets.now
    c.loop-part.rest.now c.in-Some.after.now c.loop-part-test.true c.part-item.is c.as_octets.ensures
    c.loop-part.invariant c.in-Some.ensures

pub returns : goal.returns
returns c = ends_at c.args.parts.now c.loop-part.part-index c.args.octets.now c.loop-part.rest.now
    c.loop-part-test.false c.loop-part.invariant
