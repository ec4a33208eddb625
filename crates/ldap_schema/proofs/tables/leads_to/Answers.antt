-- What search doesn't prove of `leads_to`: `loop-preserved`, by lemmas of `Steps`.
use Rattle.std.proofs.Common.{length, sym, ◌∙◌}
use Rattle.ldap_schema.proofs.Steps.{sought_up}
use Rattle.ldap_schema.proofs.tables.leads_to.Goals as goal

pub loop-preserved : goal.loop-preserved
loop-preserved c =
    sought_up (length c.args.types.now) c.loop.counter c.args.types.now c.loop.current c.in-Some.next c.args.above _
    c.loop-test.true (sym c.superior.ensures ∙ c.in-Some.is) (sym c.if-eq.ensures) c.loop.invariant
