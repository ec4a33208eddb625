-- What search doesn't prove of `write_octets`: `loop-init`, what it returns and `loop-preserved`, by lemmas of
-- `Written`.
use Rattle.std.proofs.Common.{sym, ◌∙◌}
use Rattle.ldap_session.proofs.Written.{no_octets, begun, all_written, given_up, some_more, out_of_turns}
use Rattle.ldap_session.proofs.writing.write_octets.Goals as goal

pub loop-init : goal.loop-init
loop-init g c = begun _ _

pub returns-then-is_done : goal.returns-then-is_done
returns-then-is_done g c = all_written _ _ _ c.loop.left.now (no_octets _ (sym c.is_done.ensures ∙ c.if-is_done.true))
    c.loop.invariant

pub returns-in-None : goal.returns-in-None
returns-in-None g c = given_up _ _ _ _ c.loop.left.now c.loop.invariant c.in-None.ensures.none

pub loop-preserved : goal.loop-preserved
loop-preserved g c = some_more _ _ _ _ c.loop.left.now _ c.loop.invariant c.in-Some.ensures.some

pub returns : goal.returns
returns g c = out_of_turns _ _ _ c.loop.left.now c.loop.invariant
