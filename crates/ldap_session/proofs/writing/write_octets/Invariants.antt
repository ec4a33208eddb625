use Rattle.ldap_session.specs.private.Octets.{WritesSome}
use Rattle.ldap_session.proofs.writing.write_octets.Given as goal

-- a front is taken, and this is left
abbrev pub invariant-loop : goal.invariant-loop
invariant-loop g l = WritesSome (g.W.Write.contents l.fn.writer) (g.W.Write.contents l.writer) l.fn.octets l.left
