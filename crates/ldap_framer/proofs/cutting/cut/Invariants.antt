-- What the loop of `cut` keeps, and what grows less.
use Rattle.std.proofs.Common.{length, map}
use Rattle.ldap_msg.specs.View.{view}
use Rattle.ldap_framer.proofs.Frames.{SoFar}
use Rattle.ldap_framer.proofs.cutting.cut.Given as goal

abbrev pub invariant-loop-messages : goal.invariant-loop-messages
invariant-loop-messages l = SoFar l.octets (map view l.messages.items) l.rest

abbrev pub decreases-loop-messages : goal.decreases-loop-messages
decreases-loop-messages l = length l.rest
