-- The goals of `cut` that no tactic closes, each by one lemma over plain lists.
use Rattle.std.proofs.Common.{map}
use Rattle.ldap_msg.specs.View.{view}
use Rattle.ldap_framer.specs.Stream.{stops}
use Rattle.ldap_framer.proofs.Frames.{one_more, ends, ends_awaited}
use Rattle.ldap_framer.proofs.cutting.cut.Goals as goal

pub loop-messages-preserved : goal.loop-messages-preserved
loop-messages-preserved c =
    let found = rw c.in-Whole.is at c.in_ok-message.ensures.found in
    one_more c.args.octets.now c.loop-messages.rest.now c.split_at.result.1.now c.loop-messages.messages.items
    c.push_back.new.self.items c.in-Whole.message c.in-Whole.size c.loop-messages.invariant
    c.in_ok-push_back-in-Whole.ensures.items found.1 c.split_at.ensures.back

pub returns-in-Awaited-clause-reads : goal.returns-in-Awaited-clause-reads
returns-in-Awaited-clause-reads c =
    let found = rw c.in-Awaited.is at c.in_ok-message.ensures.found in
    ends_awaited c.args.octets.now c.loop-messages.rest.now (map view c.loop-messages.messages.items)
    c.loop-messages.invariant found

pub returns-in-Stopped-clause-reads : goal.returns-in-Stopped-clause-reads
returns-in-Stopped-clause-reads c =
    let found = rw c.in-Stopped.is at c.in_ok-message.ensures.found in
    ends c.args.octets.now c.loop-messages.rest.now (map view c.loop-messages.messages.items)
    (stops c.in-Stopped.fault) c.loop-messages.invariant found
