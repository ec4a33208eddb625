-- What the loop of `connected` keeps: the labels so far, and those of the replicas that are left.
use Rattle.std.proofs.Common.{◌≡◌, ◌+◌, ◌++◌, length, map}
use Rattle.peer_messages.specs.private.Links.{labels}
use Rattle.peer_messages.proofs.link_table.LinkTable.connected.Given as goal

abbrev pub invariant-loop-link : goal.invariant-loop-link
invariant-loop-link l =
    (map (λ x. (x.label, x.number)) l.connected.items ++ labels l.own l.index l.rest
    ≡ labels l.own 0 l.fn.self.links.items)
    × (l.index + length l.rest ≡ length l.fn.self.links.items)

abbrev pub decreases-loop-link : goal.decreases-loop-link
decreases-loop-link l = length l.rest
