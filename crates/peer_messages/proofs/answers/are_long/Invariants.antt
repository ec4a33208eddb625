-- What the loop of `are_long` keeps: what is left is at least what the records behind are to have, and just that where
-- all have a spelling and something is left.
use Rattle.std.proofs.Common.{◌≡◌, ◌≤◌, ◌<◌, length, ◌+◌}
use Rattle.std.specs.List.{AllByRecursion}
use Rattle.peer_messages.specs.private.Answers.{HasSpelling, octets_in}
use Rattle.peer_messages.proofs.answers.are_long.Given as goal

abbrev pub invariant-loop-entry : goal.invariant-loop-entry
invariant-loop-entry l =
    (l.fn.octets + octets_in l.rest ≤ octets_in l.fn.records + l.left)
    × (AllByRecursion HasSpelling l.fn.records → AllByRecursion HasSpelling l.rest
    × (0 < l.left → l.left + octets_in l.fn.records ≡ l.fn.octets + octets_in l.rest))

abbrev pub decreases-loop-entry : goal.decreases-loop-entry
decreases-loop-entry l = length l.rest
