use Rattle.std.proofs.Common.{◌≡◌, map, reverse, take}
use Rattle.journal.specs.Memory.{MayLeave, event, seen_after}
use Rattle.journal.proofs.crashing.crashed_image.Given as goal

-- the image and what is seen after the calls so far
abbrev pub invariant-loop-call : goal.invariant-loop-call
invariant-loop-call l =
    MayLeave l.base (reverse (map event (take l.call-index l.calls))) l.image.items
    × (l.seen.items ≡ seen_after l.base (reverse (map event (take l.call-index l.calls))))
