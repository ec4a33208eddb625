-- LDIF and messages: what the loop of `add_lines` keeps.
use Rattle.std.proofs.Common.{◌≡◌, ◌+◌, ◌<◌, ◌^◌, ◌++◌, drop}
use Rattle.ldif.specs.Adds.{adds_from}
use Rattle.ldif.specs.HexLines.{message_lines}
use Rattle.ldif.specs.Imports.{HasTooLong}
use Rattle.ldif.proofs.asking.add_lines.Given as goal

abbrev pub invariant-loop-index : goal.invariant-loop-index
invariant-loop-index l =
    (l.out.items ++ message_lines (adds_from (l.index + 1) (drop l.index l.records)) ≡ message_lines
    (adds_from 1 l.records))
    × (HasTooLong (adds_from (l.index + 1) (drop l.index l.records)) → HasTooLong (adds_from 1 l.records))
    × (l.index < 2 ^ 31)
