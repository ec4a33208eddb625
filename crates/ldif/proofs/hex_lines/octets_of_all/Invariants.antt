-- LDIF and messages: what the loop of `octets_of_all` keeps.
use Rattle.std.proofs.Common.{◌≡◌, ◌+◌, map, drop}
use Rattle.ldif.specs.Lines.{without_return}
use Rattle.ldif.specs.HexLines.{after, octets_from}
use Rattle.ldif.proofs.hex_lines.octets_of_all.Given as goal

abbrev pub invariant-loop-index : goal.invariant-loop-index
invariant-loop-index l = after (map (λ v. v.items) l.messages.items)
    (octets_from (l.index + 1) (map without_return (map (λ x. x.now) (drop l.index l.parts)))) ≡ octets_from 1
    (map without_return (map (λ x. x.now) l.parts))
