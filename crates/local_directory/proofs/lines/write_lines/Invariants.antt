use Rattle.std.proofs.Common.{◌≡◌, drop, take}
use Rattle.std.specs.Io.KnownBytes.{Appends}
use Rattle.ldap_session.specs.Octets.{joined}
use Rattle.local_directory.specs.private.Lines.{hex_lines}
use Rattle.local_directory.proofs.lines.write_lines.Given as goal

-- the lines of the responses so far are written, and the octets of the others are left
abbrev pub invariant-loop-length : goal.invariant-loop-length
invariant-loop-length g l =
    Appends (g.W.Write.contents l.fn.output) (g.W.Write.contents l.output)
    (hex_lines (take l.length-index l.fn.responses))
    × (l.rest ≡ joined (drop l.length-index l.fn.responses))
