-- LDIF, reading: what the loop of `read_lines` keeps.
use Rattle.std.proofs.Common.{◌≡◌, drop}
use Rattle.ldif.specs.Reading.{read_from, nothing_read}
use Rattle.ldif.proofs.reading.read_lines.Given as goal

abbrev pub invariant-loop-line : goal.invariant-loop-line
invariant-loop-line l = read_from l.reading (drop l.line-index l.lines) ≡ read_from nothing_read l.lines
