use Rattle.std.proofs.Common.{◌≡◌, ◌+◌, drop}
use Rattle.ldif_faults.specs.HexLines.{hex_sentence}
use Rattle.ldif_faults.proofs.hex_lines.line_fault.Given as goal

abbrev pub invariant-loop-index : goal.invariant-loop-index
invariant-loop-index l = hex_sentence (l.index + 1) (drop l.index l.line) ≡ hex_sentence 1 l.line
