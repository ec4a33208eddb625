use Rattle.lab_script.specs.Script.{lines_in}
use Rattle.dird_commands.proofs.Reading.{AreRead}
use Rattle.dird_commands.proofs.lab.read_lines.Given as goal

abbrev pub invariant-loop : goal.invariant-loop
invariant-loop g l = AreRead (g.R.Read.remaining l.initial.input) (g.R.Read.remaining l.input) (lines_in l.lines.items)
