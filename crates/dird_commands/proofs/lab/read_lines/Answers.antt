-- What search doesn't prove of `read_lines`: `loop-init`, the clause `ok` and `loop-preserved`, by lemmas of `Reading`.
use Rattle.std.proofs.Common.{ℕ, List, map}
use Rattle.std.proofs.lemmas.List.{map-append}
use Rattle.lab_script.specs.Script.{lines_in}
use Rattle.dird_commands.proofs.Reading.{none_read, line_read, all_read}
use Rattle.dird_commands.proofs.lab.read_lines.Goals as goal

pub loop-init : goal.loop-init
loop-init g c = rw c.new-lines.ensures.items (none_read (g.R.Read.remaining c.args.input.now))

pub returns-in-None-clause-ok : goal.returns-in-None-clause-ok
returns-in-None-clause-ok g c =
    all_read (g.R.Read.remaining c.args.input.now) (g.R.Read.remaining c.loop.input)
    (g.R.Read.remaining c.next_line.new.input) (lines_in c.loop.lines.items) c.loop.invariant
    (rw c.in-None.is at c.in_ok-line.ensures.ok)

pub loop-preserved : goal.loop-preserved
loop-preserved g c =
    rw c.in_ok-push-in-Some.ensures.items
    (rw (map-append (λ line. line.items) c.loop.lines.items _)
    (line_read (g.R.Read.remaining c.args.input.now) (g.R.Read.remaining c.loop.input)
    (g.R.Read.remaining c.next_line.new.input) (lines_in c.loop.lines.items) c.in-Some.line.items
    c.loop.invariant (rw c.in-Some.is at c.in_ok-line.ensures.ok)))
