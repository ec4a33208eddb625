-- What search doesn't prove of `replies_of`: the clause `ok`, by lemmas of `Playing`.
use Rattle.std.proofs.Common.{map}
use Rattle.std.specs.Arc.{arc_value}
use Rattle.lab_script.specs.dir_lab.Shown.{shown_view}
use Rattle.lab_script.specs.Script.{lines_in}
use Rattle.dird_commands.proofs.Playing.{shown_of}
use Rattle.dird_commands.proofs.lab.replies_of.Goals as goal

pub returns-in-Ok-play-clause-ok : goal.returns-in-Ok-play-clause-ok
returns-in-Ok-play-clause-ok g c =
    shown_of (g.R.Read.remaining c.args.input.now) (arc_value c.args.schema) c.in-Ok.suffix
    (lines_in c.in-Ok-read_lines.lines.items) (map shown_view c.in-Ok-play.replies.items)
    (rw c.deref.ensures at c.in-Ok.ensures.ok)
    c.in-Ok-read_lines.ensures.ok
    (rw c.deref-2.ensures.value at c.in-Ok-play.ensures.shown)
