-- What search doesn't prove of `write_down`: what it returns, by lemmas of `Replying`.
use Rattle.std.proofs.Common.{[], ◌∷◌, codes, decimal}
use Rattle.dird_commands.proofs.Replying.{text_as, three_parts}
use Rattle.dird_commands.proofs.replies.write_down.Goals as goal

pub returns : goal.returns
returns g c =
    text_as c.writeln.result (g.W.Write.contents c.args.output.now) (g.W.Write.contents c.writeln.new.self) _ _
    (three_parts (codes "state replica=") (decimal c.args.replica) (codes " down") (10 ∷ [])) c.writeln.ensures.bytes
