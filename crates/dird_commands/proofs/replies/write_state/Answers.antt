-- What search doesn't prove of `write_state`: what it returns, by lemmas of `Replying`.
use Rattle.std.proofs.Common.{◌++◌, [], ◌∷◌, codes, decimal, ap, ◌∙◌}
use Rattle.dird_commands.specs.private.Replies.{status_word}
use Rattle.dird_commands.proofs.Replying.{text_as, ten_parts}
use Rattle.dird_commands.proofs.replies.write_state.Goals as goal

pub returns : goal.returns
returns g c =
    text_as c.writeln.result (g.W.Write.contents c.args.output.now) (g.W.Write.contents c.writeln.new.self) _ _
    (ap (λ s. codes "state replica=" ++ (decimal
    c.args.replica ++ (codes " view=" ++ (decimal
    c.args.view ++ (codes " status=" ++
    (s ++ (codes " log=" ++ (decimal c.args.op ++ (codes " commit=" ++ (decimal c.args.commit ++ 10 ∷ []))))))))))
    c.status_word-status.ensures
    ∙ ten_parts (codes "state replica=") (decimal c.args.replica) (codes " view=") (decimal c.args.view)
    (codes " status=") (status_word c.args.status) (codes " log=")
    (decimal c.args.op) (codes " commit=") (decimal c.args.commit) (10 ∷ []))
    c.writeln.ensures.bytes
