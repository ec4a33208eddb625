-- What search doesn't prove of `write_replied`: what it returns, by lemmas of `Replying`.
use Rattle.std.proofs.Common.{[], ◌∷◌, codes, decimal}
use Rattle.dird_commands.proofs.Replying.{text_as, ten_parts}
use Rattle.dird_commands.proofs.replies.write_replied.Goals as goal

pub returns : goal.returns
returns g c =
    text_as c.writeln.result (g.W.Write.contents c.args.output.now) (g.W.Write.contents c.writeln.new.self) _ _
    (ten_parts (codes "reply replica=") (decimal c.args.by.now.replica) (codes " client=")
    (decimal c.args.by.now.reply.client.number) (codes " number=")
    (decimal c.args.by.now.reply.request_number) (codes " op=") (decimal c.args.by.now.reply.op_number)
    (codes " code=") (decimal c.args.code) (10 ∷ []))
    c.writeln.ensures.bytes
