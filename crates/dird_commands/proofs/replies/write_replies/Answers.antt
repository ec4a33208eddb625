-- What search doesn't prove of `write_replies`: `loop-reply-preserved`, by lemmas of `Replying`.
use Rattle.lab_script.specs.dir_lab.Shown.{shown_view}
use Rattle.dird_commands.specs.private.Replies.{text_of}
use Rattle.dird_commands.proofs.Replying.{one_more}
use Rattle.dird_commands.proofs.replies.write_replies.Goals as goal

pub loop-reply-preserved : goal.loop-reply-preserved
loop-reply-preserved g c =
    one_more shown_view text_of c.args.replies.now c.loop-reply.reply-index c.reply-item.result
    (g.W.Write.contents c.args.output.now) (g.W.Write.contents c.loop-reply.output)
    (g.W.Write.contents c.write_reply.new.output) c.loop-reply-test.true c.reply-item.is c.loop-reply.invariant
    c.in_ok-write_reply.ensures
