-- What search doesn't prove of `write_one`: what it returns, by a lemma of `Played`.
use Rattle.std.proofs.Common.{List, refl, subst}
use Rattle.dir_machine.proofs.Played.{write_on}
use Rattle.dir_machine.specs.Happening.{IsWritten}
use Rattle.dir_machine.specs.declared.replies.MachineReply.{MachineReply}
use Rattle.dir_machine.proofs.running.write_one.Goals as goal

pub returns : goal.returns
returns c = write_on c.args.machine.now c.args.run.now _ c.args.place c.args.sizes c.in_ok-reply.reply refl
    c.in_ok-push.ensures.items
    (subst (λ (l : List MachineReply). IsWritten c.args.machine.now.cluster l c.args.place c.args.sizes
    c.in_ok-reply.reply) c.as_slice.ensures.value c.in_ok-reply.ensures)
