use Rattle.std.proofs.Common.{◌+◌, ◌∷◌, ◌++◌, [], ap, ◌∙◌, arith}
use Rattle.state_machine.proofs.Folds.{fold_pushed}
use Rattle.state_machine.proofs.executed.Executed.next.Goals as goal

-- one more record, its update made, its reply kept
pub invariant_of-self-2 : goal.invariant_of-self-2
invariant_of-self-2 c =
    fold_pushed c.self.inside.records.items c.push_reserved.new.self.items c.args.entry.now c.in_ok-kept.kept
    c.self.inside.store.directory c.apply.new.self.directory
    c.self.inside.replies.items c.push_reserved-2.new.self.items c.in_ok-reply.reply (c.len.result + 1)
    c.self.invariant (omega (arith, c.len.ensures, c.in_ok-reserve.ensures.len)) c.in_ok-reply.ensures.directory
    c.in_ok-reply.ensures.reply c.in_ok-reply.ensures.below
    c.in_ok-kept.ensures
    (c.push_reserved.ensures.items ∙ ap (λ l. l ++ c.in_ok-kept.kept ∷ []) c.in_ok-reserve.ensures.items)
    (c.push_reserved-2.ensures.items ∙ ap (λ l. l ++ c.in_ok-reply.reply ∷ []) c.in_ok-reserve-2.ensures.items)
