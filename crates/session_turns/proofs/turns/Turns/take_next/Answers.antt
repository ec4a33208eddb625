-- What search doesn't prove of `take_next`: the invariant and the clause `none`, by lemmas of `Taken`.
use Rattle.std.proofs.Common.{◌≡◌, ◌≤◌, false, cond, nat_le, sym, ◌∙◌, arith}
use Rattle.session_turns.specs.Turning.{is_class, oldest, least}
use Rattle.session_turns.specs.Queued.{queued}
use Rattle.session_turns.proofs.Taken.{nobody_waits, kept_none, kept_some, same_class, chosen_oldest, chosen_least}
use Rattle.session_turns.proofs.turns.Turns.take_next.Goals as goal
use Rattle.session_turns.proofs.turns.Turns.take_next.Goals.{then-self-ge-PASSED, else-self-ge-PASSED, then-is_class, else-is_class}

pub invariant_of-self : goal.invariant_of-self
invariant_of-self c =
    kept_none c.self.inside.queues c.pop.new.self c.if-self-ge-PASSED.class c.self.inside.passed c.self.inside.waiting
    c.self.inside.room
    c.self.invariant (sym c.pop.ensures.first ∙ c.in_err-waiting.was) c.pop.ensures.rest c.pop.ensures.room

pub returns-in_err-waiting-clause-none : goal.returns-in_err-waiting-clause-none
returns-in_err-waiting-clause-none c =
    let q = queued c.self.inside.queues in
    let class : c.if-self-ge-PASSED.class ≡ cond (nat_le 7 c.self.inside.passed) (oldest q) (least q) =
    elim c.if-self-ge-PASSED.branch [
      | then-self-ge-PASSED w ↦ chosen_oldest _ _ _ _ _ w.if-self-ge-PASSED.true w.class-is c.oldest-oldest.ensures
      | else-self-ge-PASSED w ↦ chosen_least _ _ _ _ _ w.if-self-ge-PASSED.false w.class-is w.least-class.ensures
    ] in
    rw c.from_residual.ensures (rw (← c.self.view_is) (nobody_waits q c.self.inside.passed c.if-self-ge-PASSED.class
    class (sym c.pop.ensures.first ∙ c.in_err-waiting.was)))

pub invariant_of-self-2 : goal.invariant_of-self-2
invariant_of-self-2 c =
    let few : c.if-is_class.self ≤ 7 =
    elim c.if-is_class.branch [
      | then-is_class w ↦ omega arith
      | else-is_class w ↦ elim c.if-self-ge-PASSED.branch [
        | then-self-ge-PASSED u ↦ let k = same_class c.if-self-ge-PASSED.class c.oldest-oldest.result u.class-is
            in let e : false ≡ is_class c.if-self-ge-PASSED.class c.oldest-oldest.result = w.if-is_class.ensures in cc
        | else-self-ge-PASSED u ↦ omega arith
      ]
    ] in
    kept_some c.self.inside.queues c.pop.new.self c.if-self-ge-PASSED.class c.in_ok-waiting.waiting
    c.self.inside.passed c.if-is_class.self c.self.inside.waiting c.self.inside.room
    c.self.invariant (sym c.pop.ensures.first ∙ c.in_ok-waiting.was) c.pop.ensures.rest c.pop.ensures.room few
