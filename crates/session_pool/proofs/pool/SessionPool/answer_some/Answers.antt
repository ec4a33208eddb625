-- What search doesn't prove of `answer_some`: `loop-count-init`, `loop-count-preserved`, the clause `answers` and the
-- clause `same`, by lemmas of `Attended`.
use Rattle.std.proofs.Common.{refl, arith}
use Rattle.client_link.specs.session_handler.View.{config_view}
use Rattle.session_pool.proofs.Attended.{answers_none, answers_more, answers_up_to, some_under, on_false, on_true, same_then}
use Rattle.session_pool.proofs.pool.SessionPool.answer_some.Goals as goal

pub loop-count-init : goal.loop-count-init
loop-count-init g c = record {
  same = record { place = refl; number = refl; debt = refl };
  answers = answers_none _ _ _ _;
}

pub loop-count-preserved : goal.loop-count-preserved
loop-count-preserved g c = record {
  same = same_then _ _ _ c.loop-count.invariant.same c.answer_next.ensures.same;
  answers = answers_more _ _ _ _ _ _ _ _ _ c.loop-count.invariant.answers
      (on_true c.answer_next.result c.if-not-answer_next.false c.answer_next.ensures.answered);
}

pub returns-then-not-answer_next-clause-answers : goal.returns-then-not-answer_next-clause-answers
returns-then-not-answer_next-clause-answers g c =
    let left = on_false c.answer_next.result c.if-not-answer_next.true c.answer_next.ensures.left in
    some_under g.D.Directory.allows (config_view c.args.self.now.config) c.number.result c.args.pooled.now.number
    c.number.ensures _ _ _ _ 16
    (answers_up_to _ _ _ _ _ _ _ _ _ 16 c.loop-count.invariant.answers left.0 left.1 (omega arith))

pub returns-clause-answers : goal.returns-clause-answers
returns-clause-answers g c =
    some_under g.D.Directory.allows (config_view c.args.self.now.config) c.number.result c.args.pooled.now.number
    c.number.ensures _ _ _ _ 16
    (answers_up_to _ _ _ _ _ _ _ _ _ 16 c.loop-count.invariant.answers refl refl (omega arith))

pub returns-then-not-answer_next-clause-same : goal.returns-then-not-answer_next-clause-same
returns-then-not-answer_next-clause-same g c = same_then _ _ _ c.loop-count.invariant.same c.answer_next.ensures.same
