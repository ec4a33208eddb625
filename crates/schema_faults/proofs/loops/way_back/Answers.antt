-- What search doesn't prove of `way_back`: `loop-place-init`, `loop-place-preserved` and what it returns, by lemmas of
-- `Reaching`.
use Rattle.std.proofs.Common.{◌≡◌, ◌++◌, ◌∷◌, [], ℕ, List, ap, ◌∙◌, refl, reverse, string_bytes, arith}
use Rattle.std.proofs.lemmas.Result.{IfOk-weaker}
use Rattle.schema_faults.specs.Loops.{way_sentence, IsWayOf}
use Rattle.schema_faults.specs.private.Reaching.{class_at}
use Rattle.schema_faults.proofs.Reaching.{way_first, way_more, from_within, way_done}
use Rattle.schema_faults.proofs.loops.way_back.Goals as goal

pub loop-place-init : goal.loop-place-init
loop-place-init c = record {
  within = c.requires.within;
  way = way_first c.args.classes.now c.args.start c.args.order.now c.args.last _ (c.in_ok-push.ensures.items
      ∙ ap (λ (l : List ℕ). l ++ c.args.start ∷ []) c.new-numbers.ensures.items) c.requires.above;
}

pub loop-place-preserved : goal.loop-place-preserved
loop-place-preserved c = record {
  within = (from_within c.args.classes.now c.args.start c.args.order.now c.loop-place.place _ c.requires.order
      c.loop-place-test.true c.loop-place.invariant.within refl).1;
  way =
      way_more c.args.classes.now c.args.start c.args.order.now c.loop-place.place
      (class_at c.args.order.now c.loop-place.place) _ c.loop-place.numbers.items _ c.requires.order
      c.loop-place-test.true c.loop-place.invariant.within refl refl c.in_ok-push-2.ensures.items
      c.loop-place.invariant.way;
}

pub returns : goal.returns
returns c =
    IfOk-weaker c.way_along.result (λ s. string_bytes s ≡ way_sentence c.args.classes.now c.as_slice.result.now)
    (λ s. IsWayOf c.args.classes.now c.args.start (string_bytes s))
    (λ s p. way_done c.args.classes.now c.args.start c.args.order.now c.loop-place.place c.loop-place.numbers.items
    c.as_slice.result.now (string_bytes s) c.requires.order (omega arith)
    (c.as_slice.ensures.value ∙ c.turn_round.ensures ∙ ap reverse c.in_ok-push-3.ensures.items) p
    c.loop-place.invariant.way)
    c.way_along.ensures
