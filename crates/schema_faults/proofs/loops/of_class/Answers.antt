-- What search doesn't prove of `of_class`: `loop-class-preserved`, `loop-class-smaller` and what it returns, by lemmas
-- of `Reaching`.
use Rattle.std.proofs.Common.{◌≡◌, ◌+◌, ◌<◌, [], false, None, inr, ap, sym, ◌∙◌, length, option_map, slice_get, string_bytes, arith}
use Rattle.std.proofs.lemmas.Result.{IfOk-weaker}
use Rattle.schema_faults.specs.declared.loops.Step.{Step}
use Rattle.schema_faults.specs.Loops.{is_right_above, way_sentence, IsClassLoop}
use Rattle.schema_faults.specs.private.Reaching.{ReachedModel, IsReached}
use Rattle.schema_faults.proofs.Reaching.{carried, unseen, found_at, none_at, stepped, no_way}
use Rattle.schema_faults.proofs.loops.of_class.Goals as goal

pub loop-class-preserved : goal.loop-class-preserved
loop-class-preserved c =
    let at = found_at c.loop-class.reached.order c.loop-class.place c.in-Some.class c.in-Some.ensures in
    let none : is_right_above c.args.classes.now c.in-Some.class c.args.number ≡ false = sym c.is_right_above.ensures
    ∙ c.if-is_right_above.false in
    let next = stepped c.args.classes.now c.args.number c.loop-class.place c.in-Some.class c.loop-class.reached
    c.loop-class.invariant at.0 at.1 none in
    let P : ReachedModel → Type 0 = λ r. IsReached c.args.classes.now c.args.number (c.loop-class.place + 1) r in
    carried P _ _ c.in_ok-add_superiors.ensures next.0

pub loop-class-smaller : goal.loop-class-smaller
loop-class-smaller c =
    let at = found_at c.loop-class.reached.order c.loop-class.place c.in-Some.class c.in-Some.ensures in
    let none : is_right_above c.args.classes.now c.in-Some.class c.args.number ≡ false = sym c.is_right_above.ensures
    ∙ c.if-is_right_above.false in
    let next = stepped c.args.classes.now c.args.number c.loop-class.place c.in-Some.class c.loop-class.reached
    c.loop-class.invariant at.0 at.1 none in
    let lt : c.loop-class.place < length c.loop-class.reached.order = at.0 in
    let total : unseen c.add_superiors.new.reached.seen + length c.add_superiors.new.reached.order ≡
    unseen c.loop-class.reached.seen + length c.loop-class.reached.order =
    ap (λ (r : ReachedModel). unseen r.seen + length r.order) c.in_ok-add_superiors.ensures ∙ next.1
    in
    omega (arith, total, lt)

pub returns : goal.returns
returns c =
    let none : None ≡ option_map (λ (s : Step). s.class) (slice_get c.loop-class.reached.order c.loop-class.place) =
    cc in
    IfOk-weaker c.way_along.result (λ s. string_bytes s ≡ way_sentence c.args.classes.now [])
    (λ s. IsClassLoop c.args.classes.now c.args.number (string_bytes s))
    (λ s p. inr (
      no_way c.args.classes.now c.args.number c.loop-class.place c.loop-class.reached
          c.loop-class.invariant (none_at c.loop-class.reached.order c.loop-class.place none),
      p,
    ))
    c.way_along.ensures
