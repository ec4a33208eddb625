-- What search doesn't prove of `before_end`: the loop, by a lemma of `Changed`.
use Rattle.std.proofs.Common.{◌≡◌, ◌<◌, ◌+◌, ◌-◌, ℕ, List, Bor, length, map, take, arith, sym, ap, ◌∙◌}
use Rattle.std.specs.List.{list_any}
use Rattle.dir_index.proofs.Changed.{end_step}
use Rattle.dir_index.proofs.key_changes.before_end.Goals as goal

pub loop-earlier-preserved : goal.loop-earlier-preserved
loop-earlier-preserved c =
    let i : ℕ = c.loop-earlier.earlier - 1 in
    let j : ℕ = c.loop-earlier.later - 1 in
    let more : i + 1 ≡ c.loop-earlier.earlier = omega arith in
    let next : j + 1 ≡ c.loop-earlier.later = omega arith in
    let here : i < length c.args.before.now = omega arith in
    let there : j < length c.args.after.now = omega arith in
    record {
      earlier = omega arith;
      later = omega arith;
      same = λ f h. c.loop-earlier.invariant.same f
          (ap (λ (m : ℕ). list_any f (map (λ (k : Bor (List ℕ)). k.now) (take m c.args.before.now))) (sym more)
          ∙ end_step {A = Bor (List ℕ)} (λ (k : Bor (List ℕ)). k.now) f c.args.before.now c.args.after.now i j
          c.index-before-earlier.result c.index-after-later.result here there c.index-before-earlier.is
          c.index-after-later.is (sym c.is_same.ensures ∙ c.if-not-is_same.false) h
          ∙ ap (λ (m : ℕ). list_any f (map (λ (k : Bor (List ℕ)). k.now) (take m c.args.after.now))) next);
    }
