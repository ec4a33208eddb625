-- What search doesn't prove of `joined_above`: `loop-i-preserved`, by lemmas of `WayChanges`.
use Rattle.std.proofs.Common.{◌≡◌, ℕ, Bool, true, false, suc, ◌+◌, ◌-◌, ◌||◌, [], ◌∷◌, refl, ap, sym, ◌∙◌, arith, nat_eq, Option, None}
use Rattle.std.specs.Prelude.{◌&&◌}
use Rattle.dir_entry.specs.shared_map.Sets.{has_number}
use Rattle.dir_tree.specs.Superiors.{place_at}
use Rattle.dir_tree.specs.private.Superiors.{below_at}
use Rattle.dir_tree.specs.private.Changes.{over_any}
use Rattle.dir_tree.proofs.WayChanges.{joining-next, over-next}
use Rattle.dir_tree.proofs.roots.joined_above.Goals as goal

wholly : (b : Bool) → b ≡ (b && true)
wholly true = refl
wholly false = refl

pub loop-i-preserved : goal.loop-i-preserved
loop-i-preserved c =
    let none : Option ℕ = None in
    let step : c.args.reach - c.loop-i.i ≡ suc (c.args.reach - (c.loop-i.i + 1)) = omega arith in
    joining-next (below_at c.args.levels) none (c.args.number ∷ [])
    (λ x. over_any (c.args.reach - c.loop-i.i) (place_at c.args.entries.now) x c.loop-i.at)
    (λ x. over_any (c.args.reach - (c.loop-i.i + 1)) (place_at c.args.entries.now) x c.above_of-at.result)
    (λ x. over_any c.args.reach (place_at c.args.entries.now) x c.args.from)
    (below_at c.args.levels) (below_at c.loop-i.changed) (below_at c.in_ok-changed-in-Some.changed) c.in-Some.above
    c.loop-i.invariant
    (record {
      names = c.in_ok-changed-in-Some.ensures.names;
      children = c.in_ok-changed-in-Some.ensures.children;
      within = λ x j. c.in_ok-changed-in-Some.ensures.within x j
          ∙ ap (λ (b : Bool). (b && has_number j (c.args.number ∷ [])) || has_number j
          (below_at c.loop-i.changed x).within) (wholly (nat_eq x c.in-Some.above));
    })
    (λ x. ap (λ (o : Option ℕ). over_any (c.args.reach - c.loop-i.i) (place_at c.args.entries.now) x o)
    c.in-Some.is
    ∙ over-next (c.args.reach - c.loop-i.i) (c.args.reach - (c.loop-i.i + 1))
    (place_at c.args.entries.now) x c.in-Some.above step
    ∙ ap (λ (o : Option ℕ). nat_eq x c.in-Some.above || over_any (c.args.reach - (c.loop-i.i + 1))
    (place_at c.args.entries.now) x o) (sym c.above_of-at.ensures))
