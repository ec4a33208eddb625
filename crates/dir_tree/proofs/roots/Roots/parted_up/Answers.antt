-- What search doesn't prove of `parted_up`: `loop-i-preserved`, by lemmas of `WayChanges`.
use Rattle.std.proofs.Common.{◌≡◌, ℕ, suc, ◌+◌, ◌-◌, ◌||◌, ap, sym, ◌∙◌, arith, nat_eq, Option}
use Rattle.dir_tree.specs.Superiors.{place_at}
use Rattle.dir_tree.specs.private.Superiors.{below_at}
use Rattle.dir_tree.specs.private.Changes.{over_any}
use Rattle.dir_tree.proofs.WayChanges.{parting-next, over-next}
use Rattle.dir_tree.proofs.roots.Roots.parted_up.Goals as goal

pub loop-i-preserved : goal.loop-i-preserved
loop-i-preserved c =
    let step : c.args.self.now.reach - c.loop-i.i ≡ suc (c.args.self.now.reach - (c.loop-i.i + 1)) = omega arith in
    parting-next (below_at c.args.self.now.levels) c.args.except c.args.numbers.now
    (λ x. over_any (c.args.self.now.reach - c.loop-i.i) (place_at c.args.self.now.entries) x c.loop-i.at)
    (λ x. over_any (c.args.self.now.reach - (c.loop-i.i + 1)) (place_at c.args.self.now.entries) x c.above_of-at.result)
    (λ x. over_any c.args.self.now.reach (place_at c.args.self.now.entries) x c.args.from)
    (below_at c.args.levels) (below_at c.loop-i.changed) (below_at c.in_ok-changed-in-Some.changed) c.in-Some.number
    c.loop-i.invariant c.in_ok-changed-in-Some.ensures
    (λ x. ap (λ (o : Option ℕ). over_any (c.args.self.now.reach - c.loop-i.i) (place_at c.args.self.now.entries) x o)
    c.in-Some.is
    ∙ over-next (c.args.self.now.reach - c.loop-i.i) (c.args.self.now.reach - (c.loop-i.i + 1))
    (place_at c.args.self.now.entries) x c.in-Some.number step
    ∙ ap (λ (o : Option ℕ). nat_eq x c.in-Some.number || over_any (c.args.self.now.reach - (c.loop-i.i + 1))
    (place_at c.args.self.now.entries) x o) (sym c.above_of-at.ensures))
