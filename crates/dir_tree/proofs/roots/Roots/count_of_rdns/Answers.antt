-- What search doesn't prove of `count_of_rdns`: `loop-i-preserved`, by lemmas of `UpFacts`.
use Rattle.std.proofs.Common.{◌≡◌, ◌≤◌, suc, ◌+◌, ◌-◌, arith}
use Rattle.dir_tree.specs.Superiors.{place_at}
use Rattle.dir_tree.proofs.UpFacts.{count_next}
use Rattle.dir_tree.proofs.roots.Roots.count_of_rdns.Goals as goal

pub loop-i-preserved : goal.loop-i-preserved
loop-i-preserved c =
    let step : c.args.self.now.reach - c.loop-i.i ≡ suc (c.args.self.now.reach - (c.loop-i.i + 1)) = omega arith in
    let short : c.loop-i.count ≤ c.loop-i.i = c.loop-i.invariant.0 in (
      omega arith,
      count_next (c.args.self.now.reach - c.loop-i.i) (c.args.self.now.reach - (c.loop-i.i + 1)) c.loop-i.at
          c.in-Some-Under.above c.loop-i.count _ (place_at c.args.self.now.entries) c.in-Some-Under.field-0.now
          c.in-Some-Under.field-0-1 step
          c.in-Some-Under.ensures c.in-Some-Under.field-0-is c.loop-i.invariant.1,
    )
