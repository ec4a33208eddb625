-- What search doesn't prove of `rdn_above`: `loop-i-preserved`, by lemmas of `UpFacts`.
use Rattle.std.proofs.Common.{◌≡◌, suc, ◌+◌, ◌-◌, arith}
use Rattle.dir_tree.specs.Superiors.{place_at}
use Rattle.dir_tree.proofs.UpFacts.{above_next}
use Rattle.dir_tree.proofs.roots.Roots.rdn_above.Goals as goal

pub loop-i-preserved : goal.loop-i-preserved
loop-i-preserved c =
    let step : c.args.self.now.reach - c.loop-i.i ≡ suc (c.args.self.now.reach - (c.loop-i.i + 1)) = omega arith in
    above_next (c.args.self.now.reach - c.loop-i.i) (c.args.self.now.reach - (c.loop-i.i + 1)) c.loop-i.at
    c.in-Some-Under.above c.loop-i.left (place_at c.args.self.now.entries) c.in-Some-Under.field-0.now
    c.in-Some-Under.rdn _ step
    c.in-Some-Under.ensures c.in-Some-Under.field-0-is c.if-left-eq0.false c.loop-i.invariant
