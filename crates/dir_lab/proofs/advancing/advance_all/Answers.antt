-- What search doesn't prove of `advance_all`: the clause `records`, by lemmas of `Kept`.
use Rattle.std.proofs.Common.{arith}
use Rattle.dir_lab.proofs.Kept.{up_to_all}
use Rattle.dir_lab.proofs.advancing.advance_all.Goals as goal

pub returns-clause-records : goal.returns-clause-records
returns-clause-records c =
    up_to_all c.args.cluster.now c.args.kept.now.items c.loop-index.kept.items c.loop-index.index
    (omega (arith, c.loop-index-test.false)) c.requires.count c.args.cluster.now.all_up c.loop-index.invariant.up_to
