use Rattle.std.specs.Arc.{arc_value}
use Rattle.vr_world.specs.Cluster.{world}
use Rattle.dir_lab.specs.private.Executions.{AreOver}
use Rattle.dir_lab.proofs.Kept.{UpTo}
use Rattle.dir_lab.proofs.advancing.advance_all.Given as goal

-- so far those below this one have caught up
abbrev pub invariant-loop-index : goal.invariant-loop-index
invariant-loop-index l = record {
  up_to : UpTo (world l.cluster) l.initial.kept.items l.index l.kept.items;
  over : AreOver (arc_value l.lab.schema) l.lab.suffix l.kept.items;
}
