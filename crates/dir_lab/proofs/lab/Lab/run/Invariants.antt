use Rattle.std.proofs.Common.{◌≡◌, ◌++◌, map}
use Rattle.std.specs.Arc.{arc_value}
use Rattle.vr_world.specs.Cluster.{world}
use Rattle.dir_lab.specs.private.Executions.{IsRunning, records_by, played_from, played}
use Rattle.dir_lab.specs.Shown.{shown_view}
use Rattle.dir_lab.proofs.lab.Lab.run.Given as goal

-- what is shown so far, and then what is left, is all
abbrev pub invariant-loop-event : goal.invariant-loop-event
invariant-loop-event l = record {
  running : IsRunning (arc_value l.self.schema) l.self.suffix l.self.count l.run;
  shown : map shown_view l.run.shown.items ++ played_from (arc_value l.self.schema) l.self.suffix l.self.count
      l.event-iterator.rest.items (world l.run.cluster) (records_by l.run.kept.items)
      ≡ played (arc_value l.self.schema) l.self.suffix l.self.count l.fn.events.items;
}
