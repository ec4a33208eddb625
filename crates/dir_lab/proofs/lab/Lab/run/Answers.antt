-- What search doesn't prove of `run`: the clause `searches`, the clause `replies`, the clause `committed` and the
-- clause `shown`, by lemmas of `Committed`, `Replies`, `Schedules` and `Searches`.
use Rattle.std.proofs.Common.{map, ◌∙◌, arith}
use Rattle.std.proofs.lemmas.List.{nil_from_length}
use Rattle.std.specs.Arc.{arc_value}
use Rattle.vr_world.specs.Cluster.{world}
use Rattle.dir_lab.specs.private.Executions.{records_by, played}
use Rattle.dir_lab.specs.Shown.{shown_view}
use Rattle.dir_lab.proofs.Committed.{committed_is_one}
use Rattle.dir_lab.proofs.Replies.{replies_are_of_committed}
use Rattle.dir_lab.proofs.Schedules.{shown_all, played_by}
use Rattle.dir_lab.proofs.Searches.{searches_are_told}
use Rattle.dir_lab.proofs.lab.Lab.run.Goals as goal

pub returns-clause-searches : goal.returns-clause-searches
returns-clause-searches c = searches_are_told (arc_value c.args.self.now.schema) c.args.self.now.suffix
    c.args.self.now.count c.args.events.items (map shown_view c.loop-event.run.shown.items)
    (λ size. shown_all (arc_value c.args.self.now.schema) c.args.self.now.suffix c.args.self.now.count
    c.loop-event.event-iterator.rest.items (world c.loop-event.run.cluster) (records_by c.loop-event.run.kept.items)
    (map shown_view c.loop-event.run.shown.items) (played (arc_value c.args.self.now.schema) c.args.self.now.suffix
    c.args.self.now.count c.args.events.items) c.loop-event.invariant.shown
    (nil_from_length c.loop-event.event-iterator.rest.items (omega (arith, c.in-None.ensures.steps.0)))
    ∙ played_by (arc_value c.args.self.now.schema) c.args.self.now.suffix c.args.self.now.count size
    c.args.events.items)

pub returns-clause-replies : goal.returns-clause-replies
returns-clause-replies c = replies_are_of_committed (arc_value c.args.self.now.schema) c.args.self.now.suffix
    c.args.self.now.count c.args.events.items (map shown_view c.loop-event.run.shown.items)
    (λ size. shown_all (arc_value c.args.self.now.schema) c.args.self.now.suffix c.args.self.now.count
    c.loop-event.event-iterator.rest.items (world c.loop-event.run.cluster) (records_by c.loop-event.run.kept.items)
    (map shown_view c.loop-event.run.shown.items) (played (arc_value c.args.self.now.schema) c.args.self.now.suffix
    c.args.self.now.count c.args.events.items) c.loop-event.invariant.shown
    (nil_from_length c.loop-event.event-iterator.rest.items (omega (arith, c.in-None.ensures.steps.0)))
    ∙ played_by (arc_value c.args.self.now.schema) c.args.self.now.suffix c.args.self.now.count size
    c.args.events.items)

pub returns-clause-committed : goal.returns-clause-committed
returns-clause-committed c = λ size. committed_is_one c.args.self.now.count c.args.events.items size

pub returns-clause-shown : goal.returns-clause-shown
returns-clause-shown c =
    (λ size. shown_all (arc_value c.args.self.now.schema) c.args.self.now.suffix c.args.self.now.count
    c.loop-event.event-iterator.rest.items (world c.loop-event.run.cluster) (records_by c.loop-event.run.kept.items)
    (map shown_view c.loop-event.run.shown.items) (played (arc_value c.args.self.now.schema) c.args.self.now.suffix
    c.args.self.now.count c.args.events.items) c.loop-event.invariant.shown
    (nil_from_length c.loop-event.event-iterator.rest.items (omega (arith, c.in-None.ensures.steps.0)))
    ∙ played_by (arc_value c.args.self.now.schema) c.args.self.now.suffix c.args.self.now.count size
    c.args.events.items)
