-- What search doesn't prove of `ask_search`: the clause `next`, by lemmas of `Kept` and `Schedules`.
use Rattle.std.proofs.Common.{nat_lt, List, Option, refl, ap₂, ◌∙◌, arith, lt-ltb}
use Rattle.std.specs.Arc.{arc_value}
use Rattle.vr_state.specs.State.{State}
use Rattle.vr_state.specs.Words.{LogEntry}
use Rattle.vr_world.specs.Cluster.{world}
use Rattle.state_machine.specs.dir_store.ldap_op.Values.{OpValue}
use Rattle.dir_search.specs.ldap_msg.View.{search_view}
use Rattle.dir_lab.specs.private.Executions.{records_by}
use Rattle.dir_lab.specs.Schedule.{found}
use Rattle.dir_lab.proofs.Kept.{records_here}
use Rattle.dir_lab.proofs.Schedules.{shown_one}
use Rattle.dir_lab.proofs.running.ask_search.Goals as goal

pub returns-in_ok-push-clause-next : goal.returns-in_ok-push-clause-next
returns-in_ok-push-clause-next c = record {
  world = refl;
  records = refl;
  shown = shown_one c.args.run.now.shown.items c.push.new.self.items c.in_ok-answer.answer
      (found (arc_value c.args.lab.now.schema) c.args.lab.now.suffix (records_by c.args.run.now.kept.items
      c.args.index) c.args.named (search_view c.args.request.now) ((world c.args.run.now.cluster).replicas
      c.args.index))
      (nat_lt c.args.index c.args.lab.now.count) c.in_ok-push.ensures.items
      (c.in_ok-answer.ensures
      ∙ ap₂ (λ (r : List (LogEntry OpValue)) (o : Option (State OpValue)). found (arc_value c.args.lab.now.schema)
      c.args.lab.now.suffix r c.args.named (search_view c.args.request.now) o)
      (records_here c.args.run.now.kept.items c.args.index c.index.result.now c.index.ensures
      (omega (arith, c.if-index-lab.true, c.requires.kept))) c.replica-replica.ensures)
      (lt-ltb c.args.index c.args.lab.now.count c.if-index-lab.true);
}
