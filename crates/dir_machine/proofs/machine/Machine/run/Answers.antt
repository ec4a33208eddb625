-- What search doesn't prove of `run`: `loop-event-init`, `loop-event-preserved` and what it returns, by lemmas of
-- `Played`.
use Rattle.std.proofs.Common.{◌≡◌, arith, rules, subst, sym, List}
use Rattle.std.proofs.lemmas.List.{nil_from_length}
use Rattle.dir_machine.proofs.Played.{IsPlayedSoFar, all_so_far, none_so_far, one_so_far}
use Rattle.dir_machine.specs.declared.events.MachineEvent.{MachineEvent}
use Rattle.dir_machine.proofs.machine.Machine.run.Goals as goal

pub loop-event-init : goal.loop-event-init
loop-event-init c =
    let e : c.into_iter-event-iterator.result.rest.items ≡ c.args.schedule.items = search rules in
    subst (λ (l : List MachineEvent). IsPlayedSoFar c.args.self.now c.args.schedule.items l c.in_ok-run.run') (sym e)
    (none_so_far c.args.self.now c.args.schedule.items c.in_ok-run.run' c.in_ok-run.ensures.processes
    c.in_ok-run.ensures.shown)

pub loop-event-preserved : goal.loop-event-preserved
loop-event-preserved c =
    one_so_far c.args.self.now c.args.schedule.items c.next.new.self.rest.items c.in-Some.event c.loop-event.run
    c.take_event.new.run
    (subst (λ (l : List MachineEvent). IsPlayedSoFar c.args.self.now c.args.schedule.items l c.loop-event.run)
    c.in-Some.ensures.steps.0 c.loop-event.invariant)
    c.in_ok-take_event.ensures

pub returns : goal.returns
returns c = record {
  whole = λ size. all_so_far c.args.self.now c.args.schedule.items c.loop-event.run
      (subst (λ (l : List MachineEvent). IsPlayedSoFar c.args.self.now c.args.schedule.items l c.loop-event.run)
      (nil_from_length c.loop-event.event-iterator.rest.items (omega (arith, c.in-None.ensures.steps.0)))
      c.loop-event.invariant) size;
}
