-- What search doesn't prove of `compare_one`: what it returns, by lemmas of `Asked` and `Played`.
use Rattle.std.proofs.Common.{Some, refl, sym, ap, ◌∙◌, arith, inl}
use Rattle.std.proofs.lemmas.Option.{slice_get-get_or}
use Rattle.dir_machine.proofs.Asked.{on_ok}
use Rattle.dir_machine.proofs.Played.{away_on, compare_on}
use Rattle.dir_machine.specs.declared.events.MachineEvent.TheVariants as kinds
use Rattle.dir_machine.specs.declared.process.Process.{Process}
use Rattle.dir_machine.proofs.running.compare_one.Goals as goal

pub returns-then-machine-replica : goal.returns-then-machine-replica
returns-then-machine-replica c =
    on_ok c.show_nothing.result (λ shown. away_on c.args.machine.now c.args.run.now c.show_nothing.new.run
    c.args.replica c.if-machine-replica.true shown (kinds.Compare c.args.replica c.args.named c.args.request)
    (λ w. (refl, inl c.if-machine-replica.true))) c.show_nothing.ensures

pub returns : goal.returns
returns c = compare_on c.args.machine.now c.args.run.now _ c.args.replica c.args.named c.args.request
    c.index.result.now c.compare-reply.result refl c.in_ok-push.ensures.items
    (slice_get-get_or c.args.run.now.processes.items c.args.replica c.index.result.now
    (omega (arith, c.requires, c.if-machine-replica.false))
    ∙ ap (λ (p : Process). Some p) (sym c.index.ensures))
    c.compare-reply.ensures
