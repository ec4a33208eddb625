use Rattle.std.proofs.Common.{◌∙◌, ap}
use Rattle.state_machine.proofs.Dues.{stops, where_err}
use Rattle.state_machine.proofs.executed.execute_each.Goals as goal

-- the first that is refused memory
pub returns-in_err-next-clause-err : goal.returns-in_err-next-clause-err
returns-in_err-next-clause-err c =
    where_err c.from_residual.result _
    (stops c.loop-entry.entry-index c.args.executed.now.records c.args.records.now c.next.new.self.records
    (ap (λ e. e.records) c.in_err-next.ensures.err ∙ c.loop-entry.invariant.grown) c.loop-entry-test.true)
