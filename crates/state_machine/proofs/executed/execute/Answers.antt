use Rattle.std.proofs.Common.{◌+◌, ◌-◌, ◌∙◌, arith}
use Rattle.state_machine.proofs.Dues.{grows, stops_within, where_err}
use Rattle.state_machine.proofs.executed.execute.Goals as goal

-- the first that is refused memory is in this piece
pub returns-in_err-execute_some-clause-err : goal.returns-in_err-execute_some-clause-err
returns-in_err-execute_some-clause-err c =
    where_err c.from_residual.result _
    (stops_within c.loop-done.done (c.loop-done.done + c.min.result - c.loop-done.done) c.args.executed.now.records
    c.args.records.now c.loop-done.executed.records c.execute_some.new.executed.records c.loop-done.invariant.grown
    c.in_err-execute_some.ensures.err)

-- one more piece is executed
pub loop-done-preserved : goal.loop-done-preserved
loop-done-preserved c =
    let d = c.loop-done.done in
    let e = d + c.min.result in
    record {
      within = omega (arith, c.min.ensures, c.loop-done-test.true);
      grown = grows d e c.args.executed.now.records c.args.records.now c.loop-done.executed.records
          c.execute_some.new.executed.records (omega arith) c.loop-done.invariant.grown
          c.in_ok-execute_some.ensures.ok;
      schema = c.execute_some.ensures.schema ∙ c.loop-done.invariant.schema;
      suffix = c.execute_some.ensures.suffix ∙ c.loop-done.invariant.suffix;
      indexes = c.execute_some.ensures.indexes ∙ c.loop-done.invariant.indexes;
    }
