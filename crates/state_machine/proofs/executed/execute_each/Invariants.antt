use Rattle.std.proofs.Common.{◌≡◌, ◌++◌, take}
use Rattle.state_machine.proofs.executed.execute_each.Given as goal

-- so far the records up to this one are executed
abbrev pub invariant-loop-entry : goal.invariant-loop-entry
invariant-loop-entry l = record {
  grown : l.executed.records ≡ l.fn.executed.records ++ take l.entry-index l.records;
  schema : l.executed.schema ≡ l.fn.executed.schema;
  suffix : l.executed.suffix ≡ l.fn.executed.suffix;
  indexes : l.executed.indexes ≡ l.fn.executed.indexes;
}
