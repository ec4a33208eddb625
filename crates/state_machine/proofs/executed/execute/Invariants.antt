use Rattle.std.proofs.Common.{◌≡◌, ◌≤◌, ◌-◌, ◌++◌, length, take}
use Rattle.state_machine.proofs.executed.execute.Given as goal

-- so far these many records are executed
abbrev pub invariant-loop-done : goal.invariant-loop-done
invariant-loop-done l = record {
  within : l.done ≤ length l.records;
  grown : l.executed.records ≡ l.fn.executed.records ++ take l.done l.records;
  schema : l.executed.schema ≡ l.fn.executed.schema;
  suffix : l.executed.suffix ≡ l.fn.executed.suffix;
  indexes : l.executed.indexes ≡ l.fn.executed.indexes;
}

abbrev pub decreases-loop-done : goal.decreases-loop-done
decreases-loop-done l = length l.records - l.done
