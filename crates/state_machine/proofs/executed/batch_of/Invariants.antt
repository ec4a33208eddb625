use Rattle.std.proofs.Common.{◌≡◌, ◌+◌, take}
use Rattle.state_machine.specs.private.Executing.{IsRun, replies_view}
use Rattle.state_machine.proofs.executed.batch_of.Given as goal

-- so far the updates of the records up to this one are made
abbrev pub invariant-loop-entry : goal.invariant-loop-entry
invariant-loop-entry l = record {
  number : l.last ≡ l.fn.number + l.entry-index;
  records : l.records.items ≡ take l.entry-index l.entries;
  run : IsRun l.fn.store.directory l.fn.number (take l.entry-index l.entries) l.store.directory
      (replies_view l.replies.items);
  indexes : l.store.indexes ≡ l.fn.store.indexes;
}
