-- LDIF and messages: what the loop of `entries` keeps.
use Rattle.std.proofs.Common.{◌≡◌, ◌++◌}
use Rattle.ldif.specs.Exports.{entries_in}
use Rattle.ldif.proofs.ending.entries.Given as goal

abbrev pub invariant-loop-next : goal.invariant-loop-next
invariant-loop-next l = l.records.items ++ entries_in l.next-iterator.rest.items ≡ entries_in l.fn.meant.items
