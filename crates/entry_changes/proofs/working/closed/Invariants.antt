use Rattle.std.proofs.Common.{◌≡◌, ◌++◌}
use Rattle.entry_changes.proofs.working.closed.Given as goal

abbrev pub invariant-loop-attribute : goal.invariant-loop-attribute
invariant-loop-attribute l = l.closed.items ++ l.attribute-iterator.rest.items ≡ l.fn.attributes.items
