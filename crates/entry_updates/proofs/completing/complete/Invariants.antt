use Rattle.std.proofs.Common.{◌≡◌, ◌++◌}
use Rattle.dir_entry.specs.Entry.{attributes_of, IsKeyedBy}
use Rattle.entry_updates.specs.Classes.{completed}
use Rattle.entry_updates.proofs.completing.complete.Given as goal

abbrev pub invariant-loop-attribute : goal.invariant-loop-attribute
invariant-loop-attribute l =
    (attributes_of l.done.items ++ completed l.schema (attributes_of l.attribute-iterator.rest.items) ≡
    completed l.schema (attributes_of l.fn.attributes.items))
    × (IsKeyedBy l.schema l.fn.attributes.items → IsKeyedBy l.schema l.done.items
    × IsKeyedBy l.schema l.attribute-iterator.rest.items)
