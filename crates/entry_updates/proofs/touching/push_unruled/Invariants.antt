use Rattle.std.proofs.Common.{◌≡◌, ◌++◌, take}
use Rattle.entry_changes.specs.dir_entry.Entry.{attributes_of}
use Rattle.entry_updates.specs.Touched.{types_unruled}
use Rattle.entry_updates.proofs.touching.push_unruled.Given as goal

-- so far the types of the attributes up to this one
abbrev pub invariant-loop-attribute : goal.invariant-loop-attribute
invariant-loop-attribute l = l.types.items ≡ l.initial.types.items ++ types_unruled l.schema
    (attributes_of (take l.attribute-index l.attributes))
