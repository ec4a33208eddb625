use Rattle.std.proofs.Common.{◌≡◌, [], drop, map}
use Rattle.ldap_op.specs.ldap_parts.View.{attribute_view}
use Rattle.entry_changes.specs.dir_entry.Entry.{attributes_of, IsKeyedBy}
use Rattle.entry_updates.specs.Adding.{with_all_given}
use Rattle.entry_updates.proofs.adding.entry_given.Given as goal

-- what is left to add, to the entry so far, is all that is given
abbrev pub invariant-loop-attribute : goal.invariant-loop-attribute
invariant-loop-attribute l =
    (with_all_given l.schema (map attribute_view (drop l.attribute-index l.given)) (attributes_of l.entry) ≡
    with_all_given l.schema (map attribute_view l.given) [])
    × IsKeyedBy l.schema l.entry
