use Rattle.std.proofs.Common.{◌≡◌, drop, map}
use Rattle.ldap_op.specs.ldap_parts.UpdateView.{change_view}
use Rattle.entry_changes.specs.dir_entry.Entry.{attributes_of, IsKeyedBy}
use Rattle.entry_updates.specs.Modifying.{all_changed}
use Rattle.entry_updates.proofs.modifying.change_all.Given as goal

-- what is left to change, on the entry so far, is all that is asked
abbrev pub invariant-loop-asked : goal.invariant-loop-asked
invariant-loop-asked l =
    (all_changed l.schema (map change_view (drop l.asked-index l.changes)) (attributes_of l.so_far) ≡
    all_changed l.schema (map change_view l.changes) (attributes_of l.fn.entry))
    × IsKeyedBy l.schema l.so_far
