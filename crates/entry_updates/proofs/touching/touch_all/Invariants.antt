use Rattle.std.proofs.Common.{◌≡◌, ◌++◌, map, drop}
use Rattle.ldap_op.specs.ldap_parts.UpdateView.{change_view}
use Rattle.entry_changes.specs.dir_entry.Entry.{attributes_of, IsKeyedBy}
use Rattle.entry_updates.specs.Touched.{types_whole, all_values_named}
use Rattle.entry_updates.proofs.touching.touch_all.Given as goal

-- what is touched so far, and what is left to touch
abbrev pub invariant-loop-asked : goal.invariant-loop-asked
invariant-loop-asked l =
    record {
      types : l.touched.types.items ++ types_whole l.schema (map change_view (drop l.asked-index l.changes)) ≡
          l.initial.touched.types.items ++ types_whole l.schema (map change_view l.changes);
      named : attributes_of l.touched.named.items ++ all_values_named l.schema
          (map change_view (drop l.asked-index l.changes)) ≡ attributes_of l.initial.touched.named.items ++
          all_values_named l.schema (map change_view l.changes);
      keyed : IsKeyedBy l.schema l.initial.touched.named.items → IsKeyedBy l.schema l.touched.named.items;
    }
