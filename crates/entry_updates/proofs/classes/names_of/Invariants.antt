use Rattle.std.proofs.Common.{◌≡◌, ◌++◌, true, is_some, drop, map}
use Rattle.std.specs.List.{list_all}
use Rattle.dir_entry.specs.ldap_schema.Schema.{class_named}
use Rattle.entry_updates.specs.Classes.{names_of}
use Rattle.entry_updates.proofs.classes.names_of.Given as goal

abbrev pub invariant-loop-class : goal.invariant-loop-class
invariant-loop-class l =
    (map (λ v. v.items) l.names.items ++ names_of l.schema (drop l.class-index l.classes) ≡ names_of l.schema l.classes)
    × (list_all (λ v. is_some (class_named l.schema v.items)) l.names.items ≡ true)
