use Rattle.std.proofs.Common.{◌≡◌, ◌-◌, length}
use Rattle.std.specs.List.{list_any}
use Rattle.dir_tree.specs.ldap_schema.Schema.{superiors}
use Rattle.directory_api.specs.private.Resolved.{is_held}
use Rattle.directory_api.proofs.selection.leads_to_some.Given as goal

-- what is left of the chain answers as the whole
abbrev pub invariant-loop : goal.invariant-loop
invariant-loop l = list_any (is_held l.types) (superiors (length l.schema.types) l.schema.types l.fn.type_id) ≡
    list_any (is_held l.types) (superiors (length l.schema.types - l.counter) l.schema.types l.current)
