use Rattle.std.proofs.Common.{◌≡◌, ◌++◌, ◌-◌, length}
use Rattle.ldap_schema.specs.Schema.{superiors}
use Rattle.ldap_schema.proofs.tables.superiors.Given as goal

abbrev pub invariant-loop : goal.invariant-loop
invariant-loop l = l.found.items ++ superiors (length l.types - l.counter) l.types l.current ≡
    superiors (length l.types) l.types l.fn.type_id
