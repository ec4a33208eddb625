use Rattle.std.proofs.Common.{◌≡◌, ◌-◌, length, nat_eq}
use Rattle.std.specs.List.{list_any}
use Rattle.ldap_schema.specs.Schema.{superiors}
use Rattle.ldap_schema.proofs.tables.leads_to.Given as goal

abbrev pub invariant-loop : goal.invariant-loop
invariant-loop l = list_any (λ t. nat_eq t l.above) (superiors (length l.types - l.counter) l.types l.current) ≡
    list_any (λ t. nat_eq t l.above) (superiors (length l.types) l.types l.fn.type_id)
