use Rattle.std.proofs.Common.{◌≡◌, drop}
use Rattle.std.specs.List.{position_from}
use Rattle.ldap_schema.specs.Schema.{is_called}
use Rattle.ldap_schema.proofs.tables.class_called.Given as goal

abbrev pub invariant-loop-number : goal.invariant-loop-number
invariant-loop-number l = position_from (λ t. is_called l.name t.oid t.names) l.number (drop l.number l.classes) ≡
    position_from (λ t. is_called l.name t.oid t.names) 0 l.classes
