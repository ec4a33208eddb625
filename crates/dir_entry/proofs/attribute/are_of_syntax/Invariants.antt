use Rattle.std.proofs.Common.{ℕ, Vec, Global, ◌≡◌, drop}
use Rattle.std.specs.List.{list_all}
use Rattle.ldap_match.specs.Item.{is_of_syntax}
use Rattle.dir_entry.proofs.attribute.are_of_syntax.Given as goal

abbrev pub invariant-loop-value : goal.invariant-loop-value
invariant-loop-value l = list_all (λ (v : Vec ℕ Global). is_of_syntax l.schema l.type_id v.items)
    (drop l.value-index l.values) ≡ list_all (λ (v : Vec ℕ Global). is_of_syntax l.schema l.type_id v.items) l.values
