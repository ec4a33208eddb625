use Rattle.std.proofs.Common.{◌≡◌, drop, map}
use Rattle.schema_faults.specs.Indexes.{first_no_rule}
use Rattle.schema_faults.proofs.indexes.first_no_rule.Given as goal

abbrev pub invariant-loop-kind : goal.invariant-loop-kind
invariant-loop-kind l =
    first_no_rule l.schema l.type_id l.name (map (λ x. x.now) (drop l.kind-index l.kinds)) ≡ first_no_rule l.schema
    l.type_id l.name (map (λ x. x.now) l.kinds)
