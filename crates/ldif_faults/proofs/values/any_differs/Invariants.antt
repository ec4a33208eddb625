use Rattle.std.proofs.Common.{◌≡◌, drop}
use Rattle.std.specs.List.{list_any}
use Rattle.ldif_faults.specs.Values.{differs}
use Rattle.ldif_faults.proofs.values.any_differs.Given as goal

abbrev pub invariant-loop-pair : goal.invariant-loop-pair
invariant-loop-pair l = list_any (differs l.schema l.type_id l.identity) (drop l.pair-index l.pairs) ≡
    list_any (differs l.schema l.type_id l.identity) l.pairs
