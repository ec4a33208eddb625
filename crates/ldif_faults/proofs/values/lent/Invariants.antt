use Rattle.std.proofs.Common.{◌≡◌, ◌++◌, drop, map}
use Rattle.ldif_faults.proofs.values.lent.Given as goal

abbrev pub invariant-loop-list : goal.invariant-loop-list
invariant-loop-list l = map (λ x. x.now) l.all.items ++ map (λ x. x.items) (drop l.list-index l.lists) ≡
    map (λ x. x.items) l.lists
