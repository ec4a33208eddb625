use Rattle.std.proofs.Common.{◌≡◌, [], drop, take}
use Rattle.std.specs.List.{list_any}
use Rattle.std.specs.Ordering.{eq_by_cmp}
use Rattle.std.specs.BTreeSet.{contains}
use Rattle.ldif_faults.specs.Values.{again_from}
use Rattle.ldif_faults.proofs.values.first_equal.Given as goal

abbrev pub invariant-loop-index : goal.invariant-loop-index
invariant-loop-index g l =
    (again_from (eq_by_cmp g.K.Ord.cmp) (take l.index l.list) l.index (drop l.index l.list) ≡
    again_from (eq_by_cmp g.K.Ord.cmp) [] 0 l.list)
    × ((q : g.row.K.Denot) → contains g.K.Ord.cmp l.seen q ≡ list_any (eq_by_cmp g.K.Ord.cmp q) (take l.index l.list))
