use Rattle.std.proofs.Common.{◌≡◌, false, take}
use Rattle.std.specs.List.{list_any}
use Rattle.std.specs.Ordering.{eq_by_cmp}
use Rattle.std.specs.BTreeSet.{contains}
use Rattle.dir_entry.specs.Values.{has_twice}
use Rattle.dir_entry.proofs.repeats.has_equal.Given as goal

abbrev pub invariant-loop-item : goal.invariant-loop-item
invariant-loop-item g l =
    (has_twice (eq_by_cmp g.K.Ord.cmp) (take l.item-index l.list) ≡ false)
    × ((q : g.row.K.Denot) → contains g.K.Ord.cmp l.seen q ≡ list_any (eq_by_cmp g.K.Ord.cmp q)
    (take l.item-index l.list))
