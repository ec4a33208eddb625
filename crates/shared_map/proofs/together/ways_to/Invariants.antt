use Rattle.std.proofs.Common.{◌≡◌, ◌++◌, drop, map}
use Rattle.std.specs.Map.{lookup}
use Rattle.std.specs.BTreeMap.{is_at}
use Rattle.shared_map.proofs.together.ways_to.Given as goal

abbrev pub invariant-loop-one : goal.invariant-loop-one
invariant-loop-one g l = l.ways.items ++ map (λ q. lookup (is_at (g.K.Ord.cmp (g.Q.Sought.key q))) l.tree.0)
    (drop l.one-index l.sought)
    ≡ map (λ q. lookup (is_at (g.K.Ord.cmp (g.Q.Sought.key q))) l.tree.0) l.sought
