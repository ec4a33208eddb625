use Rattle.std.proofs.Common.{◌≡◌, ◌++◌, drop, map}
use Rattle.ldif_faults.specs.Values.{identity}
use Rattle.ldif_faults.proofs.values.identities.Given as goal

abbrev pub invariant-loop-line : goal.invariant-loop-line
invariant-loop-line l = map (λ x. x.items) l.all.items ++ map (identity l.schema) (drop l.line-index l.lines) ≡
    map (identity l.schema) l.lines
