use Rattle.std.proofs.Common.{◌≡◌, ◌-◌, ◌&&◌, not}
use Rattle.ldif_faults.specs.Classes.{foreign, has, lowest}
use Rattle.ldif_faults.proofs.classes.foreign.Given as goal

abbrev pub invariant-loop-number : goal.invariant-loop-number
invariant-loop-number l = lowest (λ t. has l.types t && not (has l.others t)) l.number (l.types.count - l.number) ≡
    foreign l.types l.others
