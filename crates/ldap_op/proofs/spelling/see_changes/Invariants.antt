use Rattle.std.proofs.Common.{map, take}
use Rattle.std.specs.List.{AllByRecursion}
use Rattle.std.specs.Str.{IsUtf8}
use Rattle.ldap_parts.specs.UpdateView.{change_view}
use Rattle.ldap_op.proofs.spelling.see_changes.Given as goal

abbrev pub invariant-loop-change : goal.invariant-loop-change
invariant-loop-change l = AllByRecursion (λ k. IsUtf8 k.modification.description)
    (map change_view (take l.change-index l.changes))
