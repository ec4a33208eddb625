-- Filter texts, checks: what the loop of `are_parts` keeps.
use Rattle.std.proofs.Common.{◌≡◌, drop, map}
use Rattle.std.specs.List.{list_all}
use Rattle.filter_text.specs.Items.{is_part}
use Rattle.filter_text.proofs.checking.are_parts.Given as goal

abbrev pub invariant-loop-value : goal.invariant-loop-value
invariant-loop-value l = list_all is_part (map (λ v. v.items) (drop l.value-index l.values)) ≡ list_all is_part
    (map (λ v. v.items) l.values)
