use Rattle.std.proofs.Common.{◌≡◌, true, map}
use Rattle.std.specs.List.{list_all}
use Rattle.value_parts.specs.Parts.{whole, before}
use Rattle.value_parts.specs.KeptParts.{part_without}
use Rattle.value_parts.specs.private.Fitting.{fits}
use Rattle.value_parts.proofs.without.each_without.Given as goal

abbrev pub invariant-loop-part : goal.invariant-loop-part
invariant-loop-part l =
    (before (whole l.left.items) (whole (map (part_without l.given l.by_keys) l.part-iterator.rest.items)) ≡
    whole (map (part_without l.given l.by_keys) l.fn.parts.items))
    × (list_all (fits l.keyed) l.part-iterator.rest.items ≡ true)
