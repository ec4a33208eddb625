use Rattle.std.proofs.Common.{◌≡◌, drop}
use Rattle.std.specs.List.{list_any}
use Rattle.std.specs.Str.{bytes_eq}
use Rattle.value_parts.specs.Parts.{whole}
use Rattle.value_parts.specs.KeptParts.{octets_in}
use Rattle.value_parts.proofs.part_list.PartList.has.Given as goal

abbrev pub invariant-loop-part : goal.invariant-loop-part
invariant-loop-part l = list_any (bytes_eq l.sought) (octets_in l.by_keys (whole (drop l.part-index l.self)))
    ≡ list_any (bytes_eq l.fn.octets) (octets_in l.by_keys (whole l.self))
