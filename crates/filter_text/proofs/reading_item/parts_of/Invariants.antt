-- Filter texts, reading: what the loop of `parts_of` keeps, and what grows less.
use Rattle.std.proofs.Common.{◌≡◌, map, length, nat_eq}
use Rattle.std.specs.List.{slice_split}
use Rattle.filter_text.specs.private.Cuts.{spread, parts_of}
use Rattle.filter_text.proofs.reading_item.parts_of.Given as goal

abbrev pub invariant-loop-rest : goal.invariant-loop-rest
invariant-loop-rest l = spread (map (λ v. v.items) l.any.items) (slice_split (λ c. nat_eq c 42) l.rest) ≡
    parts_of l.octets

abbrev pub decreases-loop-rest : goal.decreases-loop-rest
decreases-loop-rest l = length l.rest
