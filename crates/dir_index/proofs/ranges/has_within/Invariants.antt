use Rattle.std.proofs.Common.{◌≡◌}
use Rattle.std.specs.List.{list_any}
use Rattle.dir_index.specs.Postings.{in_range}
use Rattle.dir_index.proofs.ranges.has_within.Given as goal

abbrev pub invariant-loop-part : goal.invariant-loop-part
invariant-loop-part l = list_any (in_range l.range) l.rest.keys ≡ list_any (in_range l.range) l.attribute.keys

abbrev pub decreases-loop-part : goal.decreases-loop-part
decreases-loop-part l = l.rest.count
