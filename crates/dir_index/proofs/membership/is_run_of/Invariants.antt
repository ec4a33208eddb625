use Rattle.std.proofs.Common.{◌≡◌}
use Rattle.std.specs.List.{list_any}
use Rattle.dir_index.specs.Postings.{stands_in}
use Rattle.dir_index.proofs.membership.is_run_of.Given as goal

abbrev pub invariant-loop-part : goal.invariant-loop-part
invariant-loop-part l = list_any (stands_in l.run) l.rest.keys ≡ list_any (stands_in l.run) l.attribute.keys

abbrev pub decreases-loop-part : goal.decreases-loop-part
decreases-loop-part l = l.rest.count
