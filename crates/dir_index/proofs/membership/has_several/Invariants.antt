use Rattle.std.proofs.Common.{◌≡◌, length}
use Rattle.dir_index.specs.Postings.{has_several}
use Rattle.dir_index.proofs.membership.has_several.Given as goal

abbrev pub invariant-loop-attribute : goal.invariant-loop-attribute
invariant-loop-attribute l = has_several l.type_id l.rest ≡ has_several l.type_id l.attributes

abbrev pub decreases-loop-attribute : goal.decreases-loop-attribute
decreases-loop-attribute l = length l.rest
