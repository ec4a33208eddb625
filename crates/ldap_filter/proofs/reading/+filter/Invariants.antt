-- What the loops of `filter` keep, and what grows less.
use Rattle.std.proofs.Common.{◌+◌, ◌*◌}
use Rattle.ldap_filter.specs.private.View.{views}
use Rattle.ldap_filter.proofs.Rows.{SoFar}
use Rattle.ldap_filter.proofs.reading.+filter.Given as goal

abbrev pub decreases-filter_of : goal.decreases-filter_of
decreases-filter_of l = 2 * l.depth

abbrev pub decreases-row_of : goal.decreases-row_of
decreases-row_of l = 2 * l.depth + 1

abbrev pub invariant-row_of-loop-rest : goal.invariant-row_of-loop-rest
invariant-row_of-loop-rest l = SoFar l.depth l.initial.items l.content (views l.filters.items) l.left l.rest

abbrev pub decreases-row_of-loop-rest : goal.decreases-row_of-loop-rest
decreases-row_of-loop-rest l = l.left
