-- Filter texts, reading: what the loop of `row_of` keeps, and what grows less.
use Rattle.std.proofs.Common.{◌+◌, ◌*◌, ◌≤◌}
use Rattle.ldap_filter.specs.private.View.{views}
use Rattle.filter_text.proofs.Rows.{SoFar}
use Rattle.filter_text.proofs.reading.+filter.Given as goal

abbrev pub decreases-filter_of : goal.decreases-filter_of
decreases-filter_of l = 4 * l.depth

abbrev pub decreases-inside_of : goal.decreases-inside_of
decreases-inside_of l = 4 * l.depth + 3

abbrev pub decreases-and_of : goal.decreases-and_of
decreases-and_of l = 4 * l.depth + 2

abbrev pub decreases-or_of : goal.decreases-or_of
decreases-or_of l = 4 * l.depth + 2

abbrev pub decreases-not_of : goal.decreases-not_of
decreases-not_of l = 4 * l.depth + 2

abbrev pub decreases-row_of : goal.decreases-row_of
decreases-row_of l = 4 * l.depth + 1

abbrev pub invariant-row_of-loop-alloc : goal.invariant-row_of-loop-alloc
invariant-row_of-loop-alloc l = SoFar l.depth l.initial.items l.text (views l.filters.items) l.left l.rest
    × (l.left ≤ l.initial.items)

abbrev pub decreases-row_of-loop-alloc : goal.decreases-row_of-loop-alloc
decreases-row_of-loop-alloc l = l.left
