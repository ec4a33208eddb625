-- What the loops of `copy` keep, and what grows less.
use Rattle.std.proofs.Common.{◌≡◌, take}
use Rattle.ldap_filter.specs.private.View.{views}
use Rattle.ldap_filter.proofs.copying.+copy.Given as goal

abbrev pub invariant-copy_row-loop-filter : goal.invariant-copy_row-loop-filter
invariant-copy_row-loop-filter l = views l.copies.items ≡ views (take l.filter-index l.filters)
