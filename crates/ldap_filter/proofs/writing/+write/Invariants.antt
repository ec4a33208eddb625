-- What the loops of `write` keep, and what grows less.
use Rattle.std.proofs.Common.{◌≡◌, ◌++◌, take}
use Rattle.ldap_filter.specs.private.View.{views}
use Rattle.ldap_filter.specs.Grammar.{filters_bytes}
use Rattle.ldap_filter.proofs.writing.+write.Given as goal

abbrev pub invariant-put_row-loop-filter : goal.invariant-put_row-loop-filter
invariant-put_row-loop-filter l = l.out.items ≡ l.initial.out.items ++ filters_bytes
    (views (take l.filter-index l.filters))
