-- Filter texts, printing: what the loop of `put_filters` keeps.
use Rattle.std.proofs.Common.{◌≡◌, ◌++◌, drop, string_bytes, length}
use Rattle.ldap_filter.specs.private.View.{views}
use Rattle.filter_text.specs.Grammar.{filter_texts}
use Rattle.filter_text.proofs.printing.+print.Given as goal

abbrev pub invariant-put_filters-loop-filter : goal.invariant-put_filters-loop-filter
invariant-put_filters-loop-filter l =
    (string_bytes l.out ++ filter_texts (views (drop l.filter-index l.filters)) ≡ string_bytes
    l.fn.out ++ filter_texts (views l.filters))
    × (string_bytes l.out ≡ string_bytes l.fn.out ++ drop (length (string_bytes l.fn.out)) (string_bytes l.out))
