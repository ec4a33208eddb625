-- Filter texts, checks: what the loop of `have_texts` keeps.
use Rattle.std.proofs.Common.{◌≡◌, drop}
use Rattle.ldap_filter.specs.private.View.{views}
use Rattle.filter_text.specs.Grammar.{have_texts}
use Rattle.filter_text.proofs.checking.+check.Given as goal

abbrev pub invariant-have_texts-loop-filter : goal.invariant-have_texts-loop-filter
invariant-have_texts-loop-filter l = have_texts (views (drop l.filter-index l.filters)) ≡ have_texts (views l.filters)
