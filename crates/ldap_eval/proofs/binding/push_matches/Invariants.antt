use Rattle.std.proofs.Common.{◌≡◌, ◌++◌, drop}
use Rattle.ldap_eval.specs.Bound.{matches_from, matches_for}
use Rattle.ldap_eval.proofs.binding.push_matches.Given as goal

abbrev pub invariant-loop-number : goal.invariant-loop-number
invariant-loop-number l = l.matches.items ++ matches_from l.schema l.item.how l.item.asked_type.now
    l.item.assertion.now l.in_name (drop l.number l.schema.types) l.number ≡ l.fn.matches.items ++ matches_for
    l.schema l.item.how l.item.asked_type.now l.item.assertion.now l.in_name
