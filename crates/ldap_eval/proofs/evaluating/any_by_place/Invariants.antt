use Rattle.std.proofs.Common.{◌≡◌, drop, map}
use Rattle.dir_entry.specs.ldap_match.Truth.{truth_or, disjunction}
use Rattle.dir_entry.specs.ldap_dn.Pairs.{pairs_of}
use Rattle.ldap_eval.specs.Bound.{match_on_name_pair}
use Rattle.ldap_eval.proofs.evaluating.any_by_place.Given as goal

abbrev pub invariant-loop-at : goal.invariant-loop-at
invariant-loop-at g l =
    truth_or l.truth (disjunction (map (match_on_name_pair l.matching)
    (pairs_of (drop l.at (g.N.NamePairs.named l.name l.number)))))
    ≡ disjunction (map (match_on_name_pair l.matching) (pairs_of (g.N.NamePairs.named l.name l.number)))
