use Rattle.std.proofs.Common.{◌≡◌, length, map}
use Rattle.dir_entry.specs.ldap_match.Truth.{truth_or, disjunction}
use Rattle.dir_entry.specs.ldap_dn.Pairs.{pairs_of}
use Rattle.ldap_eval.specs.Bound.{match_on_name_pair}
use Rattle.ldap_eval.proofs.evaluating.any_in_name.Given as goal

abbrev pub invariant-loop-above : goal.invariant-loop-above
invariant-loop-above g l =
    truth_or l.truth (disjunction (map (match_on_name_pair l.matching)
    (pairs_of (g.N.NamePairs.named l.name l.number))))
    ≡ disjunction (map (match_on_name_pair l.matching) (pairs_of (g.N.NamePairs.name l.name)))

abbrev pub decreases-loop-above : goal.decreases-loop-above
decreases-loop-above g l = length (g.N.NamePairs.named l.name l.number)
