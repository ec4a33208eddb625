use Rattle.std.proofs.Common.{◌≡◌, drop, map}
use Rattle.dir_entry.specs.ldap_match.Truth.{truth_or, disjunction}
use Rattle.ldap_eval.specs.Bound.{match_on}
use Rattle.ldap_eval.proofs.evaluating.any_match.Given as goal

abbrev pub invariant-loop-attribute : goal.invariant-loop-attribute
invariant-loop-attribute l = truth_or l.truth
    (disjunction (map (match_on l.matching) (drop l.attribute-index l.attributes))) ≡
    disjunction (map (match_on l.matching) l.attributes)
