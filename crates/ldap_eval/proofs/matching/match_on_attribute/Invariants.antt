use Rattle.std.proofs.Common.{[]}
use Rattle.ldap_eval.specs.Matched.{match_value}
use Rattle.ldap_eval.proofs.ByParts.{IsOrSoFar}
use Rattle.ldap_eval.proofs.matching.match_on_attribute.Given as goal

abbrev pub invariant-loop-part : goal.invariant-loop-part
invariant-loop-part l = IsOrSoFar l.truth (match_value l.test l.rest.values l.rest.keys) (match_value l.test [] [])
    (match_value l.test l.attribute.values l.attribute.keys)

abbrev pub decreases-loop-part : goal.decreases-loop-part
decreases-loop-part l = l.rest.count
