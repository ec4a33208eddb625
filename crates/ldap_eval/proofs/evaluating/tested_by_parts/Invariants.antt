use Rattle.std.proofs.Common.{[]}
use Rattle.dir_entry.specs.ldap_match.Keyed.{test_value}
use Rattle.ldap_eval.proofs.ByParts.{IsOrSoFar}
use Rattle.ldap_eval.proofs.evaluating.tested_by_parts.Given as goal

abbrev pub invariant-loop-part : goal.invariant-loop-part
invariant-loop-part l = IsOrSoFar l.truth (test_value l.test l.rest.keys) (test_value l.test [])
    (test_value l.test l.attribute.keys)

abbrev pub decreases-loop-part : goal.decreases-loop-part
decreases-loop-part l = l.rest.count
