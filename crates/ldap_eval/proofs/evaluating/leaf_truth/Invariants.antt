use Rattle.std.proofs.Common.{◌≡◌, drop, map}
use Rattle.dir_entry.specs.ldap_match.Truth.{truth_or, disjunction}
use Rattle.ldap_eval.specs.Bound.{leaf_on}
use Rattle.ldap_eval.proofs.evaluating.leaf_truth.Given as goal

abbrev pub invariant-loop-place : goal.invariant-loop-place
invariant-loop-place l = truth_or l.truth (disjunction (map (leaf_on l.leaf) (drop l.place l.entry))) ≡
    disjunction (map (leaf_on l.leaf) l.entry)
