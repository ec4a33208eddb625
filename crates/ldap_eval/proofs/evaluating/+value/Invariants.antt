use Rattle.std.proofs.Common.{◌≡◌, drop, map}
use Rattle.dir_entry.specs.ldap_match.Truth.{truth_and, truth_or, conjunction, disjunction}
use Rattle.ldap_eval.specs.Bound.{bound_value}
use Rattle.ldap_eval.proofs.evaluating.+value.Given as goal

abbrev pub invariant-all-loop-part : goal.invariant-all-loop-part
invariant-all-loop-part g l = truth_and l.truth (conjunction (map (bound_value (g.N.NamePairs.name l.name) l.entry)
    (drop l.part-index l.parts))) ≡ conjunction (map (bound_value (g.N.NamePairs.name l.name) l.entry) l.parts)

abbrev pub invariant-any-loop-part : goal.invariant-any-loop-part
invariant-any-loop-part g l = truth_or l.truth (disjunction (map (bound_value (g.N.NamePairs.name l.name) l.entry)
    (drop l.part-index l.parts))) ≡ disjunction (map (bound_value (g.N.NamePairs.name l.name) l.entry) l.parts)
