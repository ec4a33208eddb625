use Rattle.std.proofs.Common.{◌≡◌, drop, map}
use Rattle.dir_entry.specs.ldap_match.Truth.{truth_or, disjunction}
use Rattle.dir_entry.specs.ldap_dn.Names.{TypeAndValue}
use Rattle.dir_entry.specs.ldap_dn.Pairs.{pair_in}
use Rattle.ldap_eval.specs.Bound.{match_on_name_pair}
use Rattle.ldap_eval.proofs.evaluating.any_written.Given as goal

abbrev pub invariant-loop-one : goal.invariant-loop-one
invariant-loop-one l =
    truth_or l.truth (disjunction (map (λ (v : TypeAndValue). match_on_name_pair l.matching (pair_in l.rdn.keys v))
    (drop l.one-index l.written)))
    ≡ disjunction (map (λ (v : TypeAndValue). match_on_name_pair l.matching (pair_in l.rdn.keys v)) l.written)
