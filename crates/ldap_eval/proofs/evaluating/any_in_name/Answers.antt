-- What search doesn't prove of `any_in_name`: `loop-above-preserved`, by lemmas of `Named`.
use Rattle.std.proofs.Common.{ℕ, List}
use Rattle.dir_entry.specs.ldap_dn.Names.{RdnModel}
use Rattle.dir_entry.specs.ldap_dn.Pairs.{pairs_of}
use Rattle.dir_entry.specs.ldap_match.Truth.{truth_or, disjunction}
use Rattle.ldap_eval.specs.Bound.{match_on_name_pair}
use Rattle.ldap_eval.proofs.Named.{name_up}
use Rattle.ldap_eval.proofs.evaluating.any_in_name.Goals as goal

pub loop-above-preserved : goal.loop-above-preserved
loop-above-preserved g c =
    let named = g.N.NamePairs.named c.args.name.now in
    name_up (match_on_name_pair c.args.matching.now) (named c.loop-above.number) (named c.in-Some.above)
    c.in-Some.rdn.now c.loop-above.truth c.or-truth.result c.any_in_rdn.result _
    c.in-Some.ensures c.any_in_rdn.ensures c.or-truth.ensures c.loop-above.invariant
