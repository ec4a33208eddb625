-- What search doesn't prove of `any_by_place`: `loop-at-preserved` and what it returns, by lemmas of `Truths` and
-- `Named`.
use Rattle.std.proofs.Common.{ℕ, ◌<◌, ◌≤◌, List, map, length, drop, ap, sym, subst, ◌∙◌, add-one, arith}
use Rattle.std.proofs.lemmas.List.{drop_all}
use Rattle.dir_entry.specs.ldap_dn.Names.{RdnModel}
use Rattle.dir_entry.specs.ldap_dn.Pairs.{pairs_of}
use Rattle.dir_entry.specs.ldap_match.Truth.{truth_or, disjunction}
use Rattle.ldap_eval.specs.Bound.{match_on_name_pair}
use Rattle.ldap_eval.proofs.Truths.{or_false}
use Rattle.ldap_eval.proofs.Named.{name_step}
use Rattle.ldap_eval.proofs.evaluating.any_by_place.Goals as goal

pub loop-at-preserved : goal.loop-at-preserved
loop-at-preserved g c =
    let ns = g.N.NamePairs.named c.args.name.now c.args.number in
    let f = match_on_name_pair c.args.matching.now in
    let lt : c.loop-at.at < length ns = subst (λ (n : ℕ). c.loop-at.at < n) c.count-at-end.ensures c.loop-at-test.true
    in
    ap (λ (k : ℕ). truth_or c.or-truth.result (disjunction (map f (pairs_of (drop k ns))))) (add-one c.loop-at.at)
    ∙ name_step f ns c.loop-at.at c.loop-at.truth c.or-truth.result c.in_name_at.result _ lt c.in_name_at.ensures
    c.or-truth.ensures c.loop-at.invariant

pub returns : goal.returns
returns g c =
    let ns = g.N.NamePairs.named c.args.name.now c.args.number in
    let f = match_on_name_pair c.args.matching.now in
    let past : length ns ≤ c.loop-at.at = omega (arith, c.loop-at-test.false, c.count-at-end.ensures) in
    sym (ap (λ (xs : List RdnModel). truth_or c.loop-at.truth (disjunction (map f (pairs_of xs))))
    (drop_all c.loop-at.at ns past) ∙ or_false c.loop-at.truth)
    ∙ c.loop-at.invariant
