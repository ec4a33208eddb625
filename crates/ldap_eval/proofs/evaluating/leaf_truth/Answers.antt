-- What search doesn't prove of `leaf_truth`: what it returns and `loop-place-preserved`, by lemmas of `Leaves`.
use Rattle.std.proofs.Common.{rules, ◌≡◌, ◌+◌, ◌<◌, List, map, drop, length, sym, ap, subst, ◌∙◌}
use Rattle.dir_entry.specs.Entry.{KeyedAttribute}
use Rattle.dir_entry.specs.ldap_match.Truth.{truth_or, disjunction}
use Rattle.dir_entry.specs.ldap_match.declared.truth.Truth.{Truth}
use Rattle.dir_entry.specs.ldap_match.declared.truth.Truth.TheVariants.{True}
use Rattle.ldap_eval.specs.Bound.{leaf_on}
use Rattle.ldap_eval.proofs.Leaves.{leaf_more}
use Rattle.ldap_eval.proofs.evaluating.leaf_truth.Goals as goal

pub returns-then-eq : goal.returns-then-eq
returns-then-eq c =
    let rest = disjunction (map (leaf_on c.args.leaf.now) (drop (c.loop-place.place + 1) c.args.entry.now)) in
    let is_true : c.or-truth.result ≡ True = search rules in
    is_true ∙ sym (sym c.loop-place.invariant
    ∙ leaf_more c.args.leaf.now c.args.entry.now c.loop-place.place c.loop-place.truth c.leaf_at.result
    (subst (λ (e : List KeyedAttribute). c.loop-place.place < length e) c.attributes-place-end.ensures
    c.loop-place-test.true) c.leaf_at.ensures
    ∙ ap (λ (x : Truth). truth_or x rest) (sym c.or-truth.ensures ∙ is_true))

pub loop-place-preserved : goal.loop-place-preserved
loop-place-preserved c =
    ap (λ (x : Truth). truth_or x
    (disjunction (map (leaf_on c.args.leaf.now) (drop (c.loop-place.place + 1) c.args.entry.now))))
    c.or-truth.ensures
    ∙ sym (leaf_more c.args.leaf.now c.args.entry.now c.loop-place.place c.loop-place.truth c.leaf_at.result
    (subst (λ (e : List KeyedAttribute). c.loop-place.place < length e) c.attributes-place-end.ensures
    c.loop-place-test.true) c.leaf_at.ensures)
    ∙ c.loop-place.invariant
