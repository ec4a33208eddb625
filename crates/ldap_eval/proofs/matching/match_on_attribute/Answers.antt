-- What search doesn't prove of `match_on_attribute`: `loop-part-preserved`, by lemmas of `ByParts`.
use Rattle.ldap_eval.proofs.ByParts.{matched_more}
use Rattle.ldap_eval.proofs.matching.match_on_attribute.Goals as goal

pub loop-part-preserved : goal.loop-part-preserved
loop-part-preserved c =
    matched_more c.args.test.now c.loop-part.rest.values c.in-Some-split_first.part.values.now
    c.in-Some-split_first.others.values c.loop-part.rest.keys c.in-Some-split_first.part.keys.now
    c.in-Some-split_first.others.keys c.loop-part.truth c.match_on_values-in-Some-split_first.result
    c.or-truth.result _ c.in-Some-split_first.ensures.values c.in-Some-split_first.ensures.keys
    c.match_on_values-in-Some-split_first.ensures c.or-truth.ensures c.loop-part.invariant
