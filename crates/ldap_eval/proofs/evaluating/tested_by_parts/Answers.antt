-- What search doesn't prove of `tested_by_parts`: `loop-part-preserved`, by lemmas of `ByParts`.
use Rattle.ldap_eval.proofs.ByParts.{tested_more}
use Rattle.ldap_eval.proofs.evaluating.tested_by_parts.Goals as goal

pub loop-part-preserved : goal.loop-part-preserved
loop-part-preserved c =
    tested_more c.args.test.now c.loop-part.rest.keys c.in-Some-split_first.part.keys.now
    c.in-Some-split_first.others.keys c.loop-part.truth c.item_on_attribute-in-Some-split_first.result
    c.or-truth.result _ c.in-Some-split_first.ensures.keys c.item_on_attribute-in-Some-split_first.ensures.tested
    c.or-truth.ensures c.loop-part.invariant
