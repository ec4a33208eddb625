-- LDIF and messages: the goals of the loop of `attributes_of`. Search doesn't find the lemmas of Growing, which speak
-- of one line more.
use Rattle.std.proofs.Common.{List, ap, sym, ◌∙◌, take, length, []}
use Rattle.std.specs.List.{position_from}
use Rattle.ldif.specs.Records.{ValueModel}
use Rattle.ldap_msg.specs.View.{attribute_view}
use Rattle.ldif.specs.Adds.{firsts, attributes_of, attribute_of}
use Rattle.ldif.specs.private.Adding.{number_at, lower_type, has_type, kept_or, with_line}
use Rattle.ldif.proofs.Growing.{attributes_more, indexes_more, taken_more, counted}
use Rattle.ldif.proofs.adding.attributes_of.Goals as goal

pub loop-value-preserved : goal.loop-value-preserved
loop-value-preserved c =
    let xs : List ValueModel = take c.loop-value.value-index c.args.values.now in
    let more = taken_more c.args.values.now c.loop-value.value-index c.value-item.result c.loop-value-test.true
    c.value-item.is in
    record {
      attributes =
          c.in_ok-put_line.ensures.attributes
          ∙ ap (λ l. with_line l (number_at c.loop-value.indexes.entries (lower_type c.value-item.result))
          c.value-item.result) c.loop-value.invariant.attributes
          ∙ attributes_more xs c.value-item.result (number_at c.loop-value.indexes.entries
          (lower_type c.value-item.result)) (c.loop-value.invariant.indexes (lower_type c.value-item.result))
          ∙ ap attributes_of (sym more);
      indexes = λ q.
          c.in_ok-put_line.ensures.indexes q
          ∙ ap (λ o. kept_or o (has_type q c.value-item.result) (length c.loop-value.attributes.items))
          (c.loop-value.invariant.indexes q)
          ∙ ap (kept_or _ (has_type q c.value-item.result)) (counted attribute_view (attribute_of xs)
          c.loop-value.attributes.items (firsts [] xs) c.loop-value.invariant.attributes)
          ∙ sym (indexes_more q xs c.value-item.result)
          ∙ ap (λ l. position_from (has_type q) 0 (firsts [] l)) (sym more);
    }
