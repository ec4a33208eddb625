-- What search doesn't prove of `have_values`: `loop-attribute-preserved`, the clause `in_range` and the clause `lacks`,
-- by lemmas of `Texts`.
use Rattle.std.proofs.Common.{ℕ, List, subst, sym, ◌∙◌}
use Rattle.std.specs.Str.{IsUtf8}
use Rattle.ldap_parts.specs.View.{attribute_view}
use Rattle.ldap_parts.specs.UpdateGrammar.{HasAValue}
use Rattle.ldap_op.proofs.Texts.{all_more_at, all_done, all_at, some_value, no_value}
use Rattle.ldap_op.proofs.spelling.have_values.Goals as goal

pub loop-attribute-preserved : goal.loop-attribute-preserved
loop-attribute-preserved c = all_more_at (λ x. IsUtf8 x.description × HasAValue x) attribute_view
    c.args.attributes.now c.loop-attribute.attribute-index c.attribute-item.result
    c.loop-attribute-test.true c.attribute-item.is c.loop-attribute.invariant (
      subst (λ (l : List ℕ). IsUtf8 l) c.as_str.ensures.value c.as_str.utf8,
      some_value (λ v. v.items) c.attribute-item.result.values.items c.as_slice.result.now c.as_slice.ensures.value
          (sym c.is_empty.ensures ∙ c.if-is_empty.false),
    )

pub returns-clause-in_range : goal.returns-clause-in_range
returns-clause-in_range c = λ _. all_done (λ x. IsUtf8 x.description × HasAValue x) attribute_view
    c.args.attributes.now c.loop-attribute.attribute-index c.loop-attribute-test.false c.loop-attribute.invariant

pub returns-then-is_empty-clause-lacks : goal.returns-then-is_empty-clause-lacks
returns-then-is_empty-clause-lacks c = λ _ all.
    (all_at (λ x. IsUtf8 x.description × HasAValue x) attribute_view c.args.attributes.now
    c.loop-attribute.attribute-index c.attribute-item.result c.loop-attribute-test.true c.attribute-item.is all).1
    (no_value (λ v. v.items) c.attribute-item.result.values.items c.as_slice.result.now c.as_slice.ensures.value
    (sym c.is_empty.ensures ∙ c.if-is_empty.true))
