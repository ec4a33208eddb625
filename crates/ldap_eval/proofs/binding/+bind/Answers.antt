-- What search doesn't prove of `+bind`: the clause `value`, the clause `parts` and `bind_all-loop-filter-preserved`, by
-- lemmas of `Rows` and `Made`.
use Rattle.std.proofs.Common.{inl, inr}
use Rattle.std.proofs.lemmas.Result.{IfOk-weaker}
use Rattle.ldap_eval.proofs.Rows.{and_bound, or_bound, bound_more, at_least_bound, at_most_bound, present_bound, substrings_bound, equal_bound, approx_bound}
use Rattle.ldap_eval.proofs.Made.{and_made, or_made, not_made, made_more}
use Rattle.ldap_eval.proofs.binding.+bind.Goals as goal

pub bind-returns-in_ok-bind_all-in-And-clause-value : goal.bind-returns-in_ok-bind_all-in-And-clause-value
bind-returns-in_ok-bind_all-in-And-clause-value t c =
    and_bound c.args.schema.now c.args.filter.now c.in-And.filters c.deref.result.now c.in_ok-bind_all-in-And.field-0
    c.in-And.is c.deref.ensures.value c.in_ok-bind_all-in-And.ensures.value

pub bind-returns-in_ok-bind_all-in-And-clause-parts : goal.bind-returns-in_ok-bind_all-in-And-clause-parts
bind-returns-in_ok-bind_all-in-And-clause-parts t c =
    and_made c.args.schema.now c.args.filter.now c.in-And.filters c.deref.result.now c.in_ok-bind_all-in-And.field-0
    c.in-And.is c.deref.ensures.value c.in_ok-bind_all-in-And.ensures.parts

pub bind-returns-in_ok-bind_all-in-Or-clause-value : goal.bind-returns-in_ok-bind_all-in-Or-clause-value
bind-returns-in_ok-bind_all-in-Or-clause-value t c =
    or_bound c.args.schema.now c.args.filter.now c.in-Or.filters c.deref-in-Or.result.now
    c.in_ok-bind_all-in-Or.field-0 c.in-Or.is c.deref-in-Or.ensures.value c.in_ok-bind_all-in-Or.ensures.value

pub bind-returns-in_ok-bind_all-in-Or-clause-parts : goal.bind-returns-in_ok-bind_all-in-Or-clause-parts
bind-returns-in_ok-bind_all-in-Or-clause-parts t c =
    or_made c.args.schema.now c.args.filter.now c.in-Or.filters c.deref-in-Or.result.now
    c.in_ok-bind_all-in-Or.field-0 c.in-Or.is c.deref-in-Or.ensures.value c.in_ok-bind_all-in-Or.ensures.parts

pub bind-returns-in_ok-new-in-Not-clause-parts : goal.bind-returns-in_ok-new-in-Not-clause-parts
bind-returns-in_ok-new-in-Not-clause-parts t c =
    not_made c.args.schema.now c.args.filter.now c.in-Not.inner c.deref-in-Not.result.now c.in_ok-bind-in-Not.field-0
    c.in_ok-new-in-Not.field-0 c.in-Not.is c.deref-in-Not.ensures c.in_ok-new-in-Not.ensures.ok
    c.in_ok-bind-in-Not.ensures.parts

pub bind_all-loop-filter-preserved : goal.bind_all-loop-filter-preserved
bind_all-loop-filter-preserved t c = record {
  value =
      bound_more c.args.schema.now c.args.filters.now c.loop-filter.filter-index c.filter-item.result
      c.loop-filter.parts.items c.push.new.self.items c.in_ok-bind.field-0 c.loop-filter-test.true
      c.filter-item.is c.in_ok-push.ensures.items c.loop-filter.invariant.value c.in_ok-bind.ensures.value;
  parts =
      made_more c.args.schema.now c.args.filters.now c.loop-filter.filter-index c.filter-item.result
      c.loop-filter.parts.items c.push.new.self.items c.in_ok-bind.field-0 c.loop-filter-test.true
      c.filter-item.is c.in_ok-push.ensures.items c.loop-filter.invariant.parts c.in_ok-bind.ensures.value
      c.in_ok-bind.ensures.parts;
}

pub bind-returns-in-AtLeast-clause-value : goal.bind-returns-in-AtLeast-clause-value
bind-returns-in-AtLeast-clause-value t c =
    IfOk-weaker c.bind_item-in-AtLeast.result _ _
    (λ b h. at_least_bound c.args.schema.now c.args.filter.now c.in-AtLeast.description c.in-AtLeast.assertion
    c.as_str-in-AtLeast.result.now c.as_slice.result.now b c.in-AtLeast.is c.as_str-in-AtLeast.ensures.value
    c.as_slice.ensures.value h)
    c.bind_item-in-AtLeast.ensures.value

pub bind-returns-in-AtMost-clause-value : goal.bind-returns-in-AtMost-clause-value
bind-returns-in-AtMost-clause-value t c =
    IfOk-weaker c.bind_item-in-AtMost.result _ _
    (λ b h. at_most_bound c.args.schema.now c.args.filter.now c.in-AtMost.description c.in-AtMost.assertion
    c.as_str-in-AtMost.result.now c.as_slice-in-AtMost.result.now b c.in-AtMost.is
    c.as_str-in-AtMost.ensures.value c.as_slice-in-AtMost.ensures.value h)
    c.bind_item-in-AtMost.ensures.value

pub bind-returns-in-Present-clause-value : goal.bind-returns-in-Present-clause-value
bind-returns-in-Present-clause-value t c =
    IfOk-weaker c.bind_item-in-Present.result _ _
    (λ b h. present_bound c.args.schema.now c.args.filter.now c.in-Present.description c.as_str-in-Present.result.now
    b c.in-Present.is c.as_str-in-Present.ensures.value h)
    c.bind_item-in-Present.ensures.value

pub bind-returns-in-Substrings-clause-value : goal.bind-returns-in-Substrings-clause-value
bind-returns-in-Substrings-clause-value t c =
    IfOk-weaker c.bind_item.result _ _
    (λ b h. substrings_bound c.args.schema.now c.args.filter.now c.in-Substrings.parts c.as_str.result.now b
    c.in-Substrings.is c.as_str.ensures.value h)
    c.bind_item.ensures.value

pub bind-returns-in-Equal-clause-value : goal.bind-returns-in-Equal-clause-value
bind-returns-in-Equal-clause-value t c =
    IfOk-weaker c.bind_item-in-Equal.result _ _
    (λ b h. elim c.in-Equal.is [
      | inl is ↦
          equal_bound c.args.schema.now c.args.filter.now c.in-Equal.description c.in-Equal.assertion
          c.as_str-in-Equal.result.now c.as_slice-in-Equal.result.now b is c.as_str-in-Equal.ensures.value
          c.as_slice-in-Equal.ensures.value h
      | inr is ↦
          approx_bound c.args.schema.now c.args.filter.now c.in-Equal.description c.in-Equal.assertion
          c.as_str-in-Equal.result.now c.as_slice-in-Equal.result.now b is c.as_str-in-Equal.ensures.value
          c.as_slice-in-Equal.ensures.value h
    ])
    c.bind_item-in-Equal.ensures.value
