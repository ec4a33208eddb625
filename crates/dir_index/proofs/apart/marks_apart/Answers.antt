-- What search doesn't prove of `marks_apart`: what it returns, and the loop, by lemmas of `Changed` and `Untouched`.
use Rattle.std.proofs.Common.{List, sym, ap, ◌∙◌}
use Rattle.index_choice.specs.dir_entry.Entry.{KeyedAttribute}
use Rattle.dir_index.specs.private.Marked.{is_from_named}
use Rattle.dir_index.specs.private.Touched.{is_whole}
use Rattle.dir_index.proofs.Changed.{entry_nothing, entry_rest, entry_pair}
use Rattle.dir_index.proofs.Untouched.{listed_alike, passed_over}
use Rattle.dir_index.proofs.apart.marks_apart.Goals as goal

pub loop-earlier_first-init : goal.loop-earlier_first-init
loop-earlier_first-init c =
    record {
      named = λ p h. ap (λ (l : List KeyedAttribute). is_from_named c.args.indexes.now l p) (sym c.named.ensures)
          ∙ c.in_ok-mark_named.ensures.named p h;
      whole = λ p on h k. k;
    }

pub loop-earlier_first-preserved-then-not-is_whole : goal.loop-earlier_first-preserved-then-not-is_whole
loop-earlier_first-preserved-then-not-is_whole c =
    record {
      named = c.loop-earlier_first.invariant.named;
      whole = λ p on h k. c.loop-earlier_first.invariant.whole p on h
          (passed_over c.args.indexes.now (is_whole c.args.touched.now) c.loop-earlier_first.earlier.now
          c.in-Some.earlier_rest.now c.in-Some.earlier_first.now p c.in-Some.ensures.cases.0
          (sym c.is_whole.ensures ∙ c.if-not-is_whole.true) on ∙ k);
    }

pub loop-earlier_first-preserved-then-eq : goal.loop-earlier_first-preserved-then-eq
loop-earlier_first-preserved-then-eq c =
    record {
      named = λ p h. c.loop-earlier_first.invariant.named p (c.in_ok-mark_pair.ensures.more p h);
      whole = λ p on h k. c.loop-earlier_first.invariant.whole p on (c.in_ok-mark_pair.ensures.more p h)
          (entry_pair c.args.indexes.now c.loop-earlier_first.earlier.now c.loop-earlier_first.later.now
          c.in-Some.earlier_rest.now c.in-Some-split_first.later_rest.now c.in-Some.earlier_first.now
          c.in-Some-split_first.later_first.now p
          c.in-Some.ensures.cases.0 c.in-Some-split_first.ensures.cases.0 (c.in_ok-mark_pair.ensures.apart p
          c.in-Some.earlier_rest.now c.in-Some-split_first.later_rest.now h) k);
    }

pub loop-earlier_first-preserved-then-earlier-later :
    goal.loop-earlier_first-preserved-then-earlier-later
loop-earlier_first-preserved-then-earlier-later c =
    record {
      named = λ p h. c.loop-earlier_first.invariant.named p (c.in_ok-mark_whole.ensures.more p h);
      whole = λ p on h k. c.loop-earlier_first.invariant.whole p on (c.in_ok-mark_whole.ensures.more p h)
          (k ∙ sym (entry_rest c.args.indexes.now c.loop-earlier_first.later.now c.in-Some-split_first.later_rest.now
          c.in-Some-split_first.later_first.now p c.in-Some-split_first.ensures.cases.0
          (c.in_ok-mark_whole.ensures.whole p c.in-Some-split_first.later_rest.now h)));
    }

pub loop-earlier_first-preserved : goal.loop-earlier_first-preserved
loop-earlier_first-preserved c =
    record {
      named = λ p h. c.loop-earlier_first.invariant.named p (c.in_ok-mark_whole-2.ensures.more p h);
      whole = λ p on h k. c.loop-earlier_first.invariant.whole p on (c.in_ok-mark_whole-2.ensures.more p h)
          (entry_rest c.args.indexes.now c.loop-earlier_first.earlier.now c.in-Some.earlier_rest.now
          c.in-Some.earlier_first.now p c.in-Some.ensures.cases.0 (c.in_ok-mark_whole-2.ensures.whole p
          c.in-Some.earlier_rest.now h) ∙ k);
    }

pub returns-in_default-split_first : goal.returns-in_default-split_first
returns-in_default-split_first c = λ p h.
    listed_alike c.args.indexes.now c.args.touched.now c.args.before.now c.args.after.now p c.requires.same
    (c.loop-earlier_first.invariant.named p (c.in_ok-mark_all.ensures.more p h))
    (λ on. c.loop-earlier_first.invariant.whole p on (c.in_ok-mark_all.ensures.more p h) (c.in_ok-mark_all.ensures.all p
    on h ∙ sym (entry_nothing c.args.indexes.now c.loop-earlier_first.later.now p
    c.in_default-split_first.ensures.cases)))

pub returns : goal.returns
returns c = λ p h.
    listed_alike c.args.indexes.now c.args.touched.now c.args.before.now c.args.after.now p c.requires.same
    (c.loop-earlier_first.invariant.named p (c.in_ok-mark_all-2.ensures.more p h))
    (λ on. c.loop-earlier_first.invariant.whole p on (c.in_ok-mark_all-2.ensures.more p h)
    (entry_nothing c.args.indexes.now c.loop-earlier_first.earlier.now p c.in_default.ensures.cases
    ∙ sym (c.in_ok-mark_all-2.ensures.all p on h)))
