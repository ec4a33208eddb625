-- What search doesn't prove of `has_number`: what `is_full` requires, what it returns, `loop-at-smaller-then-number-k`,
-- `loop-at-preserved-then-number-k` and others, by lemmas of `Dense`.
use Rattle.std.proofs.Common.{Some, sym, subst, ap, ◌∙◌, arith}
use Rattle.std.specs.Ordering.{nat_cmp}
use Rattle.shared_map.specs.Entries.{IsTree, Rises, entries_and_height}
use Rattle.shared_map.specs.private.Dense.{IsOnWay}
use Rattle.shared_map.proofs.Dense.{way_left, way_right, way_ends, end_after}
use Rattle.shared_map.proofs.tree.Tree+u64+unit.has_number.Goals as goal

pub is_full-requires : goal.is_full-requires
is_full-requires c = end_after c.args.number c.loop-at.from c.loop-at.upto c.loop-at.invariant.least
    c.loop-at.invariant.end

pub returns-then-is_full : goal.returns-then-is_full
returns-then-is_full c =
    let good = subst (IsTree nat_cmp) c.in-Fork.is c.at.invariant in
    let is = sym (ap (λ d. d.0) c.at.view_is) ∙ ap (λ n. (entries_and_height n).0) c.in-Fork.is in
    let full = c.is_full.ensures c.if-is_full.true in
    way_ends c.args.number c.loop-at.from c.loop-at.upto c.args.self.now.0 c.loop-at.at.now.0
    (subst (Rises nat_cmp) (sym is) good.0.rising) c.loop-at.invariant full.0 full.1 full.2

pub loop-at-smaller-then-number-k : goal.loop-at-smaller-then-number-k
loop-at-smaller-then-number-k c =
    let good = subst (IsTree nat_cmp) c.in-Fork.is c.at.invariant in
    let high = sym (ap (λ d. d.1) c.at.view_is) ∙ ap (λ n. (entries_and_height n).1) c.in-Fork.is in
    let part = ap (λ d. d.1) c.deref-at.ensures in
    omega (arith, high, good.1, part)

pub loop-at-preserved-then-number-k : goal.loop-at-preserved-then-number-k
loop-at-preserved-then-number-k c =
    let good = subst (IsTree nat_cmp) c.in-Fork.is c.at.invariant in
    let is = sym (ap (λ d. d.0) c.at.view_is) ∙ ap (λ n. (entries_and_height n).0) c.in-Fork.is in
    let way = way_left c.args.number c.loop-at.from c.loop-at.upto c.in-Fork.k c.args.self.now.0 c.loop-at.at.now.0
    c.in-Fork.l.value.0 c.in-Fork.r.value.0 is good.0 c.loop-at.invariant c.if-number-k.true in
    subst (λ d. IsOnWay c.args.number c.loop-at.from (Some c.in-Fork.k) c.args.self.now.0 d.0)
    (sym c.deref-at.ensures) way

pub loop-at-smaller : goal.loop-at-smaller
loop-at-smaller c =
    let good = subst (IsTree nat_cmp) c.in-Fork.is c.at.invariant in
    let high = sym (ap (λ d. d.1) c.at.view_is) ∙ ap (λ n. (entries_and_height n).1) c.in-Fork.is in
    let part = ap (λ d. d.1) c.deref-at-else-number-k.ensures in
    omega (arith, high, good.1, part)

pub loop-at-preserved : goal.loop-at-preserved
loop-at-preserved c =
    let good = subst (IsTree nat_cmp) c.in-Fork.is c.at.invariant in
    let is = sym (ap (λ d. d.0) c.at.view_is) ∙ ap (λ n. (entries_and_height n).0) c.in-Fork.is in
    let way = way_right c.args.number c.loop-at.from c.loop-at.upto c.in-Fork.k c.args.self.now.0 c.loop-at.at.now.0
    c.in-Fork.l.value.0 c.in-Fork.r.value.0 is good.0 c.loop-at.invariant c.if-number-k.false in
    subst (λ d. IsOnWay c.args.number c.in-Fork.k c.loop-at.upto c.args.self.now.0 d.0)
    (sym c.deref-at-else-number-k.ensures) way
