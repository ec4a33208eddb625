-- What search doesn't prove of `+leaf_at`: the clause `value` and what it returns, by lemmas of `Order` and `Parts`.
use Rattle.std.proofs.Common.{◌≡◌, sym, subst, ap, ◌∙◌}
use Rattle.std.specs.Ordering.{is_lt}
use Rattle.std.specs.Map.{lookup}
use Rattle.std.specs.BTreeMap.{is_at}
use Rattle.shared_map.specs.Entries.{IsTree, entries_and_height}
use Rattle.shared_map.specs.private.Runs.{IsPart}
use Rattle.shared_map.proofs.Order.{lookup_past, lookup_ahead, ahead_from_from, past_from_under, not_less}
use Rattle.shared_map.proofs.Parts.{part_back}
use Rattle.shared_map.proofs.tree.Tree.+leaf_at.Goals as goal

pub returns-in-Less-clause-value : goal.returns-in-Less-clause-value
returns-in-Less-clause-value g t c =
    let good = subst (IsTree g.K.Ord.cmp) c.in-Fork.is c.self.invariant in
    let e = sym (ap (λ d. d.0) c.self.view_is) ∙ ap (λ n. (entries_and_height n).0) c.in-Fork.is in
    let ahead = ahead_from_from g.met.K.Ord.total c.in-Fork.r.value.0 c.in-Fork.k c.args.key.now good.0.from
    (sym c.in-Less.ensures) in
    let left = subst (λ d. lookup (is_at (g.K.Ord.cmp c.args.key.now)) d.0 ≡
    lookup (is_at (g.K.Ord.cmp c.args.key.now)) c.leaf_at.result.now) c.deref-in-Less.ensures
    c.leaf_at.ensures.value in
    ap (lookup (is_at (g.K.Ord.cmp c.args.key.now))) e ∙ lookup_ahead g.K.Ord.cmp c.in-Fork.l.value.0
    c.in-Fork.r.value.0 c.args.key.now ahead ∙ left

pub returns-in_default : goal.returns-in_default
returns-in_default g t c =
    let good = subst (IsTree g.K.Ord.cmp) c.in-Fork.is c.self.invariant in
    let e = sym (ap (λ d. d.0) c.self.view_is) ∙ ap (λ n. (entries_and_height n).0) c.in-Fork.is in
    let n = ap is_lt (sym c.cmp.ensures) ∙ not_less c.cmp.result c.in_default.not-Less in
    let past = past_from_under g.met.K.Ord.total c.in-Fork.l.value.0 c.in-Fork.k c.args.key.now good.0.under n in
    let part = subst (λ d. IsPart c.leaf_at-in_default.result.now d.0) c.deref-in_default.ensures
    c.leaf_at-in_default.ensures.part in
    let right = subst (λ d. lookup (is_at (g.K.Ord.cmp c.args.key.now)) d.0 ≡
    lookup (is_at (g.K.Ord.cmp c.args.key.now)) c.leaf_at-in_default.result.now) c.deref-in_default.ensures
    c.leaf_at-in_default.ensures.value in
    record {
      part = part_back c.in-Fork.l.value.0 c.in-Fork.r.value.0 _ _ e part;
      value = ap (lookup (is_at (g.K.Ord.cmp c.args.key.now))) e ∙ lookup_past g.K.Ord.cmp c.in-Fork.l.value.0
          c.in-Fork.r.value.0 c.args.key.now past ∙ right;
    }
