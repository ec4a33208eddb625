-- What search doesn't prove of `+find`: what it returns, by lemmas of `Order`.
use Rattle.std.proofs.Common.{sym, subst, ap, ◌∙◌}
use Rattle.std.specs.Ordering.{is_lt}
use Rattle.std.specs.Map.{lookup}
use Rattle.std.specs.BTreeMap.{is_at}
use Rattle.shared_map.specs.Entries.{IsTree, entries_and_height}
use Rattle.shared_map.proofs.Order.{lookup_past, lookup_ahead, ahead_from_from, past_from_under, not_less}
use Rattle.shared_map.proofs.tree.Tree.+find.Goals as goal

pub returns-in-Less : goal.returns-in-Less
returns-in-Less g t c =
    let good = subst (IsTree g.K.Ord.cmp) c.in-Fork.is c.self.invariant in
    let e = sym (ap (λ d. d.0) c.self.view_is) ∙ ap (λ n. (entries_and_height n).0) c.in-Fork.is in
    let ahead = ahead_from_from g.met.K.Ord.total c.in-Fork.r.value.0 c.in-Fork.k (g.Q.Sought.key c.args.sought.now)
    good.0.from (sym c.in-Less.ensures) in
    c.find.ensures ∙ ap (λ d. lookup (is_at (g.K.Ord.cmp (g.Q.Sought.key c.args.sought.now))) d.0)
    c.deref-in-Less.ensures ∙ sym (lookup_ahead g.K.Ord.cmp c.in-Fork.l.value.0 c.in-Fork.r.value.0
    (g.Q.Sought.key c.args.sought.now) ahead)
    ∙ ap (lookup (is_at (g.K.Ord.cmp (g.Q.Sought.key c.args.sought.now)))) (sym e)

pub returns-in_default : goal.returns-in_default
returns-in_default g t c =
    let good = subst (IsTree g.K.Ord.cmp) c.in-Fork.is c.self.invariant in
    let e = sym (ap (λ d. d.0) c.self.view_is) ∙ ap (λ n. (entries_and_height n).0) c.in-Fork.is in
    let n = ap is_lt (sym c.compare.ensures) ∙ not_less c.compare.result c.in_default.not-Less in
    let past = past_from_under g.met.K.Ord.total c.in-Fork.l.value.0 c.in-Fork.k (g.Q.Sought.key c.args.sought.now)
    good.0.under n in
    c.find-in_default.ensures ∙ ap (λ d. lookup (is_at (g.K.Ord.cmp (g.Q.Sought.key c.args.sought.now))) d.0)
    c.deref-in_default.ensures ∙ sym (lookup_past g.K.Ord.cmp c.in-Fork.l.value.0 c.in-Fork.r.value.0
    (g.Q.Sought.key c.args.sought.now) past)
    ∙ ap (lookup (is_at (g.K.Ord.cmp (g.Q.Sought.key c.args.sought.now)))) (sym e)
