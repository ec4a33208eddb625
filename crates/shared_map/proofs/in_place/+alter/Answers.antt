-- What search doesn't prove of `+alter`: the invariants, what `grown` and `rebalanced` require, and the clause
-- `entries`, by lemmas of `Altering` and `Unsettled`.
use Rattle.std.proofs.Common.{length, refl, sym, subst, ap, ◌∙◌, arith}
use Rattle.std.specs.Ordering.{is_lt}
use Rattle.shared_map.specs.Entries.{IsTree, Rises, entries_and_height}
use Rattle.shared_map.proofs.Altering.{rises_altered}
use Rattle.shared_map.proofs.Order.{not_less}
use Rattle.shared_map.proofs.Unsettled.{IsUnsettled, left_altered, right_altered, left_recounted, right_recounted}
use Rattle.shared_map.proofs.in_place.+alter.Goals as goal
use Rattle.shared_map.proofs.in_place.+alter.Goals.{in-Less+in-Ok+else-recount, in_default-cmp+in-Ok-alter+else-recount-2}

pub invariant_of-own-then-len-most_in_leaf : goal.invariant_of-own-then-len-most_in_leaf
invariant_of-own-then-len-most_in_leaf g t c =
    let good = subst (IsTree g.K.Ord.cmp) c.in-Leaf.is c.own.invariant in
    subst (Rises g.K.Ord.cmp) (sym c.in_ok-more-in-Leaf.ensures) (rises_altered g.K.Ord.cmp (g.C.ValueChange.becomes c.args.change)
    g.met.K.Ord.total _ _ (subst (Rises g.K.Ord.cmp) (sym (ap (λ v. v.items) c.replace-all.ensures.value)) good))

pub grown-requires : goal.grown-requires
grown-requires g t c =
    let good = subst (IsTree g.K.Ord.cmp) c.in-Leaf.is c.own.invariant in
    subst (Rises g.K.Ord.cmp) (sym c.in_ok-more-in-Leaf.ensures) (rises_altered g.K.Ord.cmp (g.C.ValueChange.becomes c.args.change)
    g.met.K.Ord.total _ _ (subst (Rises g.K.Ord.cmp) (sym (ap (λ v. v.items) c.replace-all.ensures.value)) good))

pub invariant_of-own-then-recount : goal.invariant_of-own-then-recount
invariant_of-own-then-recount g t c =
    let good = subst (IsTree g.K.Ord.cmp) c.in-Fork.is c.own.invariant in
    let from = sym (ap (λ n. (entries_and_height n).0) c.in-Fork.is) ∙ ap (λ d. d.0) c.own.view_is
    ∙ ap (λ d. d.0) c.in-Some.ensures.value in
    let w = left_altered g.K.Ord.cmp (g.C.ValueChange.becomes c.args.change) g.met.K.Ord.total c.args.tree.now.value.0
    c.in-Fork.l.value.0 c.alter.new.tree.value.0 c.in-Fork.r.value.0 c.in-Fork.k c.args.key.now good.0
    (sym c.in-Less.ensures) c.in-Ok.ensures.entries from in
    let s = left_recounted c.in-Fork.l.value c.alter.new.tree.value c.in-Fork.r.value c.in-Fork.field-0 c.in-Fork.n
    c.recount.new.count c.extent-before.result c.in-Ok.after good.1 good.2 good.4
    (c.extent-before.ensures ∙ ap (λ d. (d.1, length d.0)) c.deref-in-Less.ensures) c.in-Ok.ensures.extent
    (c.if-recount.ensures.same refl) (c.if-recount.ensures.count refl) in
    (w.parted, s.0, s.1, good.3, s.2)

pub returns-then-recount-clause-entries : goal.returns-then-recount-clause-entries
returns-then-recount-clause-entries g t c =
    let good = subst (IsTree g.K.Ord.cmp) c.in-Fork.is c.own.invariant in
    let from = sym (ap (λ n. (entries_and_height n).0) c.in-Fork.is) ∙ ap (λ d. d.0) c.own.view_is
    ∙ ap (λ d. d.0) c.in-Some.ensures.value in
    let w = left_altered g.K.Ord.cmp (g.C.ValueChange.becomes c.args.change) g.met.K.Ord.total c.args.tree.now.value.0
    c.in-Fork.l.value.0 c.alter.new.tree.value.0 c.in-Fork.r.value.0 c.in-Fork.k c.args.key.now good.0
    (sym c.in-Less.ensures) c.in-Ok.ensures.entries from in
    w.entries

pub invariant_of-own-then-recount-2 : goal.invariant_of-own-then-recount-2
invariant_of-own-then-recount-2 g t c =
    let good = subst (IsTree g.K.Ord.cmp) c.in-Fork.is c.own.invariant in
    let from = sym (ap (λ n. (entries_and_height n).0) c.in-Fork.is) ∙ ap (λ d. d.0) c.own.view_is
    ∙ ap (λ d. d.0) c.in-Some.ensures.value in
    let n = ap is_lt (sym c.cmp.ensures) ∙ not_less c.cmp.result c.in_default-cmp.not-Less in
    let w = right_altered g.K.Ord.cmp (g.C.ValueChange.becomes c.args.change) g.met.K.Ord.total c.args.tree.now.value.0
    c.in-Fork.l.value.0 c.alter-in_default-cmp.new.tree.value.0 c.in-Fork.r.value.0 c.in-Fork.k c.args.key.now good.0 n
    c.in-Ok-alter.ensures.entries from in
    let s = right_recounted c.in-Fork.l.value c.alter-in_default-cmp.new.tree.value c.in-Fork.r.value
    c.in-Fork.field-0 c.in-Fork.n c.recount-in-Ok-alter.new.count c.extent-before-in_default-cmp.result
    c.in-Ok-alter.after good.1 good.2 good.4
    (c.extent-before-in_default-cmp.ensures ∙ ap (λ d. (d.1, length d.0)) c.deref-in_default-cmp.ensures)
    c.in-Ok-alter.ensures.extent (c.if-recount-2.ensures.same refl) (c.if-recount-2.ensures.count refl) in
    (w.parted, s.0, s.1, good.3, s.2)

pub returns-then-recount-2 : goal.returns-then-recount-2
returns-then-recount-2 g t c =
    let good = subst (IsTree g.K.Ord.cmp) c.in-Fork.is c.own.invariant in
    let from = sym (ap (λ n. (entries_and_height n).0) c.in-Fork.is) ∙ ap (λ d. d.0) c.own.view_is
    ∙ ap (λ d. d.0) c.in-Some.ensures.value in
    let n = ap is_lt (sym c.cmp.ensures) ∙ not_less c.cmp.result c.in_default-cmp.not-Less in
    let w = right_altered g.K.Ord.cmp (g.C.ValueChange.becomes c.args.change) g.met.K.Ord.total c.args.tree.now.value.0
    c.in-Fork.l.value.0 c.alter-in_default-cmp.new.tree.value.0 c.in-Fork.r.value.0 c.in-Fork.k c.args.key.now good.0 n
    c.in-Ok-alter.ensures.entries from in
    let tall = sym (ap (λ n. (entries_and_height n).1) c.in-Fork.is) ∙ ap (λ d. d.1) c.own.view_is
    ∙ ap (λ d. d.1) c.in-Some.ensures.value in
    record {
      entries = w.entries;
      height = (omega (arith, tall), omega (arith, tall));
      extent = c.extent-then-recount-2.ensures ∙ ap (λ d. (d.1, length d.0)) c.deref-then-recount-2.ensures;
    }

pub rebalanced-requires-clause-parted : goal.rebalanced-requires-clause-parted
rebalanced-requires-clause-parted g t c =
    let good = subst (IsTree g.K.Ord.cmp) c.in-Fork.is c.own.invariant in
    let from = sym (ap (λ n. (entries_and_height n).0) c.in-Fork.is) ∙ ap (λ d. d.0) c.own.view_is
    ∙ ap (λ d. d.0) c.in-Some.ensures.value in
    let u : IsUnsettled g.K.Ord.cmp (g.C.ValueChange.becomes c.args.change) c.args.key.now c.args.tree.now.value.0
    c.match-cmp.own-inside.node =
    elim c.match-cmp.branch [
      | in-Less+in-Ok+else-recount w ↦
          subst (IsUnsettled g.K.Ord.cmp (g.C.ValueChange.becomes c.args.change) c.args.key.now c.args.tree.now.value.0)
          (sym (ap (λ i. i.node) w.own-inside-is))
          (left_altered g.K.Ord.cmp (g.C.ValueChange.becomes c.args.change) g.met.K.Ord.total c.args.tree.now.value.0
          c.in-Fork.l.value.0 w.alter.new.tree.value.0 c.in-Fork.r.value.0 c.in-Fork.k c.args.key.now good.0
          (sym w.in-Less.ensures) w.in-Ok.ensures.entries from)
      | in_default-cmp+in-Ok-alter+else-recount-2 w ↦
          subst (IsUnsettled g.K.Ord.cmp (g.C.ValueChange.becomes c.args.change) c.args.key.now c.args.tree.now.value.0)
          (sym (ap (λ i. i.node) w.own-inside-is))
          (right_altered g.K.Ord.cmp (g.C.ValueChange.becomes c.args.change) g.met.K.Ord.total c.args.tree.now.value.0
          c.in-Fork.l.value.0 w.alter-in_default-cmp.new.tree.value.0 c.in-Fork.r.value.0 c.in-Fork.k c.args.key.now
          good.0 (ap is_lt (sym c.cmp.ensures) ∙ not_less c.cmp.result w.in_default-cmp.not-Less)
          w.in-Ok-alter.ensures.entries from)
    ] in
    let s = subst (IsUnsettled g.K.Ord.cmp (g.C.ValueChange.becomes c.args.change) c.args.key.now c.args.tree.now.value.0)
    (sym c.replace.ensures.value ∙ c.in-Fork-replace.is) u in
    s.parted

pub returns-clause-entries : goal.returns-clause-entries
returns-clause-entries g t c =
    let good = subst (IsTree g.K.Ord.cmp) c.in-Fork.is c.own.invariant in
    let from = sym (ap (λ n. (entries_and_height n).0) c.in-Fork.is) ∙ ap (λ d. d.0) c.own.view_is
    ∙ ap (λ d. d.0) c.in-Some.ensures.value in
    let u : IsUnsettled g.K.Ord.cmp (g.C.ValueChange.becomes c.args.change) c.args.key.now c.args.tree.now.value.0
    c.match-cmp.own-inside.node =
    elim c.match-cmp.branch [
      | in-Less+in-Ok+else-recount w ↦
          subst (IsUnsettled g.K.Ord.cmp (g.C.ValueChange.becomes c.args.change) c.args.key.now c.args.tree.now.value.0)
          (sym (ap (λ i. i.node) w.own-inside-is))
          (left_altered g.K.Ord.cmp (g.C.ValueChange.becomes c.args.change) g.met.K.Ord.total c.args.tree.now.value.0
          c.in-Fork.l.value.0 w.alter.new.tree.value.0 c.in-Fork.r.value.0 c.in-Fork.k c.args.key.now good.0
          (sym w.in-Less.ensures) w.in-Ok.ensures.entries from)
      | in_default-cmp+in-Ok-alter+else-recount-2 w ↦
          subst (IsUnsettled g.K.Ord.cmp (g.C.ValueChange.becomes c.args.change) c.args.key.now c.args.tree.now.value.0)
          (sym (ap (λ i. i.node) w.own-inside-is))
          (right_altered g.K.Ord.cmp (g.C.ValueChange.becomes c.args.change) g.met.K.Ord.total c.args.tree.now.value.0
          c.in-Fork.l.value.0 w.alter-in_default-cmp.new.tree.value.0 c.in-Fork.r.value.0 c.in-Fork.k c.args.key.now
          good.0 (ap is_lt (sym c.cmp.ensures) ∙ not_less c.cmp.result w.in_default-cmp.not-Less)
          w.in-Ok-alter.ensures.entries from)
    ] in
    let s = subst (IsUnsettled g.K.Ord.cmp (g.C.ValueChange.becomes c.args.change) c.args.key.now c.args.tree.now.value.0)
    (sym c.replace.ensures.value ∙ c.in-Fork-replace.is) u in
    c.in_ok-tree-in-Fork-replace.ensures.entries ∙ s.entries
