-- What search doesn't prove of `parted`: what `leaf` requires and what `fork` requires, by lemmas of `Order` and
-- `Parting`.
use Rattle.std.proofs.Common.{sym, ap, subst, ◌∙◌, take, drop, take-append-drop}
use Rattle.shared_map.specs.Entries.{Rises}
use Rattle.shared_map.proofs.Order.{rest_is, rises_front, rises_back, parted_at}
use Rattle.shared_map.proofs.Parting.{moved}
use Rattle.shared_map.proofs.tree.parted.Goals as goal

pub leaf-requires : goal.leaf-requires
leaf-requires g c =
    let es = c.args.items.now in
    let at = c.args.at in
    subst (Rises g.K.Ord.cmp) (sym c.in_ok-copied.ensures) (rises_front g.K.Ord.cmp (take at es) (drop at es)
    (subst (Rises g.K.Ord.cmp) (sym (take-append-drop at es)) c.requires.rises))

pub leaf-requires-2 : goal.leaf-requires-2
leaf-requires-2 g c =
    let es = c.args.items.now in
    let at = c.args.at in
    subst (Rises g.K.Ord.cmp) (sym (c.in_ok-copied-2.ensures ∙ rest_is at es)) (rises_back g.K.Ord.cmp (take at es)
    (drop at es) (subst (Rises g.K.Ord.cmp) (sym (take-append-drop at es)) c.requires.rises))

pub fork-requires-clause-parted : goal.fork-requires-clause-parted
fork-requires-clause-parted g c =
    let es = c.args.items.now in
    let at = c.args.at in
    moved (parted_at g.K.Ord.cmp g.met.K.Ord.total es at c.index-items-at.result c.requires.rises c.requires.some_left
    c.requires.some_right)
    (ap (λ d. d.0) c.in_ok-left.ensures ∙ c.in_ok-copied.ensures) c.in_ok-key.ensures
    (ap (λ d. d.0) c.in_ok-right.ensures ∙ c.in_ok-copied-2.ensures ∙ rest_is at es)
