-- What search doesn't prove of `altered_entries`: what it returns, by lemmas of `Order` and `Altering`.
use Rattle.std.proofs.Common.{add-one, ap, ◌∙◌, ◌++◌, ◌∷◌, take, drop, ◌+◌}
use Rattle.shared_map.proofs.Order.{rest_is}
use Rattle.shared_map.proofs.Altering.{over_there, in_gap}
use Rattle.shared_map.proofs.tree.altered_entries.Goals as goal

pub returns-in_ok-over-in-Ok : goal.returns-in_ok-over-in-Ok
returns-in_ok-over-in-Ok g c =
    let p = c.in-Ok.ensures in
    let es = c.args.items.now in
    let at = c.in-Ok.at in
    c.in_ok-over-in-Ok.ensures
    ∙ ap (λ l. take at es ++ (c.in_ok-kept-in-Ok.kept, c.alter.new.value) ∷ l) (rest_is (at + 1) es)
    ∙ ap (λ i. take at es ++ (c.in_ok-kept-in-Ok.kept, c.alter.new.value) ∷ drop i es) (add-one at)
    ∙ over_there g.K.Ord.cmp (g.C.ValueChange.becomes c.args.change) es at c.index-items-at.result
    c.index-items-at-in-Ok.result c.args.key.now c.in_ok-kept-in-Ok.kept c.in_ok-value-in-Ok.value c.alter.new.value
    p.0 p.1 p.2 c.in_ok-kept-in-Ok.ensures c.in_ok-value-in-Ok.ensures c.in_ok-alter-in-Ok.ensures

pub returns-in_ok-more-in-Err : goal.returns-in_ok-more-in-Err
returns-in_ok-more-in-Err g c =
    let p = c.in-Err.ensures in
    let es = c.args.items.now in
    let at = c.in-Err.at in
    c.in_ok-more-in-Err.ensures
    ∙ ap (λ l. take at es ++ (c.in_ok-share-in-Err.field-0, c.in_ok-first-in-Err.field-0) ∷ l) (rest_is at es)
    ∙ in_gap g.K.Ord.cmp (g.C.ValueChange.becomes c.args.change) es at c.args.key.now c.in_ok-share-in-Err.field-0
    c.in_ok-first-in-Err.field-0 p.1 p.2 c.in_ok-share-in-Err.ensures c.in_ok-first-in-Err.ensures
