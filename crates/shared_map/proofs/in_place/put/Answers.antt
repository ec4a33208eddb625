-- What search doesn't prove of `put`: what it returns, by lemmas of `Altering`.
use Rattle.std.proofs.Common.{◌∙◌}
use Rattle.shared_map.proofs.Altering.{written_there, put_in_gap}
use Rattle.shared_map.proofs.in_place.put.Goals as goal

pub returns-in_ok-alter-in-Ok : goal.returns-in_ok-alter-in-Ok
returns-in_ok-alter-in-Ok g c =
    let p = c.in-Ok.ensures in
    written_there g.K.Ord.cmp (g.C.ValueChange.becomes c.args.change) c.args.items.items c.deref.result.now c.in-Ok.at
    c.index_mut.result.now c.args.key.now c.alter.new.value c.deref.ensures.value c.index_mut.ensures.value p.0 p.1 p.2
    c.in_ok-alter-in-Ok.ensures

pub returns-in_ok-insert-in-Err : goal.returns-in_ok-insert-in-Err
returns-in_ok-insert-in-Err g c =
    let p = c.in-Err.ensures in
    c.in_ok-insert-in-Err.ensures.items
    ∙ put_in_gap g.K.Ord.cmp (g.C.ValueChange.becomes c.args.change) c.args.items.items c.deref.result.now
    c.make_room.new.items.items c.in-Err.at c.args.key.now c.in_ok-share-in-Err.field-0 c.in_ok-first-in-Err.field-0
    c.deref.ensures.value c.make_room.ensures c.in_ok-share-in-Err.ensures c.in_ok-first-in-Err.ensures p.1 p.2
