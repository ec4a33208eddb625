-- What search doesn't prove of `alter`: the invariant, by lemmas of `Altering`.
use Rattle.std.proofs.Common.{sym, subst}
use Rattle.shared_map.specs.Entries.{Rises, entries_in}
use Rattle.shared_map.proofs.Altering.{rises_altered}
use Rattle.shared_map.proofs.map.SharedMap.alter.Goals as goal

pub invariant_of-result-in-Some : goal.invariant_of-result-in-Some
invariant_of-result-in-Some g c =
    let good = subst (λ r. Rises g.K.Ord.cmp (entries_in r)) c.in-Some.is c.self.invariant in
    subst (Rises g.K.Ord.cmp) (sym c.in_ok-_extent-in-Some.ensures.entries)
    (rises_altered g.K.Ord.cmp (g.C.ValueChange.becomes c.args.change) g.met.K.Ord.total c.in-Some.tree.value.0
    c.args.key.now good)
