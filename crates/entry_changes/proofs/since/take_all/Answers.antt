-- What search doesn't prove of `take_all`: `loop-octets-preserved`, by lemmas of `Reached`.
use Rattle.std.proofs.Common.{ℕ, Bor, List, None, refl}
use Rattle.entry_changes.specs.Opening.{since}
use Rattle.entry_changes.proofs.Reached.{since_more}
use Rattle.entry_changes.proofs.since.take_all.Goals as goal

pub loop-octets-preserved : goal.loop-octets-preserved
loop-octets-preserved c =
    since_more (λ (o : Bor (List ℕ)). o.now) c.args.list.now c.loop-octets.octets-index _ _ None
    (since c.args.held.now.entries) (since c.loop-octets.held.entries) (since c.take.new.held.entries)
    c.loop-octets-test.true refl c.loop-octets.invariant c.take.ensures
