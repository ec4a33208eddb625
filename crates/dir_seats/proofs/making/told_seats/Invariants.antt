use Rattle.std.proofs.Common.{◌≡◌, length, All}
use Rattle.dir_seats.proofs.making.told_seats.Given as goal

-- so many seats are made, and the publisher is as it was
abbrev pub invariant-each : goal.invariant-each
invariant-each g l = (length l.seats.items ≡ l.counter) × All (λ seat. seat ≡ l.fn.publisher.published) l.seats.items
    × (l.publisher ≡ l.fn.publisher)
