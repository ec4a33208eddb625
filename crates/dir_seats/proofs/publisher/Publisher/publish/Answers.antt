use Rattle.dir_seats.proofs.Begins.{holds_shown}
use Rattle.dir_seats.proofs.publisher.Publisher.publish.Goals as goal

-- the latest version is shown
pub invariant_of-self-2 : goal.invariant_of-self-2
invariant_of-self-2 g c =
    let e = c.in_ok-show_in_place.ensures in
    holds_shown _ _ _ _ _ _ _ c.self.invariant e.0 e.1 e.2
