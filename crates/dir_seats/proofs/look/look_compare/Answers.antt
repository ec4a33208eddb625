-- What search doesn't prove of `look_compare`: what `enter_as` requires, by lemmas of `Begins` and `Kept`.
use Rattle.dir_seats.proofs.Begins.{begins_self}
use Rattle.dir_seats.proofs.Kept.{sees}
use Rattle.dir_seats.proofs.look.look_compare.Goals as goal

pub enter_as-requires : goal.enter_as-requires
enter_as-requires c x = sees _ _ x x (begins_self x)
