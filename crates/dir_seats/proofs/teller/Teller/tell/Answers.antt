-- What search doesn't prove of `tell`: what `reader` requires, by lemmas of `Kept`.
use Rattle.dir_seats.proofs.Kept.{admits}
use Rattle.dir_seats.proofs.teller.Teller.tell.Goals as goal

pub reader-requires : goal.reader-requires
reader-requires g c = admits
