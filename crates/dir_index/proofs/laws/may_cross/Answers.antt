-- What search doesn't prove of `may_cross`: what `crosses` requires, by lemmas of `Crossing`.
use Rattle.dir_index.proofs.Crossing.{postings_cross}
use Rattle.dir_index.proofs.laws.may_cross.Goals as goal

pub crosses-requires-send-T : goal.crosses-requires-send-T
crosses-requires-send-T c κs = search postings_cross depth 24

pub crosses-requires-sync-T : goal.crosses-requires-sync-T
crosses-requires-sync-T c κs = search postings_cross depth 24
