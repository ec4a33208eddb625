-- What search doesn't prove of `silence_is_found`: what it returns, by lemmas of `Silence`.
use Rattle.replica_clock.proofs.Silence.{gone}
use Rattle.replica_clock.proofs.keep_alive.silence_is_found.Goals as goal

pub returns : goal.returns
returns c = record { gone = gone }
