-- What search doesn't prove of `pair_counts`: what it returns, by lemmas of `Pairs`.
use Rattle.directory_api.proofs.Pairs.{pair_counts}
use Rattle.directory_api.proofs.pair.pair_counts.Goals as goal

pub returns : goal.returns
returns g c = pair_counts g.L.Look.allows g.G.Gate.allows g.G.Gate.count g.met.G.Gate.counts
