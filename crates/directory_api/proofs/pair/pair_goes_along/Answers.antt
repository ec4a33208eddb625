-- What search doesn't prove of `pair_goes_along`: what it returns, by lemmas of `Pairs`.
use Rattle.directory_api.proofs.Pairs.{pair_goes_along}
use Rattle.directory_api.proofs.pair.pair_goes_along.Goals as goal

pub returns : goal.returns
returns g c = pair_goes_along g.L.Look.allows g.G.Gate.allows
