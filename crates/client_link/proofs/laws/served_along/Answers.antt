-- What search doesn't prove of `served_along`: what it returns, by lemmas of `Turns`.
use Rattle.client_link.proofs.Turns.{goes_along}
use Rattle.client_link.proofs.laws.served_along.Goals as goal

pub returns : goal.returns
returns g c = goes_along g.D.Directory.allows
