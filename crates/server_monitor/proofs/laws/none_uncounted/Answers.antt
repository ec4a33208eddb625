-- What search doesn't prove of `none_uncounted`: what it returns, by lemmas of `Noting`.
use Rattle.server_monitor.proofs.Noting.{counted_all}
use Rattle.server_monitor.proofs.laws.none_uncounted.Goals as goal

pub returns : goal.returns
returns c = counted_all
