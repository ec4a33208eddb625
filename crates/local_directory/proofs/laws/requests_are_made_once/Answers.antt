-- What search doesn't prove of `requests_are_made_once`: what it returns, by lemmas of `Once`.
use Rattle.local_directory.proofs.Once.{made_once}
use Rattle.local_directory.proofs.laws.requests_are_made_once.Goals as goal

pub returns : goal.returns
returns c = made_once
