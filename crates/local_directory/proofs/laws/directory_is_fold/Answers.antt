-- What search doesn't prove of `directory_is_fold`: what it returns, by lemmas of `Folds`.
use Rattle.local_directory.proofs.Folds.{is_fold}
use Rattle.local_directory.proofs.laws.directory_is_fold.Goals as goal

pub returns : goal.returns
returns c = is_fold
