-- What search doesn't prove of `entries_rise`: what it returns, step by step.
use Rattle.dir_store.proofs.Rises as rises
use Rattle.dir_store.proofs.laws.entries_rise.Goals as goal

pub returns : goal.returns
returns c = rises.entries_rise
