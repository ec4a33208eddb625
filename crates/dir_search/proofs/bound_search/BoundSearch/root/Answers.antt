-- What search doesn't prove of `root`: what it returns, step by step.
use Rattle.dir_search.proofs.bound_search.BoundSearch.root.Goals as goal

pub returns : goal.returns
returns c = rw (c.rdns.ensures, c.suffix-root.ensures, c.tree.ensures) at c.entry.ensures
