use Rattle.std.proofs.Common.{◌∙◌, false}
use Rattle.dir_search.proofs.Scoped.{numbers_nowhere}
use Rattle.dir_search.proofs.bound_search.BoundSearch.nothing.Goals as goal

-- no number is one of no entry
pub among-requires : goal.among-requires
among-requires c = (λ e. false, c.new-none.ensures ∙ numbers_nowhere c.args.self.now.indexed.now.tree.entries)

pub returns : goal.returns
returns c = rw c.new-none.ensures at c.among.ensures
