-- What search doesn't prove of `subtree`: what `numbers_within-numbers` requires, by lemmas of `Scoped`.
use Rattle.dir_search.proofs.Scoped.{stands_found}
use Rattle.dir_search.proofs.bound_search.BoundSearch.subtree.Goals as goal

pub numbers_within-numbers-requires : goal.numbers_within-numbers-requires
numbers_within-numbers-requires c =
    let b = c.args.self.now in
    rw c.tree.ensures (record {
      none = c.new-none.ensures;
      here = stands_found b.schema.now b.indexed.now.tree
          b.base.now b.base_stands;
    })
