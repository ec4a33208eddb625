-- What search doesn't prove of `visit`: what `of` requires, by lemmas of `TreeReads`.
use Rattle.std.proofs.Common.{subst}
use Rattle.dir_tree.specs.Directory.{TreeModel}
use Rattle.dir_tree.specs.private.Visits.{IsVisit}
use Rattle.dir_tree.proofs.TreeReads.{entry_read, under_read}
use Rattle.dir_tree.proofs.tree.Tree.visit.Goals as goal

pub of-requires : goal.of-requires
of-requires c =
    subst (λ (v : TreeModel). IsVisit v c.self.inside.roots.entries) c.self.view_is
    (record {
      entries = entry_read c.self.inside.roots c.self.invariant;
      names = under_read c.self.inside.roots
          c.self.invariant;
    })
