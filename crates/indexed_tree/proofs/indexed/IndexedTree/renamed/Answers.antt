-- What search doesn't prove of `renamed`: the invariant, by lemmas of `Listed`.
use Rattle.std.proofs.Common.{refl, ap, subst, ◌∙◌, List}
use Rattle.dir_index.specs.dir_entry.Entry.{KeyedAttribute}
use Rattle.dir_index.specs.ldap_dn.Names.{rdns}
use Rattle.dir_index.specs.Whole.{AreOf}
use Rattle.directory_api.specs.dir_tree.Directory.{TreeModel, replaced}
use Rattle.directory_api.specs.dir_tree.Placed.{name_placed}
use Rattle.indexed_tree.specs.Listed.{listed_of}
use Rattle.indexed_tree.proofs.Listed.{of_same, moved_replaced}
use Rattle.indexed_tree.proofs.indexed.IndexedTree.renamed.Goals as goal

pub invariant_of-result : goal.invariant_of-result
invariant_of-result c =
    let p = c.in_ok-postings.postings in
    let d = c.self.inside.tree.entries in
    let k = c.args.number in
    let a = c.args.new_entry in
    of_same p p (listed_of c.in_ok-tree.tree.entries) (listed_of (replaced k a d)) refl
    (ap (λ (t : TreeModel). listed_of t.entries) c.in_ok-tree.ensures ∙ moved_replaced (rdns c.args.name.now)
    (name_placed (rdns c.self.inside.tree.suffix) c.args.new_name d) a k d c.is_directory.ensures.rise
    c.is_directory.ensures.differ (rw (← c.self.view_is) at c.requires.here))
    (subst (λ (x : List KeyedAttribute). AreOf p (listed_of (replaced k x d))) c.deref.ensures
    c.in_ok-postings.ensures.lists)
