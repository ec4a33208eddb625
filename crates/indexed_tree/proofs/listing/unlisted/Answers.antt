-- What search doesn't prove of `unlisted`: the clause `lists`, by lemmas of `Listed`.
use Rattle.std.proofs.Common.{refl, sym, ap, subst, List}
use Rattle.dir_index.specs.dir_entry.Entry.{KeyedAttribute}
use Rattle.dir_index.specs.Whole.{HasEntry, without}
use Rattle.directory_api.specs.dir_tree.Directory.{unnumbered}
use Rattle.indexed_tree.specs.Listed.{listed_of}
use Rattle.indexed_tree.proofs.Listed.{of_same, held_at, none_at, listed_unnumbered, none_unnumbered}
use Rattle.indexed_tree.proofs.listing.unlisted.Goals as goal

pub returns-in_ok-lists-in-Some-clause-lists : goal.returns-in_ok-lists-in-Some-clause-lists
returns-in_ok-lists-in-Some-clause-lists c =
    let d = c.args.tree.now.entries in
    let k = c.args.number in
    let lists = c.in_ok-lists-in-Some.lists in
    of_same lists lists (listed_of (unnumbered k d)) (without k (listed_of d)) refl
    (listed_unnumbered k d c.is_directory.ensures.rise)
    (c.in_ok-lists-in-Some.ensures.ok (listed_of d) c.requires.of
    (subst (λ (e : List KeyedAttribute). HasEntry (listed_of d) k e) (sym c.deref.ensures)
    (held_at k d c.in-Some.held.now c.in-Some.ensures)))

pub returns-in-None-clause-lists : goal.returns-in-None-clause-lists
returns-in-None-clause-lists c =
    let d = c.args.tree.now.entries in
    of_same c.args.postings c.args.postings (listed_of (unnumbered c.args.number d)) (listed_of d) refl
    (ap listed_of (none_unnumbered c.args.number d (none_at c.args.number d c.in-None.ensures))) c.requires.of
