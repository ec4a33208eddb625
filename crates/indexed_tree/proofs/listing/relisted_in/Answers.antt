-- What search doesn't prove of `relisted_in`: the clause `lists`, and that attributes are the same, by lemmas of `Listed`.
use Rattle.std.proofs.Common.{refl, sym, ap, subst, List}
use Rattle.dir_index.specs.dir_entry.Entry.{KeyedAttribute}
use Rattle.dir_index.specs.Whole.{AreSameBut, HasEntry, with_attributes}
use Rattle.directory_api.specs.dir_tree.Directory.{replaced}
use Rattle.indexed_tree.specs.Listed.{listed_of}
use Rattle.indexed_tree.proofs.Listed.{of_same, held_at, none_at, listed_replaced, none_replaced}
use Rattle.indexed_tree.proofs.listing.relisted_in.Goals as goal

pub returns-in_ok-lists-in-Some-clause-lists : goal.returns-in_ok-lists-in-Some-clause-lists
returns-in_ok-lists-in-Some-clause-lists c =
    let d = c.args.tree.now.entries in
    let k = c.args.number in
    let a = c.args.entry.now in
    let lists = c.in_ok-lists-in-Some.lists in
    of_same lists lists (listed_of (replaced k a d)) (with_attributes k a (listed_of d)) refl
    (listed_replaced k a d c.is_directory.ensures.rise)
    (c.in_ok-lists-in-Some.ensures.ok (listed_of d) c.requires.of
    (subst (λ (e : List KeyedAttribute). HasEntry (listed_of d) k e) (sym c.deref.ensures)
    (held_at k d c.in-Some.held.now c.in-Some.ensures)))

pub returns-in-None-clause-lists : goal.returns-in-None-clause-lists
returns-in-None-clause-lists c =
    let d = c.args.tree.now.entries in
    of_same c.args.postings c.args.postings (listed_of (replaced c.args.number c.args.entry.now d)) (listed_of d) refl
    (ap listed_of (none_replaced c.args.number c.args.entry.now d (none_at c.args.number d c.in-None.ensures)))
    c.requires.of

pub replaced_in-requires : goal.replaced_in-requires
replaced_in-requires c = record {
  same = subst (λ (e : List KeyedAttribute). AreSameBut c.args.types.now c.args.named.now e c.args.entry.now) (sym c.deref.ensures)
      (c.requires.same c.in-Some.held.now (sym c.in-Some.ensures));
}
