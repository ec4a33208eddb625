-- What search doesn't prove of `in_range`: what it returns, by lemmas of `Ranged`.
use Rattle.std.proofs.Common.{sym, ◌∙◌, Bool, List}
use Rattle.std.specs.Prelude.{◌&&◌}
use Rattle.dir_index.specs.dir_entry.Entry.{KeyedAttribute}
use Rattle.dir_index.specs.index_choice.Choice.{kinds_of}
use Rattle.dir_index.specs.Postings.{has_in_range}
use Rattle.indexed_tree.proofs.Ranged.{told_by_held, told_by_none}
use Rattle.indexed_tree.proofs.indexed.IndexedTreePostingLists.in_range.Goals as goal

pub returns-in-Some : goal.returns-in-Some
returns-in-Some c =
    let r = c.args.range.now in
    let p : List KeyedAttribute → Bool = λ e. (kinds_of c.self.inside.postings.indexes r.type_id).ordering
    && has_in_range r e in
    rw (← c.self.view_is) ((rw (c.indexes.ensures, c.deref.ensures) at c.has_in_range.ensures)
    ∙ sym (told_by_held p c.args.number c.self.inside.tree.entries c.in-Some.held.now c.is_directory.ensures.rise
    c.in-Some.ensures))

pub returns-in-None : goal.returns-in-None
returns-in-None c =
    let r = c.args.range.now in
    let p : List KeyedAttribute → Bool = λ e. (kinds_of c.self.inside.postings.indexes r.type_id).ordering
    && has_in_range r e in
    rw (← c.self.view_is) (sym (told_by_none p c.args.number c.self.inside.tree.entries c.is_directory.ensures.rise
    c.in-None.ensures))
