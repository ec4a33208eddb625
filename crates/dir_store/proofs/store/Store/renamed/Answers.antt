use Rattle.std.proofs.Common.{◌≡◌, ◌∙◌, ap, sym, List, Result, Ok, map}
use Rattle.std.specs.Arc.{arc_value}
use Rattle.indexed_tree.specs.ldap_dn.Names.{rdns}
use Rattle.entry_updates.specs.ldap_parts.UpdateView.{modify_dn_view}
use Rattle.indexed_tree.specs.dir_entry.Entry.{attributes_of}
use Rattle.indexed_tree.specs.dir_tree.Directory as tree
use Rattle.indexed_tree.specs.dir_tree.Placed.{name_placed}
use Rattle.indexed_tree.specs.directory_api.Answers.{ReplyModel}
use Rattle.indexed_tree.specs.Directory.{NamedEntry}
use Rattle.indexed_tree.specs.Listed.{IndexedModel, StoreModel}
use Rattle.indexed_tree.specs.Places.{moved}
use Rattle.indexed_tree.specs.Replies.{then}
use Rattle.indexed_tree.specs.Stored.{named, directory}
use Rattle.dir_store.specs.Updates.{MoveModel, renamed_all}
use Rattle.dir_store.proofs.Spelled.{moved_placed}
use Rattle.dir_store.proofs.store.Store.renamed.Goals as goal

-- the entries are those that move below the name that was asked, since it is placed as it stands
pub returns-in_ok-held-in-Ok : goal.returns-in_ok-held-in-Ok
returns-in_ok-held-in-Ok c =
    let t = c.self.inside.held.tree in
    let f = c.in-Ok.asked in
    let now = c.in_ok-held-in-Ok.held in
    let asked = rw (c.deref.ensures, c.tree.ensures) at c.in-Ok.ensures.ok in
    let judged : renamed_all (directory (arc_value c.self.inside.schema) t) (modify_dn_view c.args.request.now) ≡
    Ok (moved (rdns f.before) f.after (attributes_of f.entry) (map named t.entries)) =
    ap (λ (r : Result MoveModel ReplyModel).
    then r (λ m. Ok (moved (rdns m.before) m.after m.attributes (map named t.entries)))) asked in
    let placed = rw c.tree.ensures at c.in-Ok.ensures.placed in
    let renamed = rw (c.rdns.ensures, c.in_ok-entry-in-Ok.ensures) at c.in_ok-held-in-Ok.ensures in
    let entries : now.tree.entries ≡ tree.moved (rdns f.before) (name_placed (rdns t.suffix) f.after t.entries) f.entry
    t.entries = ap (λ (i : IndexedModel). i.tree.entries) renamed in
    let made = moved_placed (rdns f.before) f.after (name_placed (rdns t.suffix) f.after t.entries) f.entry t.entries
    now.tree.entries entries placed in (
      rw (← c.self.view_is) (judged ∙ ap (λ (l : List NamedEntry). Ok l) (sym made)),
      ap (λ (s : StoreModel). s.directory.schema) c.self.view_is,
      ap (λ (i : IndexedModel). i.tree.suffix) renamed ∙ ap (λ (s : StoreModel). s.directory.suffix) c.self.view_is,
      ap (λ (i : IndexedModel). i.indexes) renamed ∙ ap (λ (s : StoreModel). s.indexes) c.self.view_is,
    )
