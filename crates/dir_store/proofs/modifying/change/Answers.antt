-- What search doesn't prove of `change`: the clause `same`, by lemmas of `entry_updates`.
use Rattle.std.proofs.Common.{◌≡◌, ℕ, List, false, map, nat_eq, sym, subst}
use Rattle.std.specs.List.{list_any}
use Rattle.indexed_tree.specs.dir_entry.Entry.{KeyedAttribute, IsKeyedBy}
use Rattle.indexed_tree.specs.dir_index.Whole.{AreSameBut}
use Rattle.entry_updates.specs.ldap_parts.UpdateView.{change_view}
use Rattle.entry_updates.proofs.Untouched.{keyed_stay}
use Rattle.entry_updates.proofs.ByValues.{keys_alike}
use Rattle.dir_store.proofs.modifying.change.Goals as goal

pub returns-in_ok-touched-in-Ok-clause-same : goal.returns-in_ok-touched-in-Ok-clause-same
returns-in_ok-touched-in-Ok-clause-same c =
    let s = c.args.schema.now in
    let rdn = c.own_rdn.result.now in
    let cs = map change_view c.args.changes.now in
    let before = c.deref-before.result.now in
    let after = c.in-Ok.entry in
    let touched = c.in_ok-touched-in-Ok.touched in
    let keyed : IsKeyedBy s before = subst (λ (e : List KeyedAttribute). IsKeyedBy s e) (sym c.deref-before.ensures)
    c.requires.keyed in
    let same : AreSameBut touched.types.items touched.named.items before after = record {
      attributes = λ t other free. keyed_stay s rdn cs touched.named.items before after
          c.in_ok-touched-in-Ok.ensures.named keyed c.in-Ok.ensures.keyed c.in-Ok.ensures.ok t
          (subst (λ (l : List ℕ). list_any (nat_eq t) l ≡ false) c.in_ok-touched-in-Ok.ensures.types other) free;
      keys = λ t f other free. keys_alike c.tests_are_items.ensures s rdn cs touched.named.items before after
          c.in_ok-touched-in-Ok.ensures.keyed c.in_ok-touched-in-Ok.ensures.named keyed c.in-Ok.ensures.keyed
          c.in-Ok.ensures.ok t f
          (subst (λ (l : List ℕ). list_any (nat_eq t) l ≡ false) c.in_ok-touched-in-Ok.ensures.types other) free;
    } in
    subst (λ (e : List KeyedAttribute). AreSameBut touched.types.items touched.named.items e after)
    c.deref-before.ensures same
