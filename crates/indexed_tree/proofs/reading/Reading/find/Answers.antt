-- What search doesn't prove of `find`: the clause `number`, the clause `attributes` and the clause `keyed`, by lemmas
-- of `Lookups` and `Shown`.
use Rattle.std.proofs.Common.{ap, sym, subst, ◌∙◌}
use Rattle.std.specs.Arc.{arc_value}
use Rattle.std.specs.Option.{option_map}
use Rattle.dir_index.specs.ldap_dn.Names.{rdns}
use Rattle.dir_index.specs.dir_entry.Entry.{IsKeyedBy}
use Rattle.directory_api.specs.dir_tree.Directory.{TreeModel, Entered, find}
use Rattle.indexed_tree.specs.Directory.{NamedEntry}
use Rattle.indexed_tree.specs.Listed.{StoreModel}
use Rattle.indexed_tree.specs.Places.{entry_named}
use Rattle.indexed_tree.proofs.Lookups.{found_keys}
use Rattle.indexed_tree.proofs.Shown.{number_shown, attributes_at, none_at}
use Rattle.indexed_tree.proofs.reading.Reading.find.Goals as goal

pub returns-in-Some-clause-number : goal.returns-in-Some-clause-number
returns-in-Some-clause-number c =
    let q = rdns c.args.name.now in
    c.in-Some.ensures.number ∙ ap (λ (t : TreeModel). option_map (λ (e : Entered). e.number) (find q t.entries))
    c.tree.ensures ∙ sym (number_shown q c.self.inside.held.now.tree.entries)
    ∙ ap (λ (s : StoreModel). option_map (λ (e : NamedEntry). e.number) (entry_named q s.directory.entries))
    c.self.view_is

pub returns-in-Some-clause-attributes : goal.returns-in-Some-clause-attributes
returns-in-Some-clause-attributes c =
    let q = rdns c.args.name.now in
    attributes_at q c.self.inside.held.now.tree.entries c.in-Some.entry.now (c.in-Some.ensures.entry
    ∙ ap (λ (t : TreeModel). option_map (λ (e : Entered). e.entry) (find q t.entries)) c.tree.ensures)
    ∙ ap (λ (s : StoreModel). option_map (λ (e : NamedEntry). e.attributes) (entry_named q s.directory.entries))
    c.self.view_is

pub returns-in-Some-clause-keyed : goal.returns-in-Some-clause-keyed
returns-in-Some-clause-keyed c =
    let q = rdns c.args.name.now in
    subst (λ (s : StoreModel). IsKeyedBy s.directory.schema c.in-Some.entry.now) c.self.view_is
    (found_keys (arc_value c.self.inside.schema.now) q c.self.inside.held.now.tree.entries c.in-Some.entry.now
    c.self.invariant (c.in-Some.ensures.entry ∙ ap (λ (t : TreeModel). option_map (λ (e : Entered). e.entry)
    (find q t.entries)) c.tree.ensures))

pub returns-in-None-clause-number : goal.returns-in-None-clause-number
returns-in-None-clause-number c =
    let q = rdns c.args.name.now in
    none_at (λ (e : NamedEntry). e.number) (λ (e : Entered). e.number) q c.self.inside.held.now.tree.entries
    (c.in-None.ensures.number ∙ ap (λ (t : TreeModel). option_map (λ (e : Entered). e.number) (find q t.entries))
    c.tree.ensures)
    ∙ ap (λ (s : StoreModel). option_map (λ (e : NamedEntry). e.number) (entry_named q s.directory.entries))
    c.self.view_is

pub returns-in-None-clause-attributes : goal.returns-in-None-clause-attributes
returns-in-None-clause-attributes c =
    let q = rdns c.args.name.now in
    none_at (λ (e : NamedEntry). e.attributes) (λ (e : Entered). e.number) q c.self.inside.held.now.tree.entries
    (c.in-None.ensures.number ∙ ap (λ (t : TreeModel). option_map (λ (e : Entered). e.number) (find q t.entries))
    c.tree.ensures)
    ∙ ap (λ (s : StoreModel). option_map (λ (e : NamedEntry). e.attributes) (entry_named q s.directory.entries))
    c.self.view_is
