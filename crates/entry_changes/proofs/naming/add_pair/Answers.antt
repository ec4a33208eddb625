-- What search doesn't prove of `add_pair`: the clause `ok` and the clause `refused`, by lemmas of `Joined`.
use Rattle.std.proofs.Common.{ℕ, List, Vec, Global, [], ◌∷◌, map, ap, sym, ◌∙◌}
use Rattle.dir_entry.specs.Entry.{attributes_of}
use Rattle.entry_changes.specs.Naming.{with_value}
use Rattle.entry_changes.proofs.Joined.{joins, ok_by, refused_by}
use Rattle.entry_changes.proofs.naming.add_pair.Goals as goal

pub returns-clause-ok : goal.returns-clause-ok
returns-clause-ok c =
    ok_by c.add_to_entry.result attributes_of (with_value c.args.schema.now c.args.pair.now
    (attributes_of c.args.entry)) _
    (joins c.args.schema.now c.args.pair.now (attributes_of c.args.entry) c.type_id.result
    (map (λ (v : Vec ℕ Global). v.items) c.in_ok-values.values.items) (sym c.in_ok-holds_pair.ensures
    ∙ c.if-branch.false) c.type_id.ensures
    (c.in_ok-values.ensures ∙ ap (λ (v : List ℕ). v ∷ []) c.value.ensures)) c.add_to_entry.ensures.ok

pub returns-clause-refused : goal.returns-clause-refused
returns-clause-refused c =
    refused_by c.add_to_entry.result (with_value c.args.schema.now c.args.pair.now (attributes_of c.args.entry)) _
    (joins c.args.schema.now c.args.pair.now (attributes_of c.args.entry) c.type_id.result
    (map (λ (v : Vec ℕ Global). v.items) c.in_ok-values.values.items) (sym c.in_ok-holds_pair.ensures
    ∙ c.if-branch.false) c.type_id.ensures
    (c.in_ok-values.ensures ∙ ap (λ (v : List ℕ). v ∷ []) c.value.ensures)) c.add_to_entry.ensures.refused
