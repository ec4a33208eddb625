-- What search doesn't prove of `name_type`: what it returns, by lemmas of `Resolved`.
use Rattle.std.proofs.Common.{◌||◌, ℕ, Option, sym, ap, ◌∙◌, length}
use Rattle.dir_tree.specs.ldap_schema.Schema.{superiors}
use Rattle.directory_api.specs.Selection.{is_named_by}
use Rattle.directory_api.specs.private.Resolved.{is_held, picks_named}
use Rattle.directory_api.proofs.Resolved.{named_more, set_more}
use Rattle.directory_api.proofs.selection.name_type.Goals as goal

pub returns-in_ok-insert : goal.returns-in_ok-insert
returns-in_ok-insert c = λ t.
    named_more (is_held c.args.types.now) (is_held c.insert.new.self) c.in-Some.named t
    (superiors (length c.args.schema.now.types) c.args.schema.now.types t)
    (set_more c.number.result c.in-Some.named (is_held c.args.types.now) (is_held c.insert.new.self) c.number.ensures
    c.in_ok-insert.ensures.updates.0)
    ∙ ap (λ (o : Option ℕ). picks_named c.args.schema.now c.args.types.now t || is_named_by c.args.schema.now t o)
    (sym (sym c.find.ensures ∙ c.in-Some.is))
