-- What search doesn't prove of `has_earlier`: what it returns, by lemmas of `Before`.
use Rattle.std.proofs.Common.{◌||◌, ap, ◌∙◌}
use Rattle.std.specs.List.{list_any}
use Rattle.schema_text.specs.Texts.{SchemaTextModel}
use Rattle.schema_meaning.specs.Naming.{is_before}
use Rattle.schema_meaning.specs.private.Octets.{number_at}
use Rattle.schema_meaning.proofs.Before.{earlier_found}
use Rattle.schema_meaning.proofs.first_lines.FirstLines.has_earlier.Goals as goal

pub returns : goal.returns
returns c =
    c.in_ok-earlier.ensures
    ∙ earlier_found c.self.inside.text.now (number_at c.self.inside.by_name.entries)
    (number_at c.self.inside.by_oid.entries) c.args.description.now c.self.invariant.0 c.self.invariant.1
    ∙ ap (λ (s : SchemaTextModel). list_any (is_before c.args.description.now) s.types || list_any
    (is_before c.args.description.now) s.classes) c.self.view_is
