-- What search doesn't prove of `note`: what it returns, by lemmas of `Before`.
use Rattle.std.proofs.Common.{ℕ, Option, ap, ◌∙◌}
use Rattle.schema_meaning.specs.Faults.{earlier_of}
use Rattle.schema_meaning.specs.private.Octets.{number_at}
use Rattle.schema_meaning.proofs.Before.{noted_put}
use Rattle.schema_meaning.proofs.first_lines.note.Goals as goal

pub returns : goal.returns
returns c = λ q.
    c.in_ok-put.ensures q
    ∙ noted_put (number_at c.args.lines.now.entries) c.args.octets.items q c.args.line c.lower_line-first.result
    (c.lower_line-first.ensures ∙ ap (λ (o : Option ℕ). earlier_of c.args.line o) (c.number_of.ensures
    ∙ ap (number_at c.args.lines.now.entries) c.as_slice.ensures.value))
