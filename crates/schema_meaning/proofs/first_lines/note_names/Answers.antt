-- What search doesn't prove of `note_names`: what it returns, by lemmas of `Before`.
use Rattle.std.proofs.Common.{ap, sym, ◌∙◌, map}
use Rattle.std.proofs.Math.ListN.{drop_of_length-le}
use Rattle.std.specs.Char.{to_ascii_lowercase}
use Rattle.std.specs.Str.{bytes_eq}
use Rattle.schema_meaning.specs.private.Octets.{number_at}
use Rattle.schema_meaning.specs.private.FirstLines.{noted}
use Rattle.schema_meaning.proofs.Before.{any_map, names_noted}
use Rattle.schema_meaning.proofs.first_lines.note_names.Goals as goal

pub returns : goal.returns
returns c q =
    names_noted (λ n. bytes_eq q (map to_ascii_lowercase n.items)) c.args.names.now _
    (number_at c.loop-name.lines.entries q) _ c.args.line (drop_of_length-le c.args.names.now
    c.loop-name-test.false) (c.loop-name.invariant q)
    ∙ ap (λ b. noted b c.args.line (number_at c.args.lines.now.entries q))
    (sym (any_map (λ n. bytes_eq q (map to_ascii_lowercase n)) (λ v. v.items) c.args.names.now))
