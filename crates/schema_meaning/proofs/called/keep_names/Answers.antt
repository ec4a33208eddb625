-- What search doesn't prove of `keep_names`: what it returns, by lemmas of `Before` and `Kept`.
use Rattle.std.proofs.Common.{ap, sym, ◌∙◌, map}
use Rattle.std.proofs.Math.ListN.{drop_of_length-le}
use Rattle.std.specs.Char.{to_ascii_lowercase}
use Rattle.std.specs.Str.{bytes_eq}
use Rattle.schema_meaning.specs.private.Octets.{number_at, kept_or}
use Rattle.schema_meaning.proofs.Before.{any_map}
use Rattle.schema_meaning.proofs.Kept.{names_done}
use Rattle.schema_meaning.proofs.called.keep_names.Goals as goal

pub returns : goal.returns
returns c q =
    names_done (λ n. bytes_eq q (map to_ascii_lowercase n.items)) c.args.names.now _
    (number_at c.loop-name.numbers.entries q) _ c.args.number (drop_of_length-le c.args.names.now
    c.loop-name-test.false) (c.loop-name.invariant q)
    ∙ ap (λ b. kept_or (number_at c.args.numbers.now.entries q) b c.args.number)
    (sym (any_map (λ n. bytes_eq q (map to_ascii_lowercase n)) (λ v. v.items) c.args.names.now))
