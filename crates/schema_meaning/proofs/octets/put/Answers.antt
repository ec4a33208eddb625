-- What search doesn't prove of `put`: what it returns, by lemmas of `Before`.
use Rattle.std.proofs.Common.{ℕ, List, Vec, Global, ap, ◌∙◌}
use Rattle.schema_meaning.specs.private.Octets.{number_at}
use Rattle.schema_meaning.proofs.Before.{line_put}
use Rattle.schema_meaning.proofs.octets.put.Goals as goal

pub returns : goal.returns
returns c = λ q. ap (λ (l : List (Vec ℕ Global × ℕ)). number_at l q) c.in_ok-insert.ensures.entries
    ∙ line_put c.args.octets c.args.number c.args.numbers.now.entries q
