-- What search doesn't prove of `put`: what it returns, by lemmas of `Again`.
use Rattle.std.proofs.Common.{ℕ, List, Vec, Global, ap, ◌∙◌}
use Rattle.schema_meaning.specs.private.Octets.{number_at}
use Rattle.schema_faults.proofs.Again.{line_put}
use Rattle.schema_faults.proofs.repeats.put.Goals as goal

pub returns : goal.returns
returns c = λ q. ap (λ (l : List (Vec ℕ Global × ℕ)). number_at l q) c.in_ok-insert.ensures.entries
    ∙ line_put c.args.octets 0 c.args.seen.now.entries q
