-- What search doesn't prove of `put`: the clause `ok`, by lemmas of `Reached`.
use Rattle.std.proofs.Common.{ℕ, List, Vec, Global, ap, ◌∙◌}
use Rattle.entry_changes.specs.Opening.{since}
use Rattle.entry_changes.proofs.Reached.{since_put}
use Rattle.entry_changes.proofs.since.put.Goals as goal

pub returns-clause-ok : goal.returns-clause-ok
returns-clause-ok c = λ q. ap (λ (l : List (Vec ℕ Global × ℕ)). since l q) c.in_ok-insert.ensures.entries
    ∙ since_put c.args.octets c.args.place c.args.held.now.entries q
