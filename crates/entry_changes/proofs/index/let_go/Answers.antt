-- What search doesn't prove of `let_go`: the clause `held`, by lemmas of `Reached`.
use Rattle.std.proofs.Common.{ℕ, Bor, List, None, cond, ap, ◌∙◌}
use Rattle.std.specs.Str.{bytes_eq}
use Rattle.entry_changes.specs.Opening.{since, octets_by}
use Rattle.entry_changes.proofs.Reached.{some_of_octets}
use Rattle.entry_changes.proofs.index.let_go.Goals as goal

pub returns-clause-held : goal.returns-clause-held
returns-clause-held c = λ q.
    c.take_all.ensures q ∙ ap (λ b. cond b None (since c.args.index.now.held.entries q))
    (some_of_octets (λ (o : Bor (List ℕ)). o.now) (bytes_eq q) c.as_slice.result.now c.in_ok-octets.octets.items
    (octets_by c.args.index.now.by_keys c.args.given.now) c.as_slice.ensures.value c.in_ok-octets.ensures)
