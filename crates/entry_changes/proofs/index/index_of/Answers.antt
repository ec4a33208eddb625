-- What search doesn't prove of `index_of`: the clause `held`, by lemmas of `Reached`.
use Rattle.std.proofs.Common.{ℕ, Bor, List, Vec, Global, Some, cond, ap, ◌∙◌}
use Rattle.std.specs.List.{list_any}
use Rattle.std.specs.Str.{bytes_eq}
use Rattle.entry_changes.specs.Opening.{since, octets_by}
use Rattle.entry_changes.proofs.Reached.{some_of_octets}
use Rattle.entry_changes.proofs.index.index_of.Goals as goal

pub returns-clause-held : goal.returns-clause-held
returns-clause-held c = λ q.
    c.in_ok-put_all.ensures.ok q
    ∙ ap (λ b. cond b (Some 0) (since c.new-held.result.entries q))
    (some_of_octets (λ (o : Bor (List ℕ)). o.now) (bytes_eq q) c.as_slice.result.now c.in_ok-octets.octets.items
    (octets_by c.args.by_keys c.args.attribute.now) c.as_slice.ensures.value c.in_ok-octets.ensures)
    ∙ ap (λ (l : List (Vec ℕ Global × ℕ)).
    cond (list_any (bytes_eq q) (octets_by c.args.by_keys c.args.attribute.now)) (Some 0) (since l q))
    c.new-held.ensures.empty
