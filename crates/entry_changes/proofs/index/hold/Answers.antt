-- What search doesn't prove of `hold`: the clause `held` and the clause `others`, by lemmas of `Reached`.
use Rattle.std.proofs.Common.{ℕ, Bor, List, Some, cond, ap, ◌∙◌}
use Rattle.std.specs.Str.{bytes_eq}
use Rattle.entry_changes.specs.Opening.{since, octets_by}
use Rattle.entry_changes.proofs.Reached.{some_of_octets, on_ok}
use Rattle.entry_changes.proofs.index.hold.Goals as goal

pub returns-clause-held : goal.returns-clause-held
returns-clause-held c =
    on_ok c.put_all.result
    (λ h q. h q ∙ ap (λ b. cond b (Some c.args.place) (since c.args.index.now.held.entries q))
    (some_of_octets (λ (o : Bor (List ℕ)). o.now) (bytes_eq q) c.as_slice.result.now c.in_ok-octets.octets.items
    (octets_by c.args.index.now.by_keys c.args.given.now) c.as_slice.ensures.value c.in_ok-octets.ensures))
    c.put_all.ensures.ok

pub returns-clause-others : goal.returns-clause-others
returns-clause-others c = λ q none.
    c.put_all.ensures.others q
    (some_of_octets (λ (o : Bor (List ℕ)). o.now) (bytes_eq q) c.as_slice.result.now c.in_ok-octets.octets.items
    (octets_by c.args.index.now.by_keys c.args.given.now) c.as_slice.ensures.value c.in_ok-octets.ensures ∙ none)
