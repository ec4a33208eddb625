-- What search doesn't prove of `holds_all_of`: what it returns, by lemmas of `Reached`.
use Rattle.std.proofs.Common.{ℕ, Bor, List, is_some, ◌∙◌}
use Rattle.entry_changes.specs.Opening.{since, octets_by}
use Rattle.entry_changes.proofs.Reached.{all_of_octets}
use Rattle.entry_changes.proofs.index.holds_all_of.Goals as goal

pub returns : goal.returns
returns c =
    c.are_all_held.ensures
    ∙ all_of_octets (λ (o : Bor (List ℕ)). o.now) (λ x. is_some (since c.args.index.now.held.entries x))
    c.as_slice.result.now c.in_ok-octets.octets.items (octets_by c.args.index.now.by_keys c.args.given.now)
    c.as_slice.ensures.value c.in_ok-octets.ensures
