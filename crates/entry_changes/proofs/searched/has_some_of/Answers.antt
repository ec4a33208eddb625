-- What search doesn't prove of `has_some_of`: what it returns, by lemmas of `Reached`.
use Rattle.std.proofs.Common.{ℕ, Bor, List, ◌∙◌}
use Rattle.std.specs.List.{list_any}
use Rattle.std.specs.Str.{bytes_eq}
use Rattle.entry_changes.specs.Opening.{octets_by}
use Rattle.entry_changes.proofs.Reached.{some_of_octets}
use Rattle.entry_changes.proofs.searched.has_some_of.Goals as goal

pub returns : goal.returns
returns c =
    c.is_some_among.ensures
    ∙ some_of_octets (λ (o : Bor (List ℕ)). o.now)
    (λ x. list_any (bytes_eq x) (octets_by c.args.by_keys c.args.attribute.now)) c.as_slice.result.now
    c.in_ok-octets.octets.items (octets_by c.args.by_keys c.args.given.now) c.as_slice.ensures.value
    c.in_ok-octets.ensures
