-- What search doesn't prove of `place`: what it returns, by lemmas of `Placed`.
use Rattle.std.proofs.Common.{◌∙◌}
use Rattle.entry_changes.proofs.Placed.{place_shown}
use Rattle.entry_changes.proofs.placing.place.Goals as goal

pub returns : goal.returns
returns c = c.count_before.ensures ∙ place_shown c.args.type_id c.args.attributes.now
