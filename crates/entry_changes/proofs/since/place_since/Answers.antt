-- What search doesn't prove of `place_since`: what it returns, by lemmas of `Reached`.
use Rattle.std.proofs.Common.{◌∙◌}
use Rattle.entry_changes.proofs.Reached.{since_lookup}
use Rattle.entry_changes.proofs.since.place_since.Goals as goal

pub returns-in-Some : goal.returns-in-Some
returns-in-Some c = c.in-Some.ensures.value ∙ since_lookup c.args.octets.now c.args.held.now.entries

pub returns-in-None : goal.returns-in-None
returns-in-None c = c.in-None.ensures.value ∙ since_lookup c.args.octets.now c.args.held.now.entries
