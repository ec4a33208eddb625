-- What search doesn't prove of `number_of`: what it returns, by lemmas of `Again`.
use Rattle.std.proofs.Common.{◌∙◌}
use Rattle.schema_faults.proofs.Again.{line_lookup}
use Rattle.schema_faults.proofs.repeats.number_of.Goals as goal

pub returns-in-Some : goal.returns-in-Some
returns-in-Some c = c.in-Some.ensures.value ∙ line_lookup c.args.octets.now c.args.seen.now.entries

pub returns-in-None : goal.returns-in-None
returns-in-None c = c.in-None.ensures.value ∙ line_lookup c.args.octets.now c.args.seen.now.entries
