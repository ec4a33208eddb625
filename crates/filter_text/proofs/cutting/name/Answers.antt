-- Filter texts, reading: the goal of `name` that no tactic closes.
use Rattle.filter_text.proofs.Fronts.{names_front}
use Rattle.filter_text.proofs.cutting.name.Goals as goal

pub returns-clause-octets : goal.returns-clause-octets
returns-clause-octets c = names_front c.name_len.result c.args.text.now c.name_len.ensures.count
