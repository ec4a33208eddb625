-- Filter texts, reading: the goal of `text` that no tactic closes.
use Rattle.filter_text.proofs.Fronts.{names_small}
use Rattle.filter_text.proofs.reading_value.text.Goals as goal

pub put_ascii-requires : goal.put_ascii-requires
put_ascii-requires c = names_small c.args.octets.now c.loop-octet.octet-index c.loop-octet-test.true c.requires
