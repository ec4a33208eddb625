-- What search doesn't prove of `one_update`: what it returns, by lemmas of `Unique`.
use Rattle.lab_script.specs.Updates.{kind_of}
use Rattle.lab_script.proofs.Unique.{one_of}
use Rattle.lab_script.proofs.laws.one_update.Goals as goal

pub returns : goal.returns
returns c = λ text. one_of c.one_message.ensures (kind_of text)
