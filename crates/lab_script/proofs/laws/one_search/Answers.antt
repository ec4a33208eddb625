-- What search doesn't prove of `one_search`: what it returns, by lemmas of `Unique`.
use Rattle.lab_script.proofs.Unique.{one_text}
use Rattle.lab_script.proofs.laws.one_search.Goals as goal

pub returns : goal.returns
returns c = one_text c.one_filter_text.ensures.unique
