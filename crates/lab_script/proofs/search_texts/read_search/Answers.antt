-- What search doesn't prove of `read_search`: the clause `bad`, by lemmas of `NoText`.
use Rattle.lab_script.proofs.NoText.{no_search}
use Rattle.lab_script.proofs.search_texts.read_search.Goals as goal

pub returns-in-Some-clause-bad : goal.returns-in-Some-clause-bad
returns-in-Some-clause-bad c = λ e q. no_search c.args.text.now _ q c.in-Some.ensures (c.search_of.ensures.bad e q)
