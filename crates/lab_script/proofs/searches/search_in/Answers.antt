-- What search doesn't prove of `search_in`: the clause `bad`, by lemmas of `Refusals`.
use Rattle.lab_script.proofs.Refusals.{no_search}
use Rattle.lab_script.proofs.searches.search_in.Goals as goal

pub returns-in-Some-clause-bad : goal.returns-in-Some-clause-bad
returns-in-Some-clause-bad c = λ e event. no_search c.args.rest.now _ event c.in-Some.ensures
    (c.search_of.ensures.bad e event)
