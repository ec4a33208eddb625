-- What search doesn't prove of `request_in`: the clause `bad`, by lemmas of `Refusals`.
use Rattle.lab_script.proofs.Refusals.{no_request}
use Rattle.lab_script.proofs.requests.request_in.Goals as goal

pub returns-in-Some-clause-bad : goal.returns-in-Some-clause-bad
returns-in-Some-clause-bad c = λ e event. no_request c.args.rest.now _ event c.in-Some.ensures
    (c.request_of.ensures.bad e event)
