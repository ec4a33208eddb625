-- What search doesn't prove of `read_request`: the clause `bad`, by lemmas of `Refusals`.
use Rattle.std.proofs.Common.{◌≡◌, Err, ap}
use Rattle.lab_script.specs.Lines.{IsRequest}
use Rattle.lab_script.specs.declared.fault.LineError.TheVariants.{BadLine}
use Rattle.lab_script.proofs.Refusals.{no_one}
use Rattle.lab_script.proofs.script.read_request.Goals as goal

pub returns-in-Err-clause-bad : goal.returns-in-Err-clause-bad
returns-in-Err-clause-bad c = λ e es.
    let same : c.in-Err.error ≡ BadLine = cc in
    no_one (IsRequest c.args.rest.now) es (c.in-Err.ensures.bad (ap Err same))
