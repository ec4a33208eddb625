-- What search doesn't prove of `search_of`: the clause `bad`, by lemmas of `Refusals`.
use Rattle.std.proofs.Common.{◌≡◌, Err, ap}
use Rattle.lab_script.specs.declared.fault.LineError.TheVariants.{BadLine}
use Rattle.lab_script.proofs.Refusals.{no_text}
use Rattle.lab_script.proofs.searches.search_of.Goals as goal

pub returns-in-Err-clause-bad : goal.returns-in-Err-clause-bad
returns-in-Err-clause-bad c = λ e event.
    let same : c.in-Err.error ≡ BadLine = cc in
    no_text _ event (c.in-Err.ensures.bad (ap Err same))
