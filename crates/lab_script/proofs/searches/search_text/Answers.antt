-- What search doesn't prove of `search_text`: the clause `bad`, step by step.
use Rattle.std.proofs.Common.{Err, ap}
use Rattle.lab_script.proofs.searches.search_text.Goals as goal

pub returns-in-Err-BadText-clause-bad : goal.returns-in-Err-BadText-clause-bad
returns-in-Err-BadText-clause-bad c = λ e q. c.in-Err-BadText.ensures.bad (ap Err c.in-Err-BadText.field-0-is) q
