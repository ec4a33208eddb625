-- What search doesn't prove of `is_gone`: what it returns, by lemmas of `Posted`.
use Rattle.session_table.specs.Posting.{posted}
use Rattle.session_table.proofs.Posted.{is_gone_there}
use Rattle.session_table.proofs.updaters.Updaters.is_gone.Goals as goal

pub returns-in-Some : goal.returns-in-Some
returns-in-Some c =
    is_gone_there (posted c.args.self.now) c.args.limit c.args.now c.args.thread c.in-Some.post c.is_closed_for.result
    c.in-Some.ensures.some c.is_closed_for.ensures
