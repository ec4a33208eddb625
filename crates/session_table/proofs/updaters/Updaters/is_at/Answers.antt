-- What search doesn't prove of `is_at`: what it returns, by lemmas of `Posted`.
use Rattle.session_table.specs.Posting.{posted}
use Rattle.session_table.proofs.Posted.{is_of}
use Rattle.session_table.proofs.updaters.Updaters.is_at.Goals as goal

pub returns-in-Some : goal.returns-in-Some
returns-in-Some c = is_of (posted c.args.self.now) c.args.thread c.args.token c.in-Some.post c.in-Some.ensures.some
