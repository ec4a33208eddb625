-- What search doesn't prove of `is_late`: what it returns, by lemmas of `Posted`.
use Rattle.session_table.proofs.Posted.{is_late_since}
use Rattle.session_table.proofs.pooled.PooledSession.is_late.Goals as goal

pub returns-in-Some : goal.returns-in-Some
returns-in-Some c = is_late_since c.args.self.now c.args.limit c.args.now c.in-Some.began c.is_past.result
    c.in-Some.is c.is_past.ensures
