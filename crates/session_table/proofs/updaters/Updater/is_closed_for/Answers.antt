-- What search doesn't prove of `is_closed_for`: what it returns, by lemmas of `Posted`.
use Rattle.session_table.proofs.Posted.{is_closed_since}
use Rattle.session_table.proofs.updaters.Updater.is_closed_for.Goals as goal

pub returns-in-Some : goal.returns-in-Some
returns-in-Some c = is_closed_since c.args.self c.args.limit c.args.now c.in-Some.since c.is_past.result c.in-Some.is
    c.is_past.ensures
