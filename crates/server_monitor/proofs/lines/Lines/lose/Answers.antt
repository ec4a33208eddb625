-- What search doesn't prove of `lose`: the clause `dropped`, by lemmas of `Noting`.
use Rattle.std.proofs.Common.{ap}
use Rattle.server_monitor.proofs.Noting.{lost_one}
use Rattle.server_monitor.proofs.lines.Lines.lose.Goals as goal

pub returns-clause-dropped : goal.returns-clause-dropped
returns-clause-dropped c =
    lost_one _ _ _ c.args.self.now c.saturating_add-self-inside.ensures (ap (λ v. v.notes) c.self.view_is)
