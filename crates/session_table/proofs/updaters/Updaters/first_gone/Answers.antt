-- What search doesn't prove of `first_gone`: the clause `none`, by lemmas of `Posted`.
use Rattle.std.proofs.Common.{arith}
use Rattle.session_table.specs.Posting.{posted}
use Rattle.session_table.proofs.Posted.{gone_within}
use Rattle.session_table.proofs.updaters.Updaters.first_gone.Goals as goal

pub returns-clause-none : goal.returns-clause-none
returns-clause-none c = λ t h.
    let within = gone_within (posted c.args.self.now) c.args.limit c.args.now t h in
    c.loop-thread.invariant t (omega arith) h
