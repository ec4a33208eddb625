-- What search doesn't prove of `is_same`: the clause `apart`, by lemmas of `Parting`.
use Rattle.log_journal.proofs.Parting.{octets_differ}
use Rattle.log_journal.proofs.spelling.is_same.Goals as goal

pub returns-in-Some-Some-clause-apart : goal.returns-in-Some-Some-clause-apart
returns-in-Some-Some-clause-apart c = octets_differ c.eq.result c.args.one.now c.args.other.now c.in-Some-Some.a.now
    c.in-Some-Some.b.now c.in-Some-Some.ensures.spelled c.in-Some-Some.ensures'.spelled c.eq.ensures
