-- What search doesn't prove of `put_numbers`: the clause `ok`, by lemmas of `Joining`.
use Rattle.log_journal.proofs.Joining.{five}
use Rattle.log_journal.proofs.fields.put_numbers.Goals as goal

pub returns-clause-ok : goal.returns-clause-ok
returns-clause-ok c = five _ _ _ _ _ _ _ _ _ _ _ c.in_ok-put_number.ensures.ok c.in_ok-put_number-2.ensures.ok
    c.in_ok-put_number-3.ensures.ok c.in_ok-put_number-4.ensures.ok c.in_ok-put_number-5.ensures.ok
