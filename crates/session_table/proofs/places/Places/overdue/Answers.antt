-- What search doesn't prove of `overdue`: the clause `none`, step by step.
use Rattle.std.proofs.Common.{◌≡◌, true, inr}
use Rattle.session_table.proofs.places.Places.overdue.Goals as goal

pub returns-then-not-is_past-clause-none : goal.returns-then-not-is_past-clause-none
returns-then-not-is_past-clause-none c =
    inr (record {
      pooled = c.in_ok-pooled.pooled.now;
      longest = c.in_ok-pooled.ensures.some;
      soon = λ h. let t : c.is_past.result ≡ true = c.is_past.ensures.1 h in let n = c.if-not-is_past.true in cc;
    })
