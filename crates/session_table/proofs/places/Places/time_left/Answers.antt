-- What search doesn't prove of `time_left`: what it returns, step by step.
use Rattle.std.proofs.Common.{ℕ, ◌-◌, ap, ◌∙◌, inr}
use Rattle.std.specs.Duration.{as_nanos}
use Rattle.session_table.proofs.places.Places.time_left.Goals as goal

pub returns-in-Some : goal.returns-in-Some
returns-in-Some c =
    inr (record {
      pooled = c.in-Some.pooled.now;
      longest = c.in-Some.ensures.some;
      less = c.saturating_sub.ensures ∙ ap (λ (n : ℕ). as_nanos c.args.limit - n) c.saturating_duration_since.ensures;
    })
