-- Whether the other end of a stream is still there. Moments and times are numbers of one unit.
use Rattle.std.specs.Prelude.{◌≡◌, ℕ, ◌+◌, ◌-◌, ◌≤◌, Bool, true, false, cond, nat_le, List, [], ◌∷◌, Option, Some, None}

-- how often the other end is asked, how long its answer may take, whether it has ever answered, when it was asked last,
-- and since when an answer is awaited
pub record KeepAliveValue : Type 0 where
  pub beat : ℕ
  pub silence : ℕ
  pub answers : Bool
  pub asked_at : ℕ
  pub waits_since : Option ℕ

-- A new stream: where the other end has answered on an earlier one, it answers a greeting too.
abbrev pub begun : KeepAliveValue → ℕ → KeepAliveValue
begun k now = record k { asked_at = now; waits_since = cond k.answers (Some now) None }

-- it has answered
abbrev pub answered : KeepAliveValue → KeepAliveValue
answered k = record k { answers = true; waits_since = None }

-- it is to be asked
abbrev pub is_due : KeepAliveValue → ℕ → Bool
is_due k now = nat_le k.beat (now - k.asked_at)

-- since when an answer is awaited, where one is asked for at a moment
abbrev pub waits_from : Option ℕ → ℕ → ℕ
waits_from None now = now
waits_from (Some since) now = since

-- It is asked, if it is one that answers.
abbrev pub asked : KeepAliveValue → ℕ → KeepAliveValue
asked k now = record k {
  asked_at = now;
  waits_since = cond k.answers (Some (waits_from k.waits_since now))
      k.waits_since;
}

-- an answer has been awaited for so long
abbrev pub is_past : ℕ → Option ℕ → ℕ → Bool
is_past silence None now = false
is_past silence (Some since) now = nat_le silence (now - since)

-- the other end counts as gone
abbrev pub is_gone : KeepAliveValue → ℕ → Bool
is_gone k now = is_past k.silence k.waits_since now

-- It is asked at each of these moments, and nothing is heard.
abbrev pub asked_at_all : List ℕ → KeepAliveValue → KeepAliveValue
asked_at_all [] k = k
asked_at_all (now ∷ moments) k = asked_at_all moments (asked k now)

-- However often an end that has answered before is asked in vain: it counts as gone once the silence has lasted since
-- the first question.
abbrev pub ASilentEndIsGone : Type 0
ASilentEndIsGone = (k : KeepAliveValue) (first : ℕ) (moments : List ℕ) (now : ℕ) → k.answers ≡ true → k.waits_since ≡
    None
    → first + k.silence ≤ now → is_gone (asked_at_all (first ∷ moments) k) now ≡ true
