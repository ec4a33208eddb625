-- When a thing is done again: at once where it wasn't done yet, and not before a beat has passed since it was.
use Rattle.std.specs.Prelude.{ℕ, ◌-◌, Bool, true, cond, nat_le, Option, Some, None}

-- how long a beat is, and when the thing was done last, where it was
pub record PaceValue : Type 0 where
  pub beat : ℕ
  pub last : Option ℕ

-- so much time has passed since the last, where there is one
abbrev pub has_passed : Option ℕ → ℕ → ℕ → Bool
has_passed None beat now = true
has_passed (Some last) beat now = nat_le beat (now - last)

-- it may be done at this moment
abbrev pub is_turn : PaceValue → ℕ → Bool
is_turn p now = has_passed p.last p.beat now

-- it was done at this moment
abbrev pub done_at : PaceValue → ℕ → PaceValue
done_at p now = record p { last = Some now }

-- it was asked whether it may be done at this moment, and is done then
abbrev pub turned : PaceValue → ℕ → PaceValue
turned p now = cond (is_turn p now) (done_at p now) p
