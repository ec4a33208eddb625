-- Whether a replica hears from a majority. Moments and times are numbers of one unit.
use Rattle.std.specs.Prelude.{ℕ, ◌-◌, ◌/◌, Bool, cond, not, ◌||◌, ◌==◌, ◌^◌, nat_le, List, length, set, replicate}
use Rattle.std.specs.List.{count_by}

-- when each replica was heard last, by index, when it was asked last, and since when silence is counted
pub record MajorityValue : Type 0 where
  pub suspect : ℕ
  pub index : ℕ
  pub heard : List ℕ
  pub asked_at : ℕ
  pub rested_at : ℕ

-- All count as heard at the first moment; it hears itself at each.
abbrev pub first : ℕ → ℕ → ℕ → ℕ → MajorityValue
first suspect index count now = record {
  suspect = suspect;
  index = index;
  heard = set (replicate count now) index (2 ^ 64 - 1);
  asked_at = now;
  rested_at = now;
}

-- a replica that was heard at this moment is still in touch
abbrev pub is_within : ℕ → ℕ → ℕ → Bool
is_within suspect now moment = nat_le (now - moment) suspect

-- how many replicas are in touch, the own one among them
abbrev pub in_touch : MajorityValue → ℕ → ℕ
in_touch m now = count_by (is_within m.suspect now) m.heard

-- A replica that was stopped itself for half a suspect period could hear nobody: then silence is counted from now on.
abbrev pub asked : MajorityValue → ℕ → MajorityValue
asked m now = record m {
  asked_at = now;
  rested_at = cond (nat_le (m.suspect / 2) (now - m.asked_at)) now m.rested_at;
}

-- It is in touch with a majority: more than half of all replicas are, or silence has been counted for less than a
-- suspect period.
abbrev pub holds : MajorityValue → ℕ → Bool
holds m now = nat_le (now - m.rested_at) m.suspect || not (nat_le (in_touch m now) (length m.heard / 2))

-- another replica was heard
abbrev pub heard_from : MajorityValue → ℕ → ℕ → MajorityValue
heard_from m from now = cond (from == m.index) m (record m { heard = set m.heard from now })
