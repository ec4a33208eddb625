-- Whether something that is needed has been missing for too long. Moments and times are numbers of one unit.
use Rattle.std.specs.Prelude.{◌≡◌, ℕ, ◌+◌, ◌-◌, ◌<◌, ◌≤◌, Bool, true, false, cond, nat_le, List, [], ◌∷◌, Option, Some, None}

-- for how long it may be missing, and since when it is, where it is
pub record LackValue : Type 0 where
  pub limit : ℕ
  pub since : Option ℕ

-- since when it is missing that is missing at this moment
abbrev pub first_since : Option ℕ → ℕ → ℕ
first_since None now = now
first_since (Some since) now = since

-- it was looked at this moment whether it is missing
abbrev pub looked : LackValue → Bool → ℕ → LackValue
looked l is_missing now = record l { since = cond is_missing (Some (first_since l.since now)) None }

-- it has been missing for so long
abbrev pub is_too_long : Option ℕ → ℕ → ℕ → Bool
is_too_long None limit now = false
is_too_long (Some since) limit now = nat_le limit (now - since)

-- It was missing at each of these moments.
abbrev pub missing_at : List ℕ → LackValue → LackValue
missing_at [] l = l
missing_at (now ∷ moments) l = missing_at moments (looked l true now)

-- Whatever was seen before: where it wasn't missing once, and is missing from a later moment on, it is too long from
-- the limit after that moment on ..
abbrev pub ALastingLackIsFound : Type 0
ALastingLackIsFound = (l : LackValue) (before first : ℕ) (moments : List ℕ) (now : ℕ) → first + l.limit ≤ now
    → is_too_long (missing_at (first ∷ moments) (looked l false before)).since l.limit now ≡ true

-- .. and not before, however often it is looked, and however seldom.
abbrev pub AShortLackIsNone : Type 0
AShortLackIsNone = (l : LackValue) (before first : ℕ) (moments : List ℕ) (now : ℕ) → now < first + l.limit → 1 ≤ l.limit
    → is_too_long (missing_at (first ∷ moments) (looked l false before)).since l.limit now ≡ false
