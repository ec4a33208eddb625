-- Whose session is ended, of those at the first places. A list and a count of places come in.
use Rattle.std.specs.Prelude.{◌≡◌, ◌≤◌, ◌<◌, ℕ, List, Option, None, Some}
use Rattle.session_turns.specs.declared.holders.Holder.{Holder}
use Rattle.session_turns.specs.Holding.{HoldsAt, rank}

-- the session at a place ranks so, above this, and holds 4 KiB at least
pub record IsAbove (holders : List (Option Holder)) (p least rank_at : ℕ) : Type 0 where
  pub holder : Holder
  pub at : HoldsAt holders p holder
  pub rank_is : rank holder ≡ rank_at
  pub above : least < rank_at
  pub enough : 4096 ≤ holder.octets

-- the first of them so far: the one that wants more, or the session at a place
abbrev pub IsFirst : List (Option Holder) → Holder → Option ℕ → ℕ → Type 0
IsFirst holders own None least = least ≡ rank own
IsFirst holders own (Some p) least = IsAbove holders p (rank own) least

-- the first of those at so many places, and the one that wants more; and how it ranks
pub record IsMostBelow (holders : List (Option Holder)) (own : Holder) (count : ℕ) (first : Option ℕ) (least : ℕ) :
    Type 0 where
  pub is_first : IsFirst holders own first least
  pub most : (q : ℕ) (h : Holder) → q < count → HoldsAt holders q h → rank h ≤ least
