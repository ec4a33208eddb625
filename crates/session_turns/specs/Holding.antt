-- What sessions at their places hold. A list by place comes in, with a session that wants more; whose session is ended
-- comes out.
use Rattle.std.specs.Prelude.{◌≡◌, ◌≤◌, ◌<◌, ◌+◌, ℕ, List, Option, None, Some, cond, nat_lt, slice_get}
use Rattle.session_turns.specs.declared.holders.Holder.{Holder}

-- how early a session is ended: an anonymous one before a bound one, and of alike ones the one that holds more
abbrev pub rank : Holder → ℕ
rank h = cond h.is_bound h.octets (h.octets + 18446744073709551616)

-- what is kept of it: nothing, where it holds less than 4 KiB
abbrev pub kept : Holder → Option Holder
kept h = cond (nat_lt h.octets 4096) None (Some h)

-- the session at a place holds this
abbrev pub HoldsAt : List (Option Holder) → ℕ → Holder → Type 0
HoldsAt holders p h = slice_get holders p ≡ Some (Some h)

-- Nobody is in the list who holds less than 4 KiB.
abbrev pub AllHoldEnough : List (Option Holder) → Type 0
AllHoldEnough holders = (p : ℕ) (h : Holder) → HoldsAt holders p h → 4096 ≤ h.octets

-- The session at a place is ended earlier than one that wants more, none is ended earlier still, and it holds 4 KiB at
-- least.
pub record IsRather (holders : List (Option Holder)) (own : Holder) (p : ℕ) : Type 0 where
  pub holder : Holder
  pub at : HoldsAt holders p holder
  pub earlier : rank own < rank holder
  pub first : (q : ℕ) (h : Holder) → HoldsAt holders q h → rank h ≤ rank holder
  pub enough : 4096 ≤ holder.octets

-- no session is ended earlier than the one that wants more
abbrev pub NoneRather : List (Option Holder) → Holder → Type 0
NoneRather holders own = (q : ℕ) (h : Holder) → HoldsAt holders q h → rank h ≤ rank own
