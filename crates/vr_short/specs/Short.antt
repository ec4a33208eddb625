-- Messages without the first records of their logs.
use Rattle.std.specs.Prelude.{ℕ, min, nat_le, Bool, cond, not, ◌&&◌, ◌||◌, List, ◌++◌, length, take, drop, Option, Some, None, is_some}
use Rattle.vr_state.specs.Words.{LogEntry}
use Rattle.vr_state.specs.Carried.{carried_log, with_log}
use Rattle.vr_state.specs.declared.message.PeerMessage.{PeerMessage}
use Rattle.vr_world.specs.Beginnings.{log_in, committed_in}

-- It has a log of which records may be left out.
abbrev pub has_log : {P : Type 0} → PeerMessage P → Bool
has_log m = is_some (carried_log m)

-- How many records are left out of a message to a replica that has said that it has committed k: no more than the
-- sender has committed, and than there are.
abbrev pub left_out : {P : Type 0} → ℕ → PeerMessage P → ℕ
left_out k m = min k (min (committed_in m) (length (log_in m)))

-- The message without the first x records of its log.
abbrev pub shortened : {P : Type 0} → ℕ → PeerMessage P → PeerMessage P
shortened x m = with_log (drop x (log_in m)) m

-- The message with the first x records of this log before those that it has.
abbrev pub filled : {P : Type 0} → ℕ → List (LogEntry P) → PeerMessage P → PeerMessage P
filled x own m = with_log (take x own ++ log_in m) m

-- A receiver with this log, of which it has committed so much, has the first x records.
abbrev pub has_first : {P : Type 0} → ℕ → ℕ → List (LogEntry P) → Bool
has_first x committed own = nat_le x committed && nat_le x (length own)

-- What a receiver makes of a message without the first x records of its log: the whole message, or nothing where it
-- lacks some of these.
abbrev pub taken_as : {P : Type 0} → ℕ → ℕ → List (LogEntry P) → PeerMessage P → Option (PeerMessage P)
taken_as x committed own m = cond (not (has_log m) || has_first x committed own) (Some (filled x own m)) None
