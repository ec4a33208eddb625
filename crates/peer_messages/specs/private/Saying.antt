-- How much replicas have said that they have committed: none is known of one that doesn't read notes.
use Rattle.std.specs.Prelude.{ℕ, ◌-◌, ◌^◌, ◌==◌, cond, min, Option, Some, None}
use Rattle.vr_state.specs.declared.message.PeerMessage.{PeerMessage}
use Rattle.vr_state.specs.declared.message.PeerMessage.TheVariants.{Prepare, PrepareOk, Commit, StartViewChange, DoViewChange, StartView, GetState, NewState, Recovery, RecoveryResponse}

-- what the number stands for that an atomic holds
abbrev pub said_in : ℕ → Option ℕ
said_in n = cond (n == 0) None (Some (n - 1))

-- the number, after another was stored or none
abbrev pub stored : ℕ → Option ℕ → ℕ
stored n None = n
stored n (Some k) = k

-- It asks whether it is heard, so it reads notes. What it said stays.
abbrev pub after_asking : Option ℕ → Option ℕ
after_asking None = Some 0
after_asking (Some k) = Some k

-- It says how much it has committed. One that doesn't read notes is sent whole messages, whatever it says.
abbrev pub after_saying : Option ℕ → ℕ → Option ℕ
after_saying None k = None
after_saying (Some j) k = Some (min k (2 ^ 64 - 2))

-- How much the sender of a message has committed, as that says: a STARTVIEWCHANGE by the note before it. Who recovers
-- has nothing.
abbrev pub committed_by : {P : Type 0} → PeerMessage P → Option ℕ → Option ℕ
committed_by (Prepare v e p x) noted = Some x
committed_by (PrepareOk v p) noted = None
committed_by (Commit v x) noted = Some x
committed_by (StartViewChange v) noted = noted
committed_by (DoViewChange v c) noted = Some c.commit_number
committed_by (StartView v held) noted = Some held.commit_number
committed_by (GetState v x) noted = Some x
committed_by (NewState v base tail) noted = Some tail.commit_number
committed_by (Recovery n) noted = Some 0
committed_by (RecoveryResponse n r) noted = None
