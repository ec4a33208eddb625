-- How long a joined log is.
use Rattle.std.proofs.Common.{◌≡◌, ℕ, ◌+◌, min, length, take, arith, length-append, length-take}
use Rattle.vr_state.specs.declared.message.Snapshot.{Snapshot}
use Rattle.vr_state.specs.State.{State}
use Rattle.vr_state.specs.StateTransfer.{joined}

-- So many of its own records, as far as it has them, and the tail.
pub joined_long : {P : Type 0} (r : State P) (x n : ℕ) (tail : Snapshot P) → n ≡ min x (length r.log) + length
    tail.log → n ≡ length (joined r x tail).log
joined_long r x n tail e = omega (arith, length-append (take x r.log) tail.log, length-take x r.log)
