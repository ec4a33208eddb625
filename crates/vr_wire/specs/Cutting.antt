-- What is cut from the front of octets.
use Rattle.std.specs.Prelude.{◌≡◌, ◌+◌, ◌<◌, ◌≤◌, ℕ}
use Rattle.std.specs.Prelude.{Result, Ok, Err}
use Rattle.vr_wire.specs.Frames.{limit}
use Rattle.vr_wire.specs.declared.error.WireError.{WireError}
use Rattle.vr_wire.specs.declared.error.WireError.TheVariants as error

-- how many octets are still to come, by the first four
abbrev pub rest_by : ℕ → Result ℕ WireError → Type 0
rest_by n (Ok count) = (count ≡ n) × (n + 4 ≤ limit)
rest_by n (Err error.BadFrame) = limit < n + 4
rest_by n (Err error.ForeignFrame) = ⊥
rest_by n (Err error.NoMemory) = ⊥
