-- What the poll reports the socket of a session by. A place and a number come in.
use Rattle.std.specs.Prelude.{ℕ, ◌+◌, ◌*◌, ◌%◌}

-- a place, and above it what is left of its session's number by as many as tokens tell apart
abbrev pub token_of : ℕ → ℕ → ℕ
token_of place number = place % 4294967296 + number % 4294967296 * 4294967296
