-- How many octets clients may take together. What is asked for, in MiB, and the machine's memory come in.
use Rattle.std.specs.Prelude.{ℕ, ◌*◌, ◌/◌, min, max, Option, None, Some}

-- What is asked for, else an eighth of the machine's memory between 64 MiB and 1 GiB; a quarter of the machine's memory
-- at most. Where that isn't known, what is asked for, else 64 MiB.
abbrev pub limit_of : Option ℕ → Option ℕ → ℕ
limit_of (Some asked) (Some machine) = min (min (asked * 1048576) 18446744073709551615) (machine / 4)
limit_of (Some asked) None = min (asked * 1048576) 18446744073709551615
limit_of None (Some machine) = min (min (max (machine / 8) 67108864) 1073741824) (machine / 4)
limit_of None None = 67108864
