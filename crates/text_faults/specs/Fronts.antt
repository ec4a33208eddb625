-- What is before a mark of a line: a line comes in, its front goes out.
use Rattle.std.specs.Prelude.{ℕ, List, nat_eq, take, Option, None, Some}
use Rattle.std.specs.List.{position}

-- what is before this place, or all of a line
abbrev pub front_up_to : List ℕ → Option ℕ → List ℕ
front_up_to line None = line
front_up_to line (Some at) = take at line

-- what is before the first colon of a line
abbrev pub front_of : List ℕ → List ℕ
front_of line = front_up_to line (position (λ octet. nat_eq octet 58) line)
