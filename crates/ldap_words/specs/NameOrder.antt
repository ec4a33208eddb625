-- Octets in order, and numbers that are kept at octets, as those of names are.
use Rattle.std.specs.Prelude.{ℕ, List, Option, None, Some, cond, Vec, nat_lt}
use Rattle.std.specs.Ordering.{nat_cmp}
use Rattle.std.specs.declared.cmp.Ordering.{Ordering}
use Rattle.std.specs.declared.alloc.Global.{Global}
use Rattle.std.specs.Cmp.Lexicographic.{slice_cmp}
use Rattle.std.specs.Map.{lookup}
use Rattle.std.specs.Str.{bytes_eq}

-- octet by octet, and octets before what they begin
abbrev pub order : List ℕ → List ℕ → Ordering
order = slice_cmp nat_cmp

-- the number that is kept at octets
abbrev pub number_at : List (Vec ℕ Global × ℕ) → List ℕ → Option ℕ
number_at entries q = lookup (λ (k : Vec ℕ Global). bytes_eq q k.items) entries

-- the lower of a number and another one, where there is another
abbrev pub lower_than : ℕ → Option ℕ → Option ℕ
lower_than n None = Some n
lower_than n (Some m) = Some (cond (nat_lt m n) m n)

-- the lower one of the numbers that are there
abbrev pub lower : Option ℕ → Option ℕ → Option ℕ
lower None m = m
lower (Some n) m = lower_than n m
