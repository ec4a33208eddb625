-- How long octets are, up to a limit.
use Rattle.std.proofs.Common.{◌≡◌, ℕ, ◌+◌, ◌≤◌, List, ◌++◌, length, min, arith}
use Rattle.std.proofs.lemmas.List.{length-append}

-- one part after the other
pub two_measure : (a b : List ℕ) (m n limit sum : ℕ) → m ≡ min (length a) limit → n ≡ min (length b) limit →
    sum ≡ min (m + n) limit → sum ≡ min (length (a ++ b)) limit
two_measure a b m n limit sum e₁ e₂ e = omega (arith, e₁, e₂, e, length-append a b)

-- a length up to a limit stands for the length
pub same_measure : (n : ℕ) (octets : List ℕ) (limit : ℕ) → n ≡ min (length octets) limit → min n limit ≡
    min (length octets) limit
same_measure n octets limit e = omega (arith, e)

pub first_long : (a b : List ℕ) (n : ℕ) → n ≤ length a → n ≤ length (a ++ b)
first_long a b n h = omega (arith, h, length-append a b)

pub second_long : (a b : List ℕ) (n : ℕ) → n ≤ length b → n ≤ length (a ++ b)
second_long a b n h = omega (arith, h, length-append a b)
