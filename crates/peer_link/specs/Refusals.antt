-- The answer to a greeting that is refused: what the start doesn't remember, and its octets.
use Rattle.std.specs.Prelude.{◌≡◌, ◌<◌, ◌^◌, ℕ, cond, ◌==◌, List, ◌∷◌, ◌++◌, take, drop, slice_index, Option, Some, None}
use Rattle.std.specs.Int.{w64, to_be_bytes, from_be_bytes}
use Rattle.peer_link.specs.declared.past.Forgotten.{Forgotten}
use Rattle.peer_link.specs.declared.past.Forgotten.TheVariants as forgotten

-- 2, a kind, and two numbers of eight octets each
abbrev pub spelled_octets : ℕ → ℕ → ℕ → List ℕ
spelled_octets kind one other = 2 ∷ kind ∷ (to_be_bytes w64 one ++ to_be_bytes w64 other)

-- the refusal of a start that doesn't remember this
abbrev pub refusal_octets : Forgotten → List ℕ
refusal_octets (forgotten.Start said) = spelled_octets 0 said 0
refusal_octets (forgotten.View said) = spelled_octets 1 said 0
refusal_octets (forgotten.Log said) = spelled_octets 2 said.last_normal said.length

-- the first number
abbrev pub first_in : List ℕ → ℕ
first_in octets = from_be_bytes w64 (take 8 (drop 2 octets))

-- the second number
abbrev pub second_in : List ℕ → ℕ
second_in octets = from_be_bytes w64 (take 8 (drop 10 octets))

-- what 18 octets refuse a start for; none, where they refuse none
abbrev pub refusal_in : List ℕ → Option Forgotten
refusal_in octets =
    cond (slice_index octets 0 == 2)
    (cond (slice_index octets 1 == 0) (Some (forgotten.Start (first_in octets)))
    (cond (slice_index octets 1 == 1) (Some (forgotten.View (first_in octets)))
    (cond (slice_index octets 1 == 2)
    (Some (forgotten.Log (record { last_normal = first_in octets; length = second_in octets }))) None))) None

-- Numbers of 64 bits are told.
abbrev pub IsTellable : Forgotten → Type 0
IsTellable (forgotten.Start said) = said < 2 ^ 64
IsTellable (forgotten.View said) = said < 2 ^ 64
IsTellable (forgotten.Log said) = (said.last_normal < 2 ^ 64) × (said.length < 2 ^ 64)

-- A refusal is read as it was spelled.
abbrev pub RefusalsAreRead : Type 0
RefusalsAreRead = (f : Forgotten) → IsTellable f → refusal_in (refusal_octets f) ≡ Some f
