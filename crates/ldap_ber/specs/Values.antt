-- The contents of integers and booleans.
use Rattle.std.specs.Prelude.{◌≡◌, ℕ, zero, suc, ◌-◌, ◌/◌, ◌%◌, ◌^◌, ◌<◌, ◌≤◌, List, [], ◌∷◌, ◌++◌, length, map, ℤ, pos, negsuc, Bool, true, false, ◌≢◌, nat_lt, if◌then◌else◌}
use Rattle.ldap_ber.specs.Number.{number}

-- No octet in front could be left out: the first nine bits are not all equal (X.690 8.3.2).
abbrev pub IsMinimal : List ℕ → Type 0
IsMinimal [] = ⊥
IsMinimal (a ∷ []) = Unit {0}
IsMinimal (a ∷ b ∷ bs) = ¬ ((a ≡ 0) × (b < 128)) × ¬ ((a ≡ 255) × (128 ≤ b))

-- Two's complement (X.690 8.3.3): where the first bit is set, the bits are turned.
abbrev pub IsValue : List ℕ → ℤ → Type 0
IsValue [] z = ⊥
IsValue (a ∷ bs) (pos n) = (a < 128) × (n ≡ number (a ∷ bs))
IsValue (a ∷ bs) (negsuc n) = (128 ≤ a) × (n ≡ number (map (λ b. 255 - b) (a ∷ bs)))

-- The content of an integer of at most eight octets, in its shortest form.
pub record IsInteger (octets : List ℕ) (value : ℤ) : Type 0 where
  pub at_most_eight : length octets ≤ 8
  pub minimal : IsMinimal octets
  pub is_value : IsValue octets value

-- One octet, and every one but zero is true (X.690 8.2.2).
abbrev pub IsBoolean : List ℕ → Bool → Type 0
IsBoolean (b ∷ []) true = b ≢ 0
IsBoolean (b ∷ []) false = b ≡ 0
IsBoolean [] v = ⊥
IsBoolean (b ∷ c ∷ bs) v = ⊥

-- The last so many octets of a number, the most significant first.
abbrev pub digits : ℕ → ℕ → List ℕ
digits zero n = []
digits (suc k) n = digits k (n / 256) ++ n % 256 ∷ []

-- How many octets a two's complement takes whose bits after the sign are those of n (X.690 8.3.2): with one bit for the
-- sign.
abbrev pub width : ℕ → ℕ
width n =
    if nat_lt n (2 ^ 7) then 1
    else (if nat_lt n (2 ^ 15) then 2
    else (if nat_lt n (2 ^ 23) then 3
    else (if nat_lt n (2 ^ 31) then 4
    else (if nat_lt n (2 ^ 39) then 5
    else (if nat_lt n (2 ^ 47) then 6
    else (if nat_lt n (2 ^ 55) then 7 else 8))))))

-- Octets as they stand, or each of their bits turned where the integer is below zero.
abbrev pub signed : Bool → List ℕ → List ℕ
signed false octets = octets
signed true octets = map (λ b. 255 - b) octets

-- whether an integer is below zero
abbrev pub is_below : ℤ → Bool
is_below (pos n) = false
is_below (negsuc n) = true

-- the bits after the sign, turned where the integer is below zero
abbrev pub bits_of : ℤ → ℕ
bits_of (pos n) = n
bits_of (negsuc n) = n

-- The one content of an integer of 64 bits, in the shortest two's complement (X.690 8.3).
abbrev pub integer_octets : ℤ → List ℕ
integer_octets z = signed (is_below z) (digits (width (bits_of z)) (bits_of z))

-- an integer of 64 bits
abbrev pub IsLong : ℤ → Type 0
IsLong z = bits_of z < 2 ^ 63
