-- Times as they are written: RFC 4517 3.3.13, of which this project takes one form.
use Rattle.std.specs.Prelude.{ℕ, ◌+◌, ◌*◌, ◌-◌, List, [], ◌∷◌, Bool, false, ◌&&◌, nat_eq, nat_le}
use Rattle.ldap_words.specs.Numbers.{is_digit}

-- two digits that write a number from low to high
abbrev pub is_field : ℕ → ℕ → ℕ → ℕ → Bool
is_field low high a b = is_digit a && is_digit b && nat_le low ((a - 48) * 10 + (b - 48))
    && nat_le ((a - 48) * 10 + (b - 48)) high

-- four digits
abbrev pub is_year : ℕ → ℕ → ℕ → ℕ → Bool
is_year a b x y = is_digit a && is_digit b && is_digit x && is_digit y

-- a month 01 to 12 and a day 01 to 31
abbrev pub is_day : ℕ → ℕ → ℕ → ℕ → Bool
is_day m₁ m₂ d₁ d₂ = is_field 1 12 m₁ m₂ && is_field 1 31 d₁ d₂

-- an hour 00 to 23, a minute 00 to 59 and a second 00 to 60
abbrev pub is_clock : ℕ → ℕ → ℕ → ℕ → ℕ → ℕ → Bool
is_clock h₁ h₂ i₁ i₂ s₁ s₂ = is_field 0 23 h₁ h₂ && is_field 0 59 i₁ i₂ && is_field 0 60 s₁ s₂

-- `YYYYMMDDHHMMSSZ`: a year, a month, a day, an hour, a minute and a second in Greenwich (RFC 4517 3.3.13)
abbrev pub is_time : List ℕ → Bool
is_time (y₁ ∷ y₂ ∷ y₃ ∷ y₄ ∷ m₁ ∷ m₂ ∷ d₁ ∷ d₂ ∷ h₁ ∷ h₂ ∷ i₁ ∷ i₂ ∷ s₁ ∷ s₂ ∷ z ∷ []) =
    is_year y₁ y₂ y₃ y₄ && is_day m₁ m₂ d₁ d₂ && is_clock h₁ h₂ i₁ i₂ s₁ s₂ && nat_eq z 90
is_time v = false
