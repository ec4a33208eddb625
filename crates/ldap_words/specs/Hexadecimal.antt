-- Octets in hexadecimal digits: RFC 4512 1.4, HEX.
use Rattle.std.specs.Prelude.{ℕ, ◌+◌, ◌-◌, ◌*◌, cond, ◌&&◌, nat_le, Option, None, Some, option_map}

-- the value of a hexadecimal digit in either case (RFC 4512 1.4, HEX)
abbrev pub hex_digit : ℕ → Option ℕ
hex_digit c =
    cond (nat_le 48 c && nat_le c 57) (Some (c - 48))
    (cond (nat_le 65 c && nat_le c 70) (Some (c - 55))
    (cond (nat_le 97 c && nat_le c 102) (Some (c - 87)) None))

-- the octet of two digits; none, where one of them is no digit
abbrev pub with_high : Option ℕ → Option ℕ → Option ℕ
with_high None low = None
with_high (Some h) low = option_map (λ l. h * 16 + l) low

-- the octet that two hexadecimal digits spell
abbrev pub hex_octet : ℕ → ℕ → Option ℕ
hex_octet h l = with_high (hex_digit h) (hex_digit l)
