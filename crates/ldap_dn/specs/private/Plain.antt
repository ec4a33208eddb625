-- Octets of a value that are printed as they are.
use Rattle.std.specs.Prelude.{ℕ, Bool, ◌&&◌, not, nat_eq, nat_lt}
use Rattle.ldap_dn.specs.Printed.{is_special}

-- a character of ASCII other than NUL that is escaped at the ends of a value at most (RFC 4514 2.4)
abbrev pub is_plain : ℕ → Bool
is_plain c = nat_lt 0 c && nat_lt c 128 && not (is_special c)

-- whether the first octet isn't escaped as the first, nor the last as the last
abbrev pub are_plain_ends : ℕ → ℕ → Bool
are_plain_ends first last = not (nat_eq first 32) && not (nat_eq first 35) && not (nat_eq last 32)
