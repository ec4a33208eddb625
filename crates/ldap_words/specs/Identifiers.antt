-- Object identifiers in dotted form: RFC 4512 1.4.
use Rattle.std.specs.Prelude.{ℕ, List, Bool, ◌&&◌, nat_eq}
use Rattle.std.specs.List.{list_all, list_any, slice_split}
use Rattle.ldap_words.specs.Numbers.{is_number}

-- whether octets have a dot
abbrev pub has_dot : List ℕ → Bool
has_dot v = list_any (λ c. nat_eq c 46) v

-- the parts between dots are numbers
abbrev pub are_numbers : List ℕ → Bool
are_numbers v = list_all is_number (slice_split (λ c. nat_eq c 46) v)

-- numbers with dots between them, at least one dot (RFC 4512 1.4, numericoid)
abbrev pub is_numericoid : List ℕ → Bool
is_numericoid v = has_dot v && are_numbers v
