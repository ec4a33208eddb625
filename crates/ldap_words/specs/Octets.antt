-- Lists of octets, and texts in UTF-8 (RFC 3629).
use Rattle.std.specs.Prelude.{ℕ, List, [], ◌∷◌, Bool, true, false, nat_eq, nat_lt, encode_utf8_all, Option, None, Some}
use Rattle.std.specs.List.{list_all}

-- octets are below 256
abbrev pub are_octets : List ℕ → Bool
are_octets v = list_all (λ c. nat_lt c 256) v

-- there are none
abbrev pub is_empty : List ℕ → Bool
is_empty [] = true
is_empty (c ∷ cs) = false

-- this one is the first
abbrev pub begins_with : ℕ → List ℕ → Bool
begins_with k [] = false
begins_with k (c ∷ cs) = nat_eq c k

-- the UTF-8 of a text, where there is one
abbrev pub utf8_of : Option (List ℕ) → Option (List ℕ)
utf8_of None = None
utf8_of (Some t) = Some (encode_utf8_all t)
