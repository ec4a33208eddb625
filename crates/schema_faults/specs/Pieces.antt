-- A description between its outer parentheses (RFC 4512 1.4): octets come in, the parts between its spaces go out, and
-- the first octet that has no place in it.
use Rattle.std.specs.Prelude.{◌++◌, ◌||◌, ◌&&◌, ℕ, ◌+◌, List, [], ◌∷◌, Bool, true, false, not, nat_eq, cond, unwrap_or, Option, None, Some}
use Rattle.schema_faults.specs.declared.pieces.Scan.{Scan}
use Rattle.schema_faults.specs.declared.pieces.Scan.TheVariants as scan
use Rattle.schema_faults.specs.declared.pieces.Stop.{Stop}

-- behind an octet outside quotes, in a list or not: no list is in another, and no ')' is outside lists
abbrev pub bare_step : Bool → ℕ → Option Scan
bare_step in_list octet =
    cond (nat_eq octet 40) (cond in_list None (Some (scan.Bare true)))
    (cond (nat_eq octet 41) (cond in_list (Some (scan.Bare false)) None)
    (cond (nat_eq octet 39) (Some (scan.Quoted in_list)) (Some (scan.Bare in_list))))

-- behind an octet in quotes
abbrev pub quoted_step : Bool → ℕ → Option Scan
quoted_step in_list octet =
    cond (nat_eq octet 39) (Some (scan.Bare in_list))
    (cond (nat_eq octet 92) (Some (scan.Escape in_list)) (Some (scan.Quoted in_list)))

-- behind an octet that follows a backslash: `\27` is a quote and `\5C` a backslash (RFC 4512 1.4, dstring)
abbrev pub escape_step : Bool → ℕ → Option Scan
escape_step in_list octet = cond (nat_eq octet 50 || nat_eq octet 53) (Some (scan.Half in_list octet)) None

-- behind the second digit
abbrev pub half_step : Bool → ℕ → ℕ → Option Scan
half_step in_list first octet =
    cond ((nat_eq first 50 && nat_eq octet 55) || (nat_eq first 53 && (nat_eq octet 67 || nat_eq octet 99)))
    (Some (scan.Quoted in_list)) None

-- behind a further octet; none, where it may not come
abbrev pub step : Scan → ℕ → Option Scan
step (scan.Bare in_list) octet = bare_step in_list octet
step (scan.Quoted in_list) octet = quoted_step in_list octet
step (scan.Escape in_list) octet = escape_step in_list octet
step (scan.Half in_list first) octet = half_step in_list first octet

-- a reader stops at an octet that may not come, else it goes on
abbrev pub stop_at : Scan → ℕ → Option Scan → (Scan → Stop) → Stop
stop_at s index None rest = record { index = Some index; scan = s }
stop_at s index (Some next) rest = rest next

-- where a reader of octets stops, the first of which has this index
abbrev pub stop_from : Scan → ℕ → List ℕ → Stop
stop_from s index [] = record { index = None; scan = s }
stop_from s index (octet ∷ octets) = stop_at s index (step s octet) (λ next. stop_from next (index + 1) octets)

-- where a reader of all octets stops
abbrev pub stop_in : List ℕ → Stop
stop_in octets = stop_from (scan.Bare false) 0 octets

-- outside lists and quotes
abbrev pub is_outside : Scan → Bool
is_outside (scan.Bare in_list) = not in_list
is_outside (scan.Quoted in_list) = false
is_outside (scan.Escape in_list) = false
is_outside (scan.Half in_list first) = false

-- behind a further octet, or where it was before one that may not come
abbrev pub next_of : Scan → ℕ → Scan
next_of s octet = unwrap_or (step s octet) s

-- an octet that ends a piece: a space outside lists and quotes
abbrev pub is_break : Scan → ℕ → Bool
is_break s octet = is_outside s && nat_eq octet 32

-- a piece has an octet at least
abbrev pub piece_of : List ℕ → List (List ℕ)
piece_of [] = []
piece_of (octet ∷ octets) = (octet ∷ octets) ∷ []

-- the pieces of a front that was read, and of the octets behind it
abbrev pub pieces_from : Scan → List ℕ → List ℕ → List (List ℕ)
pieces_from s front [] = piece_of front
pieces_from s front (octet ∷ octets) =
    cond (is_break s octet) (piece_of front ++ pieces_from (next_of s octet) [] octets)
    (pieces_from (next_of s octet) (front ++ octet ∷ []) octets)

-- The parts between spaces that are outside lists and quotes.
abbrev pub pieces_of : List ℕ → List (List ℕ)
pieces_of octets = pieces_from (scan.Bare false) [] octets
