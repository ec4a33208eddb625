-- Whether parts stand in a text: RFC 4517 4.2.6 and its kin, as a test.
use Rattle.std.specs.Prelude.{ℕ, ◌-◌, List, [], ◌∷◌, Bool, true, ◌&&◌, Option, length, take, drop}
use Rattle.std.specs.List.{list_any}
use Rattle.std.specs.Str.{bytes_eq}
use Rattle.ldap_dn.specs.ldap_syntax.Parts.{part_or_nothing}

-- the parts of a substrings item: octets, prepared texts, or keys
pub record PartsModel : Type 0 where
  pub initial : Option (List ℕ)
  pub any : List (List ℕ)
  pub last : Option (List ℕ)

-- the part stands at the start of the text
abbrev pub is_at_start : List ℕ → List ℕ → Bool
is_at_start p whole = bytes_eq (take (length p) whole) p

-- the part stands at the end of the text
abbrev pub is_at_end : List ℕ → List ℕ → Bool
is_at_end p whole = bytes_eq (drop (length whole - length p) whole) p

-- the text, and what is left of it behind each of its characters
abbrev pub tails : List ℕ → List (List ℕ)
tails [] = [] ∷ []
tails (x ∷ xs) = (x ∷ xs) ∷ tails xs

-- the parts stand in the text in order, each behind the one before
abbrev pub are_in_order : List (List ℕ) → List ℕ → Bool
are_in_order [] whole = true
are_in_order (p ∷ ps) whole = list_any (λ rest. is_at_start p rest && are_in_order ps (drop (length p) rest))
    (tails whole)

-- The initial part stands at the start, the last part at the end of what follows, and the others between them in order,
-- none over another.
abbrev pub has_parts : PartsModel → List ℕ → Bool
has_parts p whole =
    let rest = drop (length (part_or_nothing p.initial)) whole in
    let last = part_or_nothing p.last in
    is_at_start (part_or_nothing p.initial) whole
    && (is_at_end last rest && are_in_order p.any (take (length rest - length last) rest))
