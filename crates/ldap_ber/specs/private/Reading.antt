-- What contracts that aren't public say of it. What public contracts say is in specs/Reading.
use Rattle.std.specs.Prelude.{◌≡◌, ℕ, ◌-◌, ◌%◌, List, [], ◌∷◌, length, take, drop, Result, Ok, Err, nat_lt, ◌==◌, if◌then◌else◌}
use Rattle.ldap_ber.specs.declared.fault.BerFault.{BerFault}
use Rattle.ldap_ber.specs.declared.fault.BerFault.TheVariants.{HighTag, Short, Indefinite, LengthTooLong}
use Rattle.ldap_ber.specs.Number.{number}

-- the length, and the octets after it
abbrev pub length_at : List ℕ → Result (ℕ × List ℕ) BerFault
length_at [] = Err Short
length_at (a ∷ bs) =
    if nat_lt a 128 then Ok (a, bs)
    else (if a == 128 then Err Indefinite
    else (if nat_lt 132 a then Err LengthTooLong
    else (if nat_lt (length bs) (a - 128) then Err Short
    else Ok (number (take (a - 128) bs), drop (a - 128) bs))))

-- the content, which a length says, and the octets after it
abbrev pub content_at : ℕ → List ℕ → Result (List ℕ × List ℕ) BerFault
content_at n bs = if nat_lt (length bs) n then Err Short else Ok (take n bs, drop n bs)

-- the content behind a length that was read
abbrev pub body_at : Result (ℕ × List ℕ) BerFault → Result (List ℕ × List ℕ) BerFault
body_at (Ok x) = content_at x.0 x.1
body_at (Err f) = Err f

-- the first octet, the content and the octets after it
abbrev pub with_first : ℕ → Result (List ℕ × List ℕ) BerFault → Result (ℕ × List ℕ × List ℕ) BerFault
with_first a (Ok x) = Ok (a, x.0, x.1)
with_first a (Err f) = Err f

-- The element at the front, and the octets after it, read from the left.
abbrev pub element_at : List ℕ → Result (ℕ × List ℕ × List ℕ) BerFault
element_at [] = Err Short
element_at (a ∷ bs) = if a % 32 == 31 then Err HighTag else with_first a (body_at (length_at bs))

-- What a function answers, seen by view, is what reading gives.
abbrev pub Gives : {X Y : Type 0} → (X → Y) → Result X BerFault → Result Y BerFault → Type 0
Gives view (Ok x) read = read ≡ Ok (view x)
Gives view (Err f) read = read ≡ Err f
