-- The octets of one note of a log's journal: its kind, five numbers, what follows them, and a sum of all that, which
-- tells damage.
use Rattle.std.specs.Prelude.{◌≡◌, ◌<◌, ◌^◌, ℕ, ◌-◌, nat_le, List, ◌∷◌, ◌++◌, length, take, drop, ◌&&◌, Bool, cond, Option, Some, None, slice_index}
use Rattle.std.specs.Str.{bytes_eq}
use Rattle.std.specs.Int.{w64, to_be_bytes, from_be_bytes}
use Rattle.sha2.specs.Sha256.{sha256}

-- a note's kind, its five numbers, and what follows them
pub record Fields : Type 0 where
  pub kind : ℕ
  pub first : ℕ
  pub second : ℕ
  pub third : ℕ
  pub fourth : ℕ
  pub fifth : ℕ
  pub rest : List ℕ

-- a number in eight octets, the most significant first
unfoldable pub numeral : ℕ → List ℕ
numeral n = to_be_bytes w64 n

-- the five numbers
abbrev pub number_octets : Fields → List ℕ
number_octets f = numeral f.first ++ (numeral f.second ++ (numeral f.third ++ (numeral f.fourth ++ numeral f.fifth)))

-- the octets in front of the sum
abbrev pub body_of : Fields → List ℕ
body_of f = f.kind ∷ (number_octets f ++ f.rest)

-- the sum of octets: the number in the first eight of their SHA-256
unfoldable pub sum_of : List ℕ → ℕ
sum_of octets = from_be_bytes w64 (take 8 (sha256 octets))

-- the string of a note
abbrev pub string_of : Fields → List ℕ
string_of f = body_of f ++ numeral (sum_of (body_of f))

-- the number in eight octets from a place on
abbrev pub number_at : ℕ → List ℕ → ℕ
number_at at octets = from_be_bytes w64 (take 8 (drop at octets))

-- the fields of the octets in front of a sum
abbrev pub fields_of : List ℕ → Fields
fields_of body = record {
  kind = slice_index body 0;
  first = number_at 1 body;
  second = number_at 9 body;
  third = number_at 17 body;
  fourth = number_at 25 body;
  fifth = number_at 33 body;
  rest = drop 41 body;
}

-- the octets in front of the sum of a string
abbrev pub front_of : List ℕ → List ℕ
front_of string = take (length string - 8) string

-- A string has its fields in full, and its sum is that of the octets in front.
abbrev pub is_summed : List ℕ → Bool
is_summed string = nat_le 49 (length string) && bytes_eq (drop (length string - 8) string)
    (numeral (sum_of (front_of string)))

-- the fields of a string; none where its sum doesn't fit
abbrev pub fields_at : List ℕ → Option Fields
fields_at string = cond (is_summed string) (Some (fields_of (front_of string))) None

-- numbers of 64 bits, and a kind of eight
pub record AreInRange (f : Fields) : Type 0 where
  pub kind : f.kind < 2 ^ 8
  pub first : f.first < 2 ^ 64
  pub second : f.second < 2 ^ 64
  pub third : f.third < 2 ^ 64
  pub fourth : f.fourth < 2 ^ 64
  pub fifth : f.fifth < 2 ^ 64

-- The string of fields is read as these fields.
abbrev pub FieldsAreRead : Type 0
FieldsAreRead = (f : Fields) → AreInRange f → fields_at (string_of f) ≡ Some f
