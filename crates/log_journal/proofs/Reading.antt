-- The string of fields is read as these fields.
use Rattle.std.proofs.Common.{◌≡◌, ◌+◌, ◌-◌, ℕ, Bool, true, cond, ◌&&◌, List, length, drop, Some, None, refl, ap, ap₂, ◌∙◌, arith, le-leb, length-append}
use Rattle.std.specs.Int.{w64, to_be_bytes, from_be_bytes}
use Rattle.std.specs.Str.{bytes_eq}
use Rattle.std.proofs.lemmas.List.{take_at, drop_at}
use Rattle.std.proofs.lemmas.Slice.Eq.{bytes_eq-Decides}
use Rattle.std.proofs.lemmas.Nat.{from_be_bytes-to_be_bytes_8}
use Rattle.log_journal.specs.Fields.{Fields, numeral, body_of, sum_of, string_of, fields_of, front_of, is_summed, fields_at, AreInRange, FieldsAreRead}

module _ (f : Fields) (range : AreInRange f) where
  abbrev sum : List ℕ
  sum = numeral (sum_of (body_of f))

  long : length (string_of f) ≡ length (body_of f) + 8
  unfolding numeral
  long = length-append (body_of f) sum

  front_is : front_of (string_of f) ≡ body_of f
  front_is = take_at (body_of f) sum (length (string_of f) - 8) (omega (arith, long))

  behind_is : drop (length (string_of f) - 8) (string_of f) ≡ sum
  behind_is = drop_at (body_of f) sum (length (string_of f) - 8) (omega (arith, long))

  numbers_are : fields_of (body_of f) ≡ record {
    kind = f.kind;
    first = from_be_bytes w64 (to_be_bytes w64 f.first);
    second = from_be_bytes w64 (to_be_bytes w64 f.second);
    third = from_be_bytes w64 (to_be_bytes w64 f.third);
    fourth = from_be_bytes w64 (to_be_bytes w64 f.fourth);
    fifth = from_be_bytes w64 (to_be_bytes w64 f.fifth);
    rest = f.rest;
  }
  unfolding numeral
  numbers_are = refl

  fields_are : fields_of (body_of f) ≡ f
  fields_are = numbers_are ∙ (λ i. record {
    kind = f.kind;
    first = from_be_bytes-to_be_bytes_8 f.first range.first i;
    second = from_be_bytes-to_be_bytes_8 f.second range.second i;
    third = from_be_bytes-to_be_bytes_8 f.third range.third i;
    fourth = from_be_bytes-to_be_bytes_8 f.fourth range.fourth i;
    fifth = from_be_bytes-to_be_bytes_8 f.fifth range.fifth i;
    rest = f.rest;
  })

  whole : length (body_of f) ≡ 41 + length f.rest
  unfolding numeral
  whole = omega arith

  summed : is_summed (string_of f) ≡ true
  summed = ap₂ (λ (b : Bool) (c : Bool). b && c) (le-leb 49 (length (string_of f)) (omega (arith, long, whole)))
      (ap₂ (λ (x y : List ℕ). bytes_eq x (numeral (sum_of y))) behind_is front_is ∙ same sum)
    where
      same : (xs : List ℕ) → bytes_eq xs xs ≡ true
      same xs = (bytes_eq-Decides xs xs).1 refl

  -- its string is read so
  pub read_back : fields_at (string_of f) ≡ Some f
  read_back = ap (λ (b : Bool). cond b (Some (fields_of (front_of (string_of f)))) None) summed
      ∙ ap (λ (x : List ℕ). Some (fields_of x)) front_is ∙ ap (λ (x : Fields). Some x) fields_are

-- The law.
pub fields_read : FieldsAreRead
fields_read f range = read_back f range

-- how long the string of a note is
pub string_length : (f : Fields) → length (string_of f) ≡ 49 + length f.rest
unfolding numeral
string_length f = omega (arith, length-append (body_of f) (numeral (sum_of (body_of f))))
