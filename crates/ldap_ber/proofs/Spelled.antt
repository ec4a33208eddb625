-- What is written for a field is in the grammar, whatever follows.
use Rattle.std.proofs.Common.{◌≡◌, ◌^◌, ◌%◌, ◌<◌, ℕ, Bool, true, false, Option, Some, None, List, [], ◌∷◌, ◌++◌, length, refl, sym, subst, ◌∙◌, append_assoc, inl, inr, arith}
use Rattle.std.specs.Prelude.{ℤ, pos}
use Rattle.std.specs.Str.{IsUtf8}
use Rattle.std.specs.List.{AllByRecursion}
use Rattle.std.proofs.lemmas.List.{length-append}
use Rattle.ldap_ber.specs.Element.{element_bytes, length_octets}
use Rattle.ldap_ber.specs.Values.{IsLong, integer_octets}
use Rattle.ldap_ber.proofs.Written.{written as element_written}
use Rattle.ldap_ber.proofs.Digits.{is_content}
use Rattle.ldap_ber.specs.Fields.{HasField, HasText, HasNumber, HasInteger, HasFlag, HasPart, BeginsOtherwise, HasFlagOrFalse, HasTextOrNone, HasOctetsOrNone}
use Rattle.ldap_ber.specs.Rows.{AreRow, AreTexts, AreValues, HasRowOrNone, row_bytes}
use Rattle.ldap_ber.proofs.Same.{text_part, value_part}
use Rattle.ldap_ber.specs.Written.{number_bytes, flag_octets, flag_or_false_bytes, optional_bytes, row_or_none_bytes, IsTextOrNone}

-- a content that is short enough to be written
abbrev pub IsShort : List ℕ → Type 0
IsShort content = length content < 4294967296

pub field : (first : ℕ) (content rest : List ℕ) → first % 32 < 31 → IsShort content →
    HasField (element_bytes first content ++ rest) first content rest
field first content rest low small = record {
  spelling = element_bytes first content;
  is_element = element_written
      first content low small;
  parts = refl;
}

-- the content of an element that fits
pub inner : (first : ℕ) (content : List ℕ) → IsShort (element_bytes first content) → IsShort content
inner first content small = omega (arith, length-append (length_octets (length content)) content)

pub left : (a b : List ℕ) → IsShort (a ++ b) → IsShort a
left a b small = omega (arith, length-append a b)

pub right : (a b : List ℕ) → IsShort (a ++ b) → IsShort b
right a b small = omega (arith, length-append a b)

pub tagged_text : (first : ℕ) (t rest : List ℕ) → first % 32 < 31 → IsUtf8 t → IsShort t →
    HasText (element_bytes first t ++ rest) first t rest
tagged_text first t rest low utf8 small = record { field = field first t rest low small; text = utf8 }

pub text : (t rest : List ℕ) → IsUtf8 t → IsShort t → HasText (element_bytes 4 t ++ rest) 4 t rest
text t rest utf8 small = record { field = field 4 t rest (omega arith) small; text = utf8 }

pub number : (first limit n : ℕ) (rest : List ℕ) → first % 32 < 31 → n < limit → n < 2 ^ 63 →
    HasNumber (number_bytes first n ++ rest) first limit n rest
number first limit n rest low small fits =
    let is = is_content (pos n) fits in
    record {
      content = integer_octets (pos n);
      field = field first (integer_octets (pos n)) rest low
          (omega (arith, is.at_most_eight));
      number = is;
      small = small;
    }

pub integer : (first : ℕ) (z : ℤ) (rest : List ℕ) → first % 32 < 31 → IsLong z →
    HasInteger (element_bytes first (integer_octets z) ++ rest) first z rest
integer first z rest low fits =
    let is = is_content z fits in
    record {
      content = integer_octets z;
      field = field first (integer_octets z) rest low
          (omega (arith, is.at_most_eight));
      number = is;
    }

pub small_number : (n : ℕ) → n < 2 ^ 31 → n < 2 ^ 63
small_number n lt = omega arith

pub flag : (b : Bool) (rest : List ℕ) → HasFlag (element_bytes 1 (flag_octets b) ++ rest) 1 b rest
flag true rest = record {
  content = 255 ∷ [];
  field = field 1 (255 ∷ []) rest (omega arith) (omega arith);
  flag = λ e.
      omega arith;
}
flag false rest = record { content = 0 ∷ []; field = field 1 (0 ∷ []) rest (omega arith) (omega arith); flag = refl }

pub part : (In : List ℕ → Type 0) (first : ℕ) (content rest : List ℕ) → first % 32 < 31 → IsShort content →
    In content → HasPart In (element_bytes first content ++ rest) first rest
part In first content rest low small inside = record {
  content = content;
  field = field first content rest low small;
  inside = inside;
}

pub rows : {V : Type 0} (P : V → List ℕ → List ℕ → Type 0) (bytes : V → List ℕ) (Ok : V → Type 0) →
    ((v : V) (rest : List ℕ) → Ok v → IsShort (bytes v) → P v (bytes v ++ rest) rest)
    → (vs : List V) → AllByRecursion Ok vs → IsShort (row_bytes bytes vs) → AreRow P vs (row_bytes bytes vs)
rows P bytes Ok each [] h small = refl
rows P bytes Ok each (v ∷ vs) h small = record {
  rest = row_bytes bytes vs;
  first = each v (row_bytes bytes vs) h.0 (left (bytes v) (row_bytes bytes vs) small);
  next = rows P bytes Ok each vs h.1 (right (bytes v) (row_bytes bytes vs) small);
}

pub texts : (ts : List (List ℕ)) → AllByRecursion IsUtf8 ts → IsShort (row_bytes (element_bytes 4) ts) →
    AreTexts ts (row_bytes (element_bytes 4) ts)
texts = rows text_part (element_bytes 4) IsUtf8 (λ t rest utf8 small. text t rest utf8 (inner 4 t small))

pub any_values : (vs : List (List ℕ)) → AllByRecursion (λ v. Unit {0}) vs
any_values [] = tt
any_values (v ∷ vs) = (tt, any_values vs)

pub values : (vs : List (List ℕ)) → IsShort (row_bytes (element_bytes 4) vs) →
    AreValues vs (row_bytes (element_bytes 4) vs)
values vs small = rows value_part (element_bytes 4) (λ v. Unit {0}) (λ v rest h small. field 4 v rest (omega arith)
    (inner 4 v small)) vs (any_values vs) small

-- Octets that end a sequence here: none, or an optional part that is not of this first octet.
pub ended : (octets : List ℕ) (first : ℕ) → octets ≡ [] → BeginsOtherwise octets first
ended octets first e = subst (λ (o : List ℕ). BeginsOtherwise o first) (sym e) tt

pub optional_otherwise : (first other : ℕ) (v : Option (List ℕ)) (rest : List ℕ) → (first ≡ other → ⊥) →
    BeginsOtherwise rest other → BeginsOtherwise (optional_bytes first v ++ rest) other
optional_otherwise first other None rest ne h = h
optional_otherwise first other (Some v) rest ne h = ne

pub row_or_none : {V : Type 0} (P : V → List ℕ → List ℕ → Type 0) (bytes : V → List ℕ) (Ok : V → Type 0) →
    ((v : V) (rest : List ℕ) → Ok v → IsShort (bytes v) → P v (bytes v ++ rest) rest)
    → (first : ℕ) (vs : List V) (rest : List ℕ) → first % 32 < 31 → AllByRecursion Ok vs →
    IsShort (row_or_none_bytes bytes first vs) → BeginsOtherwise rest first →
    HasRowOrNone P (row_or_none_bytes bytes first vs ++ rest) first vs rest
row_or_none P bytes Ok each first [] rest low h small otherwise = inr (refl, refl, otherwise)
row_or_none P bytes Ok each first (v ∷ vs) rest low h small otherwise =
    let short = inner first (row_bytes bytes (v ∷ vs)) small in
    inl (part (AreRow P (v ∷ vs)) first (row_bytes bytes (v ∷ vs)) rest low short (rows P bytes Ok each (v ∷ vs) h
    short))

pub text_or_none : (first : ℕ) (t : Option (List ℕ)) (rest : List ℕ) → first % 32 < 31 → IsTextOrNone t →
    IsShort (optional_bytes first t) → BeginsOtherwise rest first → HasTextOrNone (optional_bytes first t ++ rest)
    first t rest
text_or_none first None rest low utf8 small otherwise = (refl, otherwise)
text_or_none first (Some t) rest low utf8 small otherwise =
    record { field = field first t rest low (inner first t small); text = utf8 }

pub octets_or_none : (first : ℕ) (v : Option (List ℕ)) (rest : List ℕ) → first % 32 < 31 →
    IsShort (optional_bytes first v) → BeginsOtherwise rest first → HasOctetsOrNone (optional_bytes first v ++ rest)
    first v rest
octets_or_none first None rest low small otherwise = (refl, otherwise)
octets_or_none first (Some v) rest low small otherwise = field first v rest low (inner first v small)

pub flag_or_false : (first : ℕ) (b : Bool) (rest : List ℕ) → first % 32 < 31 → BeginsOtherwise rest first →
    HasFlagOrFalse (flag_or_false_bytes first b ++ rest) first b rest
flag_or_false first true rest low otherwise =
    inl (record { content = 255 ∷ []; field = field first (255 ∷ []) rest low (omega arith); flag = λ e. omega arith })
flag_or_false first false rest low otherwise = inr (refl, refl, otherwise)

-- four pieces, one after the other
pub regroup : (a b d e rest : List ℕ) → (a ++ b ++ d ++ e) ++ rest ≡ a ++ (b ++ (d ++ (e ++ rest)))
regroup a b d e rest = append_assoc (a ++ b ++ d) e rest ∙ append_assoc (a ++ b) d (e ++ rest)
    ∙ append_assoc a b (d ++ (e ++ rest))

pub flag_otherwise : (first other : ℕ) (b : Bool) (rest : List ℕ) → (first ≡ other → ⊥) → BeginsOtherwise rest other →
    BeginsOtherwise (flag_or_false_bytes first b ++ rest) other
flag_otherwise first other true rest ne h = ne
flag_otherwise first other false rest ne h = h

-- three pieces, one after the other
pub regroup_three : (a b d rest : List ℕ) → (a ++ b ++ d) ++ rest ≡ a ++ (b ++ (d ++ rest))
regroup_three a b d rest = append_assoc (a ++ b) d rest ∙ append_assoc a b (d ++ rest)
