-- A character that is printed, and the tokens that it is read as.
use Rattle.std.proofs.Common.{ℕ, ◌<◌, ◌≤◌, suc, List, [], ◌∷◌, Bool, true, false, cond, not, ◌&&◌, ◌||◌, nat_eq, ◌≡◌, refl, sym, ap, ◌∙◌, subst, map, length, get_or, append-nil, inl, inr, arith}
use Rattle.std.proofs.lemmas.Bool.{eqb-true, cases_lt}
use Rattle.std.proofs.lemmas.Bool.Decides.{nat_tests}
use Rattle.std.proofs.lemmas.Str.{encode_ascii, inside_one, length-encode}
use Rattle.std.specs.List.{AllByRecursion}
use Rattle.std.specs.Char.{encode_utf8, len_utf8}
use Rattle.ldap_dn.specs.Tokens.{is_escapable, octet_of, is_plain}
use Rattle.ldap_dn.specs.Grammar.{IsSpelled, nothing, as_it_stands, by_itself, by_digits}
use Rattle.ldap_dn.specs.Printed.{is_special, is_escaped, printed_character}
use Rattle.ldap_dn.specs.Texts.{is_value_octet}
use Rattle.ldap_dn.specs.declared.token.Token.{Token}
use Rattle.ldap_dn.specs.declared.token.Token.TheVariants.{Plain, Escaped}

-- ---- tests

pub not_left : (a b : Bool) → (a || b) ≡ false → a ≡ false
not_left true b h = cc
not_left false b h = refl

pub not_right : (a b : Bool) → (a || b) ≡ false → b ≡ false
not_right true b h = cc
not_right false b h = h

pub not_both : (a b : Bool) → a ≡ true → (a && b) ≡ false → b ≡ false
not_both true b e h = h
not_both false b e h = cc

apart : (b k : ℕ) → 128 ≤ b → k < 128 → nat_eq b k ≡ false
apart b k h l = grind (arith, nat_tests)

-- ---- octets that stand for themselves

-- an octet that is not escaped where it stands as the first one, the last one, or neither
pub record IsFree (first last : Bool) (b : ℕ) : Type 0 where
  pub special : is_special b ≡ false
  pub zero : nat_eq b 0 ≡ false
  pub space_first : first ≡ true → nat_eq b 32 ≡ false
  pub hash_first : first ≡ true → nat_eq b 35 ≡ false
  pub space_last : last ≡ true → nat_eq b 32 ≡ false

high_is_free : (first last : Bool) (b : ℕ) → 128 ≤ b → IsFree first last b
high_is_free first last b h = record {
  special = rw (
    apart b 34 h (omega arith),
    apart b 43 h (omega arith),
    apart b 44 h (omega
        arith),
    apart b 59 h (omega arith),
    apart b 60 h (omega arith),
    apart b 62 h (omega arith),
    apart b 92 h (omega arith),
  ) refl;
  zero = apart b 0 h (omega arith);
  space_first = λ e. apart b 32 h (omega arith);
  hash_first = λ e. apart b 35 h (omega arith);
  space_last = λ e. apart b 32 h (omega arith);
}

unescaped_is_free : (first last : Bool) (c : ℕ) → is_escaped first last c ≡ false → nat_eq c 0 ≡ false →
    IsFree first last c
unescaped_is_free first last c e z =
    let ends = not_left (is_special c || (first && (nat_eq c 32 || nat_eq c 35))) (last && nat_eq c 32) e in
    let firsts = not_right (is_special c) (first && (nat_eq c 32 || nat_eq c 35)) ends in
    record {
      special = not_left (is_special c) (first && (nat_eq c 32 || nat_eq c 35)) ends;
      zero = z;
      space_first = λ f. not_left (nat_eq c 32) (nat_eq c 35) (not_both first (nat_eq c 32 || nat_eq c 35) f firsts);
      hash_first = λ f. not_right (nat_eq c 32) (nat_eq c 35) (not_both first (nat_eq c 32 || nat_eq c 35) f firsts);
      space_last = λ l. not_both last (nat_eq c 32) l
          (not_right (is_special c || (first && (nat_eq c 32 || nat_eq c 35))) (last && nat_eq c 32) e);
    }

from_places : (P : ℕ → Type 0) (xs : List ℕ) → ((k : ℕ) → k < length xs → P (get_or xs k 0)) → AllByRecursion P xs
from_places P [] h = tt
from_places P (x ∷ xs) h = (h 0 (omega arith), from_places P xs (λ k lt. h (suc k) (omega (arith, lt))))

pub octets_are_free : (first last : Bool) (c : ℕ) → IsFree first last c → AllByRecursion (IsFree first last)
    (encode_utf8 c)
octets_are_free first last c f = from_places (IsFree first last) (encode_utf8 c) (λ k lt.
    elim (cases_lt (get_or (encode_utf8 c) k 0) 128) [
      | inl low ↦ subst (IsFree first last) (inside_one c [] (encode_utf8 c) k (sym (append-nil (encode_utf8 c))) lt
          low) f
      | inr high ↦ high_is_free first last (get_or (encode_utf8 c) k 0) high
    ])

-- ---- tokens

-- a token that a value may have, as its first one, its last one, or any
pub record IsGood (first last : Bool) (t : Token) : Type 0 where
  pub allowed : is_value_octet t ≡ true
  pub space_first : first ≡ true → is_plain 32 t ≡ false
  pub hash_first : first ≡ true → is_plain 35 t ≡ false
  pub space_last : last ≡ true → is_plain 32 t ≡ false

escaped_is_good : (first last : Bool) (c : ℕ) → IsGood first last (Escaped c)
escaped_is_good first last c = record {
  allowed = refl;
  space_first = λ e. refl;
  hash_first = λ e. refl;
  space_last =
      λ e. refl;
}

allowed_by : (b : ℕ) (q34 q43 q44 q59 q60 q62 q92 q0 : Bool) → (q34 || q43 || q44 || q59 || q60 || q62 || q92) ≡
    false → q0 ≡ false → not (q34 || q43 || q44 || q59 || q60 || q62 || q0) ≡ true
allowed_by b false false false false false false q92 false h z = refl
allowed_by b q34 q43 q44 q59 q60 q62 q92 true h z = cc
allowed_by b true q43 q44 q59 q60 q62 q92 q0 h z = cc
allowed_by b false true q44 q59 q60 q62 q92 q0 h z = cc
allowed_by b false false true q59 q60 q62 q92 q0 h z = cc
allowed_by b false false false true q60 q62 q92 q0 h z = cc
allowed_by b false false false false true q62 q92 q0 h z = cc
allowed_by b false false false false false true q92 q0 h z = cc

free_is_good : (first last : Bool) (b : ℕ) → IsFree first last b → IsGood first last (Plain b)
free_is_good first last b f = record {
  allowed = allowed_by b (nat_eq b 34) (nat_eq b 43) (nat_eq b 44) (nat_eq b 59) (nat_eq b 60) (nat_eq b 62)
      (nat_eq b 92) (nat_eq b 0) f.special f.zero;
  space_first = f.space_first;
  hash_first = f.hash_first;
  space_last = f.space_last;
}

frees_are_good : (first last : Bool) (bs : List ℕ) → AllByRecursion (IsFree first last) bs →
    AllByRecursion (IsGood first last) (map Plain bs)
frees_are_good first last [] h = tt
frees_are_good first last (b ∷ bs) h = (free_is_good first last b h.0, frees_are_good first last bs h.1)

no_backslash : (b : ℕ) (q34 q43 q44 q59 q60 q62 q92 : Bool) → (q34 || q43 || q44 || q59 || q60 || q62 || q92) ≡
    false → q92 ≡ false
no_backslash b q34 q43 q44 q59 q60 q62 false h = refl
no_backslash b true q43 q44 q59 q60 q62 true h = cc
no_backslash b false true q44 q59 q60 q62 true h = cc
no_backslash b false false true q59 q60 q62 true h = cc
no_backslash b false false false true q60 q62 true h = cc
no_backslash b false false false false true q62 true h = cc
no_backslash b false false false false false true true h = cc
no_backslash b false false false false false false true h = cc

frees_are_spelled : (first last : Bool) (bs : List ℕ) → AllByRecursion (IsFree first last) bs →
    IsSpelled bs (map Plain bs)
frees_are_spelled first last [] h = nothing
frees_are_spelled first last (b ∷ bs) h =
    as_it_stands b (no_backslash b (nat_eq b 34) (nat_eq b 43) (nat_eq b 44) (nat_eq b 59) (nat_eq b 60) (nat_eq b 62)
    (nat_eq b 92) h.0.special) (frees_are_spelled first last bs h.1)

pub plain_octets : (bs : List ℕ) → map octet_of (map Plain bs) ≡ bs
plain_octets [] = refl
plain_octets (b ∷ bs) = ap (λ (x : List ℕ). b ∷ x) (plain_octets bs)

-- ---- one character

-- the tokens of a character
abbrev pub tokens_of_character : Bool → ℕ → List Token
tokens_of_character escaped c = cond (nat_eq c 0) (Escaped 0 ∷ []) (cond escaped (Escaped c ∷ [])
    (map Plain (encode_utf8 c)))

-- what is printed of a character, and what is read of that
pub record IsWell (first last : Bool) (c : ℕ) (printed : List ℕ) (ts : List Token) : Type 0 where
  pub spells : IsSpelled printed ts
  pub octets : map octet_of ts ≡ encode_utf8 c
  pub good : AllByRecursion (IsGood first last) ts
  pub some : 0 < length ts

-- the characters that are escaped are ASCII, and may stand behind a backslash
record IsSmall (c : ℕ) : Type 0 where
  low : c < 128
  escapable : is_escapable c ≡ true

small_at : (c k : ℕ) → nat_eq c k ≡ true → k < 128 → is_escapable k ≡ true → IsSmall c
small_at c k e l h = let s : c ≡ k = eqb-true c k e in record { low = omega arith; escapable = ap is_escapable s ∙ h }

pub either : {P : Type 0} (a b : Bool) → (a || b) ≡ true → (a ≡ true → P) → (b ≡ true → P) → P
either true b h f g = f refl
either false b h f g = g h

pub right_of : (a b : Bool) → (a && b) ≡ true → b ≡ true
right_of true b h = h
right_of false b h = cc

special_is_small : (c : ℕ) → is_special c ≡ true → IsSmall c
special_is_small c h =
    either (nat_eq c 34 || nat_eq c 43 || nat_eq c 44 || nat_eq c 59 || nat_eq c 60 || nat_eq c 62) (nat_eq c 92) h
    (λ h. either (nat_eq c 34 || nat_eq c 43 || nat_eq c 44 || nat_eq c 59 || nat_eq c 60) (nat_eq c 62) h
    (λ h. either (nat_eq c 34 || nat_eq c 43 || nat_eq c 44 || nat_eq c 59) (nat_eq c 60) h
    (λ h. either (nat_eq c 34 || nat_eq c 43 || nat_eq c 44) (nat_eq c 59) h
    (λ h. either (nat_eq c 34 || nat_eq c 43) (nat_eq c 44) h
    (λ h. either (nat_eq c 34) (nat_eq c 43) h (λ e. small_at c 34 e (omega arith) refl)
    (λ e. small_at c 43 e (omega arith) refl))
    (λ e. small_at c 44 e (omega arith) refl))
    (λ e. small_at c 59 e (omega arith) refl))
    (λ e. small_at c 60 e (omega arith) refl))
    (λ e. small_at c 62 e (omega arith) refl))
    (λ e. small_at c 92 e (omega arith) refl)

escaped_is_small : (first last : Bool) (c : ℕ) → is_escaped first last c ≡ true → IsSmall c
escaped_is_small first last c h =
    either (is_special c || (first && (nat_eq c 32 || nat_eq c 35))) (last && nat_eq c 32) h
    (λ h. either (is_special c) (first && (nat_eq c 32 || nat_eq c 35)) h (special_is_small c)
    (λ h. either (nat_eq c 32) (nat_eq c 35) (right_of first (nat_eq c 32 || nat_eq c 35) h)
    (λ e. small_at c 32 e (omega arith) refl) (λ e. small_at c 35 e (omega arith) refl)))
    (λ h. small_at c 32 (right_of last (nat_eq c 32) h) (omega arith) refl)

some_octets : (c : ℕ) → 0 < length (encode_utf8 c)
some_octets c = let e : length (encode_utf8 c) ≡ len_utf8 c = length-encode c in let h : 0 < len_utf8 c =
    grind (arith, nat_tests) in omega arith

length_plain : (bs : List ℕ) → length (map Plain bs) ≡ length bs
length_plain [] = refl
length_plain (b ∷ bs) = ap suc (length_plain bs)

well_by : (first last : Bool) (c : ℕ) (z e : Bool) → nat_eq c 0 ≡ z → is_escaped first last c ≡ e
    → IsWell first last c (cond z (92 ∷ 48 ∷ 48 ∷ []) (cond e (92 ∷ encode_utf8 c) (encode_utf8 c)))
    (cond z (Escaped 0 ∷ []) (cond e (Escaped c ∷ []) (map Plain (encode_utf8 c))))
well_by first last c true e z h =
    let s : c ≡ 0 = eqb-true c 0 z in
    record {
      spells = by_digits 48 48 0 refl nothing;
      octets = sym (ap encode_utf8 s ∙ encode_ascii 0 (omega arith));
      good = (escaped_is_good first last 0, tt);
      some = omega arith;
    }
well_by first last c false true z h =
    let s = escaped_is_small first last c h in
    let one : encode_utf8 c ≡ c ∷ [] = encode_ascii c s.low in
    record {
      spells = subst (λ (x : List ℕ). IsSpelled (92 ∷ x) (Escaped c ∷ [])) (sym one) (by_itself c s.escapable nothing);
      octets = sym one;
      good = (escaped_is_good first last c, tt);
      some = omega arith;
    }
well_by first last c false false z h =
    let free = octets_are_free first last c (unescaped_is_free first last c h z) in
    record {
      spells = frees_are_spelled first last (encode_utf8 c) free;
      octets = plain_octets (encode_utf8 c);
      good = frees_are_good first last (encode_utf8 c) free;
      some = omega (arith, length_plain (encode_utf8 c), some_octets c);
    }

pub character_is_well : (first last : Bool) (c : ℕ) → IsWell first last c (printed_character (is_escaped first last c)
    c) (tokens_of_character (is_escaped first last c) c)
character_is_well first last c = well_by first last c (nat_eq c 0) (is_escaped first last c) refl refl
