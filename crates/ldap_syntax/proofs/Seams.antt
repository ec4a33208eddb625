-- Parts of a text and parts of its UTF-8.
use Rattle.std.proofs.Common.{ℕ, ◌+◌, ◌/◌, ◌%◌, ◌<◌, ◌≤◌, List, [], ◌∷◌, ◌++◌, map, Option, None, Some, ◌≡◌, refl, ap, ap₂, sym, subst, ◌∙◌, ◌↔◌, append_assoc, append-nil, encode_utf8_all, arith}
use Rattle.std.proofs.lemmas.Str.{cons_from_encodes, encodes-append, encodes_same}
use lib.Utf8.{encode}
use Rattle.ldap_syntax.specs.Parts.{StandInOrder, HasParts, part_or_nothing}
use Rattle.ldap_syntax.proofs.Search.{later}
use Rattle.ldap_syntax.proofs.Utf8.{Spelled, in_one, in_two, in_three, in_four, spelled}
use Rattle.ldap_words.specs.Octets.{utf8_of}

-- an octet that begins no character
pub record IsNext (b : ℕ) : Type 0 where
  pub low : 128 ≤ b
  pub high : b < 192

abbrev pub AreNext : List ℕ → Type 0
AreNext [] = Unit {0}
AreNext (b ∷ bs) = IsNext b × AreNext bs

-- a character's octets: one that begins it, and others that begin none
pub record IsCharacter (octets : List ℕ) : Type 0 where
  pub first : ℕ
  pub others : List ℕ
  pub whole : octets ≡ first ∷ others
  pub begins : IsNext first → ⊥
  pub are_next : AreNext others

next_octet : (x : ℕ) → IsNext (128 + x % 64)
next_octet x = record { low = omega arith; high = omega arith }

by_count : (c : ℕ) → Spelled c → IsCharacter (encode c)
by_count c (in_one a e) = record {
  first = c;
  others = [];
  whole = e;
  begins = λ n. omega (arith, n.low);
  are_next =
      tt;
}
by_count c (in_two a b e) = record {
  first = 192 + c / 64;
  others = (128 + c % 64) ∷ [];
  whole = e;
  begins = λ n.
      omega (arith, n.high);
  are_next = (next_octet c, tt);
}
by_count c (in_three a b e) = record {
  first = 224 + c / 64 / 64;
  others = (128 + c / 64 % 64) ∷ (128 + c % 64) ∷ [];
  whole = e;
  begins = λ n. omega (arith, n.high);
  are_next = (next_octet (c / 64), (next_octet c, tt));
}
by_count c (in_four a e) = record {
  first = 240 + c / 64 / 64 / 64;
  others = (128 + c / 64 / 64 % 64) ∷ (128 + c / 64 % 64) ∷ (128 + c % 64) ∷ [];
  whole = e;
  begins = λ n. omega (arith, n.high);
  are_next = (next_octet (c / 64 / 64), (next_octet (c / 64), (next_octet c, tt)));
}

pub character : (c : ℕ) → IsCharacter (encode c)
character c = by_count c (spelled c)

-- octets that begin no character lie before one that begins one
past_others : (others rest before tail : List ℕ) (g : ℕ) → AreNext others → (IsNext g → ⊥) → others ++ rest ≡
    before ++ g ∷ tail → (x : List ℕ) × (before ≡ others ++ x) × (rest ≡ x ++ g ∷ tail)
past_others [] rest before tail g n b e = (before, refl, e)
past_others (o ∷ others) rest [] tail g n b e = let same : o ≡ g = cc in absurd (b (subst IsNext same n.0))
past_others (o ∷ others) rest (d ∷ before) tail g n b e =
    let more = past_others others rest before tail g n.1 b (cc) in
    let same : d ≡ o = cc in
    (more.0, ap₂ (λ (x : ℕ) (y : List ℕ). x ∷ y) same more.1, more.2)

-- a character that begins in the octets of a text begins at a seam of the text
pub record Seam (cs before tail : List ℕ) : Type 0 where
  pub front : List ℕ
  pub back : List ℕ
  pub parts : cs ≡ front ++ back
  pub is_before : encode_utf8_all front ≡ before
  pub is_behind : encode_utf8_all back ≡ tail

seam_later : (c : ℕ) (cs before x tail : List ℕ) → before ≡ encode c ++ x → Seam cs x tail → Seam (c ∷ cs) before tail
seam_later c cs before x tail e s = record {
  front = c ∷ s.front;
  back = s.back;
  parts = ap (λ (y : List ℕ). c ∷ y) s.parts;
  is_before = ap (λ (y : List ℕ). encode c ++ y) s.is_before ∙ sym e;
  is_behind = s.is_behind;
}

pub seam : (cs before tail : List ℕ) (g : ℕ) → (IsNext g → ⊥) → encode_utf8_all cs ≡ before ++ g ∷ tail →
    Seam cs before (g ∷ tail)
seam [] [] tail g b e = cc
seam [] (d ∷ before) tail g b e = cc
seam (c ∷ cs) [] tail g b e = record { front = []; back = c ∷ cs; parts = refl; is_before = refl; is_behind = e }
seam (c ∷ cs) (d ∷ before) tail g b e =
    let k : IsCharacter (encode c) = character c in
    let w : (k.first ∷ k.others) ++ encode_utf8_all cs ≡ (d ∷ before) ++ g ∷ tail =
    ap (λ (y : List ℕ). y ++ encode_utf8_all cs) (sym k.whole) ∙ e in
    let cut = past_others k.others (encode_utf8_all cs) before tail g k.are_next b (cc) in
    let same : d ≡ k.first = cc in
    seam_later c cs (d ∷ before) cut.0 (g ∷ tail) (ap₂ (λ (x : ℕ) (y : List ℕ). x ∷ y) same cut.1
    ∙ ap (λ (y : List ℕ). y ++ cut.0) (sym k.whole)) (seam cs cut.0 tail g b cut.2)

-- the octets of a text at the front are those of its first characters
pub record Front (cs part rest : List ℕ) : Type 0 where
  pub back : List ℕ
  pub parts : cs ≡ part ++ back
  pub is_behind : encode_utf8_all back ≡ rest

pub front : (part cs rest : List ℕ) → encode_utf8_all cs ≡ encode_utf8_all part ++ rest → Front cs part rest
front [] cs rest e = record { back = cs; parts = refl; is_behind = e }
front (c ∷ part) cs rest e =
    let one = cons_from_encodes cs (encode_utf8_all part ++ rest) c
    (e ∙ append_assoc (encode c) (encode_utf8_all part) rest) in
    let more : Front one.0 part rest = front part one.0 rest one.2 in
    record { back = more.back; parts = one.1 ∙ ap (λ (x : List ℕ). c ∷ x) more.parts; is_behind = more.is_behind }

-- a part that is not empty, in the octets of a text
at_part : (c : ℕ) (p cs before after : List ℕ) → encode_utf8_all cs ≡ before ++ encode_utf8_all (c ∷ p) ++ after →
    Seam cs before (encode_utf8_all (c ∷ p) ++ after)
at_part c p cs before after e =
    let k : IsCharacter (encode c) = character c in
    let w : k.first ∷ ((k.others ++ encode_utf8_all p) ++ after) ≡ encode_utf8_all (c ∷ p) ++ after =
    ap (λ (y : List ℕ). (y ++ encode_utf8_all p) ++ after) (sym k.whole) in
    subst (Seam cs before) w (seam cs before ((k.others ++ encode_utf8_all p) ++ after) k.first k.begins
    (e ∙ append_assoc before (encode_utf8_all (c ∷ p)) after ∙ ap (λ (y : List ℕ). before ++ y) (sym w)))

-- parts stand in a text where their octets stand in its octets
pub to_octets : (ps : List (List ℕ)) (cs : List ℕ) → StandInOrder ps cs → StandInOrder (map encode_utf8_all ps)
    (encode_utf8_all cs)
to_octets [] cs s = tt
to_octets (p ∷ ps) cs s = record {
  before = encode_utf8_all s.before;
  after = encode_utf8_all s.after;
  place = ap encode_utf8_all s.place ∙ encodes-append (s.before ++ p) s.after
      ∙ ap (λ (x : List ℕ). x ++ encode_utf8_all s.after) (encodes-append s.before p);
  then = to_octets ps s.after s.then;
}

pub from_octets : (ps : List (List ℕ)) (cs : List ℕ) → StandInOrder (map encode_utf8_all ps) (encode_utf8_all cs) →
    StandInOrder ps cs
from_octets [] cs s = tt
from_octets ([] ∷ ps) cs s = record {
  before = [];
  after = cs;
  place = refl;
  then = from_octets ps cs (subst (StandInOrder (map encode_utf8_all ps))
      (sym (s.place ∙ ap (λ (x : List ℕ). x ++ s.after) (append-nil s.before))) (later (map encode_utf8_all ps)
      s.before s.after s.then));
}
from_octets ((c ∷ p) ∷ ps) cs s =
    let at : Seam cs s.before (encode_utf8_all (c ∷ p) ++ s.after) = at_part c p cs s.before s.after s.place in
    let on : Front at.back (c ∷ p) s.after = front (c ∷ p) at.back s.after at.is_behind in
    record {
      before = at.front;
      after = on.back;
      place = at.parts ∙ ap (λ (x : List ℕ). at.front ++ x) on.parts ∙ sym (append_assoc at.front (c ∷ p) on.back);
      then = from_octets ps on.back (subst (StandInOrder (map encode_utf8_all ps)) (sym on.is_behind) s.then);
    }

key_or_nothing : (o : Option (List ℕ)) → part_or_nothing (utf8_of o) ≡ encode_utf8_all (part_or_nothing o)
key_or_nothing None = refl
key_or_nothing (Some p) = refl

-- what stands before the last part, in a text
pub record Back (cs middle last : List ℕ) : Type 0 where
  pub front : List ℕ
  pub parts : cs ≡ front ++ last
  pub is_middle : encode_utf8_all front ≡ middle

pub back : (last cs middle : List ℕ) → encode_utf8_all cs ≡ middle ++ encode_utf8_all last → Back cs middle last
back [] cs middle e = record { front = cs; parts = sym (append-nil cs); is_middle = e ∙ append-nil middle }
back (c ∷ p) cs middle e =
    let at : Seam cs middle (encode_utf8_all (c ∷ p) ++ []) = at_part c p cs middle []
    (e ∙ sym (append-nil (middle ++ encode_utf8_all (c ∷ p)))) in
    record {
      front = at.front;
      parts = at.parts ∙ ap (λ (x : List ℕ). at.front ++ x) (encodes_same at.back (c ∷ p) (at.is_behind
          ∙ append-nil (encode_utf8_all (c ∷ p))));
      is_middle = at.is_before;
    }

pub parts_to_octets : (i f : Option (List ℕ)) (any : List (List ℕ)) (cs : List ℕ) → HasParts i any f cs →
    HasParts (utf8_of i) (map encode_utf8_all any) (utf8_of f) (encode_utf8_all cs)
parts_to_octets i f any cs d = record {
  middle = encode_utf8_all d.middle;
  ends = ap encode_utf8_all d.ends ∙ encodes-append (part_or_nothing i ++ d.middle) (part_or_nothing f)
      ∙ ap₂ ◌++◌ (encodes-append (part_or_nothing i) d.middle ∙ ap (λ (x : List ℕ). x ++ encode_utf8_all d.middle)
      (sym (key_or_nothing i))) (sym (key_or_nothing f));
  between = to_octets any d.middle d.between;
}

pub parts_from_octets : (i f : Option (List ℕ)) (any : List (List ℕ)) (cs : List ℕ) →
    HasParts (utf8_of i) (map encode_utf8_all any) (utf8_of f) (encode_utf8_all cs) → HasParts i any f cs
parts_from_octets i f any cs d =
    let start : Front cs (part_or_nothing i) (d.middle ++ part_or_nothing (utf8_of f)) =
    front (part_or_nothing i) cs (d.middle ++ part_or_nothing (utf8_of f)) (d.ends
    ∙ append_assoc (part_or_nothing (utf8_of i)) d.middle (part_or_nothing (utf8_of f))
    ∙ ap (λ (x : List ℕ). x ++ (d.middle ++ part_or_nothing (utf8_of f))) (key_or_nothing i)) in
    let end : Back start.back d.middle (part_or_nothing f) = back (part_or_nothing f) start.back d.middle
    (start.is_behind ∙ ap (λ (x : List ℕ). d.middle ++ x) (key_or_nothing f)) in
    record {
      middle = end.front;
      ends = start.parts ∙ ap (λ (x : List ℕ). part_or_nothing i ++ x) end.parts
          ∙ sym (append_assoc (part_or_nothing i) end.front (part_or_nothing f));
      between = from_octets any end.front (subst (StandInOrder (map encode_utf8_all any)) (sym end.is_middle)
          d.between);
    }

pub parts : (i f : Option (List ℕ)) (any : List (List ℕ)) (cs : List ℕ) →
    HasParts (utf8_of i) (map encode_utf8_all any) (utf8_of f) (encode_utf8_all cs) ↔ HasParts i any f cs
parts i f any cs = (parts_from_octets i f any cs, parts_to_octets i f any cs)
