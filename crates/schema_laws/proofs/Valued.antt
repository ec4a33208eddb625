-- A value that is printed, and the tokens that it is read as.
use Rattle.std.proofs.Common.{ℕ, ◌+◌, ◌-◌, ◌<◌, List, [], ◌∷◌, ◌++◌, Bool, true, false, cond, not, ◌&&◌, ◌||◌, None, Some, nat_eq, ◌≡◌, refl, sym, ap, ap₂, ◌∙◌, subst, map, length, take, drop, reverse, append-nil, append_assoc, encode_utf8_all, arith}
use Rattle.std.proofs.lemmas.List.{map-append, reverse-append}
use Rattle.std.proofs.lemmas.Slice.Eq.{bytes_eq-Decides}
use Rattle.std.specs.List.{AllByRecursion, list_all, prefix_len, suffix_len}
use Rattle.std.specs.Str.{is_utf8, chars, bytes_eq}
use lib.Utf8.{scalars}
use Rattle.ldap_dn.specs.Tokens.{octet_of, is_space, without_leading, without_trailing, trimmed}
use Rattle.ldap_dn.specs.Grammar.{IsSpelled, nothing, as_it_stands, by_itself, by_digits}
use Rattle.ldap_dn.specs.Printed.{is_escaped, printed_from}
use Rattle.ldap_dn.specs.Texts.{is_value_octet, begins_with_hash, text_of, value_of}
use Rattle.ldap_dn.specs.declared.token.Token.{Token}
use Rattle.schema_laws.proofs.Lettered.{IsGood, tokens_of_character, character_is_well, right_of as right_true}

pub spelled_append : {a b : List ℕ} {ts us : List Token} → IsSpelled a ts → IsSpelled b us →
    IsSpelled (a ++ b) (ts ++ us)
spelled_append nothing q = q
spelled_append (as_it_stands c e p) q = as_it_stands c e (spelled_append p q)
spelled_append (by_itself c e p) q = by_itself c e (spelled_append p q)
spelled_append (by_digits h l c e p) q = by_digits h l c e (spelled_append p q)

pub all_append : {A : Type 0} (P : A → Type 0) (xs ys : List A) → AllByRecursion P xs → AllByRecursion P ys →
    AllByRecursion P (xs ++ ys)
all_append P [] ys p q = q
all_append P (x ∷ xs) ys p q = (p.0, all_append P xs ys p.1 q)

pub all_map : {A : Type 0} (P Q : A → Type 0) (f : (x : A) → P x → Q x) (xs : List A) → AllByRecursion P xs →
    AllByRecursion Q xs
all_map P Q f [] h = tt
all_map P Q f (x ∷ xs) h = (f x h.0, all_map P Q f xs h.1)

-- ---- the ends of tokens

-- no SPACE stands unescaped as the last token
pub record EndsWell (ts : List Token) : Type 0 where
  pub front : List Token
  pub last : Token
  pub is : ts ≡ front ++ last ∷ []
  pub no_space : is_space last ≡ false

pub ends_of : (ts : List Token) → 0 < length ts → AllByRecursion (λ t. is_space t ≡ false) ts → EndsWell ts
ends_of [] lt h = absurd (omega (arith, lt))
ends_of (t ∷ []) lt h = record { front = []; last = t; is = refl; no_space = h.0 }
ends_of (t ∷ u ∷ ts) lt h =
    let e = ends_of (u ∷ ts) (omega arith) h.1 in
    record { front = t ∷ e.front; last = e.last; is = ap (λ (x : List Token). t ∷ x) e.is; no_space = e.no_space }

ends_behind : (ts us : List Token) → EndsWell us → EndsWell (ts ++ us)
ends_behind ts us e = record {
  front = ts ++ e.front;
  last = e.last;
  is = ap (λ (x : List Token). ts ++ x) e.is
      ∙ sym (append_assoc ts e.front (e.last ∷ []));
  no_space = e.no_space;
}

no_trailing : (ts : List Token) → EndsWell ts → suffix_len is_space ts ≡ 0
no_trailing ts e =
    ap (λ (x : List Token). prefix_len is_space (reverse x)) e.is
    ∙ ap (prefix_len is_space) (reverse-append e.front (e.last ∷ []))
    ∙ ap (λ b. cond b (1 + prefix_len is_space (reverse e.front)) 0) e.no_space

take_all : {A : Type 0} (xs : List A) (n : ℕ) → n ≡ length xs → take n xs ≡ xs
take_all [] n e = rw e refl
take_all (x ∷ xs) n e = rw e (ap (λ (y : List _). x ∷ y) (take_all xs (length xs) refl))

kept_trailing : (ts : List Token) → EndsWell ts → without_trailing ts ≡ ts
kept_trailing ts e = let z : suffix_len is_space ts ≡ 0 = no_trailing ts e in take_all ts
    (length ts - suffix_len is_space ts) (ap (λ n. length ts - n) z ∙ omega arith)

-- tokens without an unescaped SPACE at the front
abbrev pub BeginsWell : List Token → Type 0
BeginsWell [] = Unit {0}
BeginsWell (t ∷ ts) = is_space t ≡ false

kept_leading : (ts : List Token) → BeginsWell ts → without_leading ts ≡ ts
kept_leading [] h = refl
kept_leading (t ∷ ts) h = ap (λ b. drop (cond b (1 + prefix_len is_space ts) 0) (t ∷ ts)) h

pub kept_whole : (ts : List Token) → BeginsWell ts → EndsWell ts → trimmed ts ≡ ts
kept_whole ts b e = ap without_trailing (kept_leading ts b) ∙ kept_trailing ts e

-- ---- a value

-- the tokens of characters
abbrev pub tokens_from : Bool → List ℕ → List Token
tokens_from first [] = []
tokens_from first (c ∷ cs) = tokens_of_character (is_escaped first (nat_eq (length cs) 0) c) c ++ tokens_from false cs

pub value_spelled : (first : Bool) (cs : List ℕ) → IsSpelled (printed_from first cs) (tokens_from first cs)
value_spelled first [] = nothing
value_spelled first (c ∷ cs) = spelled_append (character_is_well first (nat_eq (length cs) 0) c).spells
    (value_spelled false cs)

value_octets : (first : Bool) (cs : List ℕ) → map octet_of (tokens_from first cs) ≡ encode_utf8_all cs
value_octets first [] = refl
value_octets first (c ∷ cs) =
    let ts = tokens_of_character (is_escaped first (nat_eq (length cs) 0) c) c in
    map-append octet_of ts (tokens_from false cs) ∙ ap₂ (λ (x y : List ℕ). x ++ y)
    (character_is_well first (nat_eq (length cs) 0) c).octets (value_octets false cs)

pub value_allowed : (first : Bool) (cs : List ℕ) → AllByRecursion (λ t. is_value_octet t ≡ true) (tokens_from first cs)
value_allowed first [] = tt
value_allowed first (c ∷ cs) =
    let last = nat_eq (length cs) 0 in
    let ts = tokens_of_character (is_escaped first last c) c in
    all_append (λ t. is_value_octet t ≡ true) ts (tokens_from false cs)
    (all_map (IsGood first last) (λ t. is_value_octet t ≡ true) (λ t g. g.allowed) ts
    (character_is_well first last c).good) (value_allowed false cs)

value_ends : (first : Bool) (c : ℕ) (cs : List ℕ) → EndsWell (tokens_from first (c ∷ cs))
value_ends first c [] =
    let w = character_is_well first true c in
    let ts = tokens_of_character (is_escaped first true c) c in
    subst EndsWell (sym (append-nil ts)) (ends_of ts w.some (all_map (IsGood first true) (λ t. is_space t ≡ false)
    (λ t g. g.space_last refl) ts w.good))
value_ends first c (d ∷ cs) = ends_behind (tokens_of_character (is_escaped first (nat_eq (length (d ∷ cs)) 0) c) c)
    (tokens_from false (d ∷ cs)) (value_ends false d cs)

begins_by : (last : Bool) (ts us : List Token) → 0 < length ts → AllByRecursion (IsGood true last) ts →
    BeginsWell (ts ++ us)
begins_by last [] us lt h = absurd (omega (arith, lt))
begins_by last (t ∷ ts) us lt h = h.0.space_first refl

value_begins : (cs : List ℕ) → BeginsWell (tokens_from true cs)
value_begins [] = tt
value_begins (c ∷ cs) = let w = character_is_well true (nat_eq (length cs) 0) c in begins_by (nat_eq (length cs) 0) _
    (tokens_from false cs) w.some w.good

no_hash_by : (last : Bool) (ts us : List Token) → 0 < length ts → AllByRecursion (IsGood true last) ts →
    begins_with_hash (ts ++ us) ≡ false
no_hash_by last [] us lt h = absurd (omega (arith, lt))
no_hash_by last (t ∷ ts) us lt h = h.0.hash_first refl

no_hash : (cs : List ℕ) → begins_with_hash (tokens_from true cs) ≡ false
no_hash [] = refl
no_hash (c ∷ cs) = let w = character_is_well true (nat_eq (length cs) 0) c in no_hash_by (nat_eq (length cs) 0) _
    (tokens_from false cs) w.some w.good

whole_value : (cs : List ℕ) → trimmed (tokens_from true cs) ≡ tokens_from true cs
whole_value [] = refl
whole_value (c ∷ cs) = kept_whole (tokens_from true (c ∷ cs)) (value_begins (c ∷ cs)) (value_ends true c cs)

pub all_true : {A : Type 0} (p : A → Bool) (xs : List A) → AllByRecursion (λ x. p x ≡ true) xs → list_all p xs ≡ true
all_true p [] h = refl
all_true p (x ∷ xs) h = ap (λ b. b && list_all p xs) h.0 ∙ all_true p xs h.1

-- the octets of the characters of a text are the text's
text_again : (v : List ℕ) → is_utf8 v ≡ true → encode_utf8_all (chars v) ≡ v
unfolding is_utf8
text_again v h = (bytes_eq-Decides (encode_utf8_all (chars v)) v).0 (right_true (scalars (chars v))
    (bytes_eq (encode_utf8_all (chars v)) v) h)

-- the tokens of a value
abbrev pub tokens_of_value : List ℕ → List Token
tokens_of_value v = tokens_from true (chars v)

value_by : (a b : Bool) (ts : List Token) → a ≡ true → b ≡ false →
    cond (not a || b) None (text_of (map octet_of ts)) ≡ text_of (map octet_of ts)
value_by true false ts e f = refl
value_by false b ts e f = cc
value_by a true ts e f = cc

pub value_read : (v : List ℕ) → is_utf8 v ≡ true → value_of (trimmed (tokens_of_value v)) ≡ Some v
value_read v u =
    let ts = tokens_from true (chars v) in
    let octets : map octet_of ts ≡ v = value_octets true (chars v) ∙ text_again v u in
    ap value_of (whole_value (chars v))
    ∙ value_by (list_all is_value_octet ts) (begins_with_hash ts) ts
    (all_true is_value_octet ts (value_allowed true (chars v))) (no_hash (chars v))
    ∙ ap text_of octets
    ∙ ap (λ b. cond b (Some v) None) u
