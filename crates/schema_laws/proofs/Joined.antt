-- Types with values that are printed, and parts with a separator between them.
use Rattle.std.proofs.Common.{ℕ, ◌+◌, ◌<◌, suc, List, [], ◌∷◌, ◌++◌, Bool, true, false, cond, not, ◌&&◌, ◌||◌, None, Some, nat_eq, nat_lt, ◌≡◌, refl, sym, ap, ap₂, ◌∙◌, subst, map, length, take, drop, append-nil, flat_map, arith}
use Rattle.std.proofs.lemmas.Bool.{eqb-true}
use Rattle.std.proofs.lemmas.Bool.Decides.{nat_tests}
use Rattle.std.proofs.lemmas.List.{length-append}
use Rattle.std.proofs.lemmas.List.Elements.{All-nil, All-cons}
use Rattle.std.specs.List.{All, AllByRecursion, list_all, position_or_len, position}
use Rattle.std.specs.Str.{chars}
use Rattle.ldap_match.specs.ldap_schema.Schema.{SchemaModel, find}
use Rattle.ldap_dn.specs.Names.{TypeAndValue}
use Rattle.ldap_dn.specs.Tokens.{octet_of, is_plain, is_space, is_unescaped, trimmed}
use Rattle.ldap_dn.specs.Grammar.{IsSpelled, nothing, as_it_stands}
use Rattle.ldap_dn.specs.Parted.{IsParted, is_last, has_more}
use Rattle.ldap_dn.specs.Printed.{type_name, printed_type_and_value, separated}
use Rattle.ldap_dn.specs.Texts.{is_value_octet, type_of, value_of, paired, type_and_value_at, type_and_value_of}
use Rattle.ldap_dn.specs.declared.token.Token.{Token}
use Rattle.ldap_dn.specs.declared.token.Token.TheVariants.{Plain}
use Rattle.schema_laws.specs.PrintedRead.{is_name_octet, IsReadable}
use Rattle.schema_laws.proofs.Lettered.{not_left, not_right, plain_octets}
use Rattle.schema_laws.proofs.Valued.{spelled_append, all_append, all_map, ends_of, kept_whole, tokens_of_value, value_spelled, value_allowed, value_read}
pub use Rattle.schema_laws.proofs.Lettered.{right_of as right_true}

pub left_true : (a b : Bool) → (a && b) ≡ true → a ≡ true
left_true true b h = refl
left_true false b h = cc

pub all_tests : {A : Type 0} (p : A → Bool) (xs : List A) → list_all p xs ≡ true → AllByRecursion (λ x. p x ≡ true) xs
all_tests p [] h = tt
all_tests p (x ∷ xs) h = (left_true (p x) (list_all p xs) h, all_tests p xs (right_true (p x) (list_all p xs) h))

pub all_of : {A : Type 0} (P : A → Type 0) (xs : List A) → AllByRecursion P xs → All P xs
all_of P [] h = All-nil P
all_of P (x ∷ xs) h = All-cons P x xs h.0 (all_of P xs h.1)

-- ---- names of types

other_octet : (b k : ℕ) (q : Bool) → nat_eq b k ≡ q → is_name_octet b ≡ true → is_name_octet k ≡ false → q ≡ false
other_octet b k true e h l = let s : b ≡ k = eqb-true b k e in let z : true ≡ false = sym h ∙ ap is_name_octet s
    ∙ l in z
other_octet b k false e h l = refl

lacks_octet : (b k : ℕ) → is_name_octet b ≡ true → is_name_octet k ≡ false → nat_eq b k ≡ false
lacks_octet b k h l = other_octet b k (nat_eq b k) refl h l

name_spelled : (n : List ℕ) → AllByRecursion (λ b. is_name_octet b ≡ true) n → IsSpelled n (map Plain n)
name_spelled [] h = nothing
name_spelled (b ∷ n) h = as_it_stands b (lacks_octet b 92 h.0 refl) (name_spelled n h.1)

name_lacks : (k : ℕ) → is_name_octet k ≡ false → (n : List ℕ) → AllByRecursion (λ b. is_name_octet b ≡ true) n →
    AllByRecursion (λ t. is_plain k t ≡ false) (map Plain n)
name_lacks k l [] h = tt
name_lacks k l (b ∷ n) h = (lacks_octet b k h.0 l, name_lacks k l n h.1)

whole_by : (ts : List Token) → AllByRecursion (λ t. is_space t ≡ false) ts → trimmed ts ≡ ts
whole_by [] h = refl
whole_by (t ∷ ts) h = kept_whole (t ∷ ts) h.0 (ends_of (t ∷ ts) (omega arith) h)

all_unescaped : (n : List ℕ) → list_all is_unescaped (map Plain n) ≡ true
all_unescaped [] = refl
all_unescaped (b ∷ n) = all_unescaped n

type_read : (s : SchemaModel) (n : List ℕ) (k : ℕ) → AllByRecursion (λ b. is_name_octet b ≡ true) n →
    find s n ≡ Some k → type_of s (trimmed (map Plain n)) ≡ Some k
type_read s n k h f =
    ap (type_of s) (whole_by (map Plain n) (name_lacks 32 refl n h))
    ∙ ap (λ b. cond b (find s (map octet_of (map Plain n))) None) (all_unescaped n)
    ∙ ap (find s) (plain_octets n)
    ∙ f

-- ---- a type and a value

-- the tokens of a type and a value
abbrev pub tokens_of_pair : SchemaModel → TypeAndValue → List Token
tokens_of_pair s v = map Plain (type_name s v.kind) ++ Plain 61 ∷ tokens_of_value v.value

pub pair_spelled : (s : SchemaModel) (v : TypeAndValue) → IsReadable s v → IsSpelled (printed_type_and_value s v)
    (tokens_of_pair s v)
pair_spelled s v r =
    spelled_append (name_spelled (type_name s v.kind) (all_tests is_name_octet (type_name s v.kind) r.is_plain))
    (as_it_stands 61 refl (value_spelled true (chars v.value)))

sign_at : (ts us : List Token) (t : Token) → is_plain 61 t ≡ true → AllByRecursion (λ t. is_plain 61 t ≡ false) ts →
    position_or_len (is_plain 61) (ts ++ t ∷ us) ≡ length ts
sign_at [] us t e h = ap (λ b. cond (not b) (1 + position_or_len (is_plain 61) us) 0) e
sign_at (u ∷ ts) us t e h =
    ap (λ b. cond (not b) (1 + position_or_len (is_plain 61) (ts ++ t ∷ us)) 0) h.0
    ∙ ap (λ n. 1 + n) (sign_at ts us t e h.1)
    ∙ omega arith

found_at : (n m i : ℕ) → i ≡ n → n < m → cond (nat_lt i m) (Some i) None ≡ Some n
found_at n m i e l = rw e (ap (λ b. cond b (Some n) None) (is_lower n m l)) where
  is_lower : (n m : ℕ) → n < m → nat_lt n m ≡ true
  is_lower n m l = grind (arith, nat_tests)

front_of : (ts us : List Token) → take (length ts) (ts ++ us) ≡ ts
front_of [] us = refl
front_of (t ∷ ts) us = ap (λ (x : List Token). t ∷ x) (front_of ts us)

behind : (ts us : List Token) (t : Token) → drop (suc (length ts)) (ts ++ t ∷ us) ≡ us
behind [] us t = refl
behind (u ∷ ts) us t = behind ts us t

pub pair_read : (s : SchemaModel) (v : TypeAndValue) → IsReadable s v → type_and_value_of s (tokens_of_pair s v) ≡
    Some v
pair_read s v r =
    let n = type_name s v.kind in
    let names = all_tests is_name_octet n r.is_plain in
    let ts = map Plain n in
    let us = tokens_of_value v.value in
    let at : position (is_plain 61) (ts ++ Plain 61 ∷ us) ≡ Some (length ts) =
    found_at (length ts) (length (ts ++ Plain 61 ∷ us)) _ (sign_at ts us (Plain 61) refl (name_lacks 61 refl n names))
    (omega (arith, length-append ts (Plain 61 ∷ us))) in
    let e : length ts + 1 ≡ suc (length ts) = omega arith in
    ap (type_and_value_at s (ts ++ Plain 61 ∷ us)) at
    ∙ ap₂ (λ (x y : List Token). paired (type_of s (trimmed x)) (value_of (trimmed y))) (front_of ts (Plain 61 ∷ us))
    (ap (λ m. drop m (ts ++ Plain 61 ∷ us)) e ∙ behind ts us (Plain 61))
    ∙ ap₂ paired (type_read s n v.kind names r.is_found) (value_read v.value r.is_text)

not_true : (b : Bool) → not b ≡ true → b ≡ false
not_true true h = cc
not_true false h = refl

no_plus : (t : Token) → is_value_octet t ≡ true → is_plain 43 t ≡ false
no_plus t h =
    let a = not_true (is_plain 34 t || is_plain 43 t || is_plain 44 t || is_plain 59 t || is_plain 60 t || is_plain 62
    t || is_plain 0 t) h in
    not_right (is_plain 34 t) (is_plain 43 t)
    (not_left (is_plain 34 t || is_plain 43 t) (is_plain 44 t)
    (not_left (is_plain 34 t || is_plain 43 t || is_plain 44 t) (is_plain 59 t)
    (not_left (is_plain 34 t || is_plain 43 t || is_plain 44 t || is_plain 59 t) (is_plain 60 t)
    (not_left (is_plain 34 t || is_plain 43 t || is_plain 44 t || is_plain 59 t || is_plain 60 t) (is_plain 62 t)
    (not_left (is_plain 34 t || is_plain 43 t || is_plain 44 t || is_plain 59 t || is_plain 60 t || is_plain 62 t)
    (is_plain 0 t) a)))))

no_comma : (t : Token) → is_value_octet t ≡ true → is_plain 44 t ≡ false
no_comma t h =
    let a = not_true (is_plain 34 t || is_plain 43 t || is_plain 44 t || is_plain 59 t || is_plain 60 t || is_plain 62
    t || is_plain 0 t) h in
    not_right (is_plain 34 t || is_plain 43 t) (is_plain 44 t)
    (not_left (is_plain 34 t || is_plain 43 t || is_plain 44 t) (is_plain 59 t)
    (not_left (is_plain 34 t || is_plain 43 t || is_plain 44 t || is_plain 59 t) (is_plain 60 t)
    (not_left (is_plain 34 t || is_plain 43 t || is_plain 44 t || is_plain 59 t || is_plain 60 t) (is_plain 62 t)
    (not_left (is_plain 34 t || is_plain 43 t || is_plain 44 t || is_plain 59 t || is_plain 60 t || is_plain 62 t)
    (is_plain 0 t) a))))

pair_lacks : (k : ℕ) → is_name_octet k ≡ false → nat_eq 61 k ≡ false → ((t : Token) → is_value_octet t ≡ true →
    is_plain k t ≡ false) → (s : SchemaModel) (v : TypeAndValue) → IsReadable s v →
    AllByRecursion (λ t. is_plain k t ≡ false) (tokens_of_pair s v)
pair_lacks k l e f s v r =
    all_append (λ t. is_plain k t ≡ false) (map Plain (type_name s v.kind)) (Plain 61 ∷ tokens_of_value v.value)
    (name_lacks k l (type_name s v.kind) (all_tests is_name_octet (type_name s v.kind) r.is_plain)) (
      e,
      all_map (λ t. is_value_octet t ≡ true) (λ t. is_plain k t ≡ false) f (tokens_of_value v.value) (value_allowed
          true (chars v.value)),
    )

pub pair_lacks_plus : (s : SchemaModel) (v : TypeAndValue) → IsReadable s v →
    AllByRecursion (λ t. is_plain 43 t ≡ false) (tokens_of_pair s v)
pair_lacks_plus s v r = pair_lacks 43 refl refl no_plus s v r

pub pair_lacks_comma : (s : SchemaModel) (v : TypeAndValue) → IsReadable s v →
    AllByRecursion (λ t. is_plain 44 t ≡ false) (tokens_of_pair s v)
pair_lacks_comma s v r = pair_lacks 44 refl refl no_comma s v r

-- ---- parts with a separator between them

abbrev pub joined : ℕ → List (List Token) → List Token
joined c [] = []
joined c (t ∷ ts) = t ++ flat_map (λ y. Plain c ∷ y) ts

flat_spelled : {A : Type 0} (f : A → List ℕ) (g : A → List Token) (c : ℕ) → nat_eq c 92 ≡ false → (xs : List A) →
    AllByRecursion (λ a. IsSpelled (f a) (g a)) xs → IsSpelled (flat_map (λ y. c ∷ y) (map f xs))
    (flat_map (λ y. Plain c ∷ y) (map g xs))
flat_spelled f g c e [] h = nothing
flat_spelled f g c e (x ∷ xs) h = as_it_stands c e (spelled_append h.0 (flat_spelled f g c e xs h.1))

pub joined_spelled : {A : Type 0} (f : A → List ℕ) (g : A → List Token) (c : ℕ) → nat_eq c 92 ≡ false →
    (xs : List A) → AllByRecursion (λ a. IsSpelled (f a) (g a)) xs → IsSpelled (separated c (map f xs))
    (joined c (map g xs))
joined_spelled f g c e [] h = nothing
joined_spelled f g c e (x ∷ xs) h = spelled_append h.0 (flat_spelled f g c e xs h.1)

flat_parted : (c : ℕ) (t : List Token) (ts : List (List Token)) → AllByRecursion (λ x. is_plain c x ≡ false) t →
    AllByRecursion (λ t. AllByRecursion (λ x. is_plain c x ≡ false) t) ts →
    IsParted c (t ++ flat_map (λ y. Plain c ∷ y) ts) (t ∷ ts)
flat_parted c t [] l h = subst (λ x. IsParted c x (t ∷ [])) (sym (append-nil t))
    (is_last t (all_of (λ x. is_plain c x ≡ false) t l))
flat_parted c t (u ∷ us) l h = has_more t (all_of (λ x. is_plain c x ≡ false) t l) (flat_parted c u us h.0 h.1)

pub joined_parted : (c : ℕ) (ts : List (List Token)) → 0 < length ts →
    AllByRecursion (λ t. AllByRecursion (λ x. is_plain c x ≡ false) t) ts → IsParted c (joined c ts) ts
joined_parted c [] lt h = absurd (omega (arith, lt))
joined_parted c (t ∷ ts) lt h = flat_parted c t ts h.0 h.1

flat_all : (P : Token → Type 0) (c : ℕ) → P (Plain c) → (ts : List (List Token)) →
    AllByRecursion (λ t. AllByRecursion P t) ts → AllByRecursion P (flat_map (λ y. Plain c ∷ y) ts)
flat_all P c e [] h = tt
flat_all P c e (t ∷ ts) h = (e, all_append P t (flat_map (λ y. Plain c ∷ y) ts) h.0 (flat_all P c e ts h.1))

pub joined_all : (P : Token → Type 0) (c : ℕ) → P (Plain c) → (ts : List (List Token)) →
    AllByRecursion (λ t. AllByRecursion P t) ts → AllByRecursion P (joined c ts)
joined_all P c e [] h = tt
joined_all P c e (t ∷ ts) h = all_append P t (flat_map (λ y. Plain c ∷ y) ts) h.0 (flat_all P c e ts h.1)
