-- Filter texts, scanning: the machine of oids accepts the oids.
use Rattle.std.proofs.Common.{◌≡◌, ℕ, List, [], ◌∷◌, Bool, true, false, cond, ◌&&◌, ◌||◌, Option, None, Some, nat_eq, nat_lt, nat_le, refl, sym, ap, ◌∙◌, arith}
use Rattle.std.specs.List.{list_all, slice_split, onto_first}
use Rattle.std.proofs.lemmas.Bool.{eqb-true, eqb-false, lt-ltb, leb-true, le-leb}
use Rattle.ldap_words.specs.Numbers.{is_digit, are_digits, is_number}
use Rattle.ldap_words.specs.Identifiers.{has_dot}
use Rattle.filter_text.specs.Descriptions.{is_alpha, is_key_octet, is_oid}
use Rattle.filter_text.specs.private.Machine.{holds, run, accepts}
use Rattle.filter_text.specs.private.ItemScan.{oid_first, oid_step, oid_ends}
use Rattle.filter_text.specs.declared.place.OidPlace.{OidPlace}
use Rattle.filter_text.specs.declared.place.OidPlace.TheVariants.{Letters, Zero, Number, Dot, DottedZero, DottedNumber}
use Rattle.filter_text.proofs.Booleans.{left, right, both, either}
use Rattle.filter_text.proofs.Machines.{false_true, takes}
use Rattle.filter_text.proofs.Parts.{parts, onto, onto_never, parts_all}
use Rattle.ldap_words.specs.Octets.{is_empty}
use Rattle.std.specs.Option.{option_and_then}

-- accepted from a place of an oid
abbrev pub ends_well : OidPlace → List ℕ → Bool
ends_well o cs = accepts oid_step oid_ends o cs

-- accepted from where an octet led
abbrev led : Option OidPlace → List ℕ → Bool
led o cs = holds oid_ends (option_and_then (λ t. run oid_step t cs) o)

abbrev split : List ℕ → List (List ℕ)
split cs = slice_split (λ c. nat_eq c 46) cs

abbrev at_split : Bool → ℕ → List ℕ → List (List ℕ)
at_split b c cs = cond b ([] ∷ split cs) (onto_first c (split cs))

-- ---- octets

no_digit : (c : ℕ) → nat_eq c 46 ≡ true → is_digit c ≡ false
no_digit c e = ap is_digit (eqb-true c 46 e)

zero_digit : (c : ℕ) → nat_eq c 48 ≡ true → nat_eq c 46 ≡ false
zero_digit c e = ap (λ x. nat_eq x 46) (eqb-true c 48 e)

above_zero : (c : ℕ) → is_digit c ≡ true → nat_eq c 48 ≡ false → nat_lt 48 c ≡ true
above_zero c d e =
    let x = leb-true 48 c (left (nat_le 48 c) (nat_le c 57) d) in
    let y = eqb-false c 48 e in
    lt-ltb 48 c (omega (arith, x, y))

-- ---- numbers

zero_number : (x : List ℕ) → is_number (48 ∷ x) ≡ is_empty x
zero_number [] = refl
zero_number (c ∷ cs) = refl

digits_number : (c : ℕ) → is_digit c ≡ true → nat_eq c 48 ≡ false → (x : List ℕ) → is_number (c ∷ x) ≡ are_digits x
digits_number c d e [] = d
digits_number c d e (b ∷ bs) =
    ap (λ a. a && are_digits (b ∷ bs)) (both (nat_lt 48 c) (nat_le c 57) (above_zero c d e)
    (right (nat_le 48 c) (nat_le c 57) d))

lt_false : (b : Bool) (c : ℕ) → nat_le 48 c ≡ b → nat_lt 48 c ≡ true → b ≡ true
lt_false true c e h = refl
lt_false false c e h = absurd (false_true (sym e ∙ le-leb 48 c (let x = leb-true 49 c h in omega (arith, x))))

no_number_at : (a b : Bool) (c : ℕ) (cs : List ℕ) → nat_lt 48 c ≡ a → nat_le c 57 ≡ b → is_digit c ≡ false →
    (a && b && are_digits cs) ≡ false
no_number_at false b c cs e f d = refl
no_number_at true false c cs e f d = refl
no_number_at true true c cs e f d =
    absurd (false_true (sym d ∙ both (nat_le 48 c) (nat_le c 57) (lt_false (nat_le 48 c) c refl e) f))

no_number : (c : ℕ) → is_digit c ≡ false → (x : List ℕ) → is_number (c ∷ x) ≡ false
no_number c d [] = d
no_number c d (b ∷ bs) = no_number_at (nat_lt 48 c) (nat_le c 57) c (b ∷ bs) refl refl d

digits_more : (c : ℕ) → is_digit c ≡ true → (x : List ℕ) → are_digits (c ∷ x) ≡ are_digits x
digits_more c d x = ap (λ b. b && are_digits x) d

no_digits : (c : ℕ) → is_digit c ≡ false → (x : List ℕ) → are_digits (c ∷ x) ≡ false
no_digits c d x = ap (λ b. b && are_digits x) d

-- ---- behind a dot

dot_at : (z d p : Bool) (c : ℕ) (cs : List ℕ) → nat_eq c 48 ≡ z → is_digit c ≡ d → nat_eq c 46 ≡ p
    → ends_well DottedZero cs ≡ parts is_empty is_number (split cs) → ends_well DottedNumber cs ≡ parts are_digits
    is_number (split cs)
    → led (cond z (Some DottedZero) (cond d (Some DottedNumber) None)) cs ≡ parts is_number is_number (at_split p c cs)
dot_at true d true c cs z e p h k = absurd (false_true (sym (zero_digit c z) ∙ p))
dot_at true d false c cs z e p h k = h
    ∙ sym (onto is_number is_empty is_number c (λ x. ap (λ b. is_number (b ∷ x)) (eqb-true c 48 z) ∙ zero_number x)
    (split cs))
dot_at false true true c cs z e p h k = absurd (false_true (sym (no_digit c p) ∙ e))
dot_at false true false c cs z e p h k = k ∙ sym (onto is_number are_digits is_number c (digits_number c e z)
    (split cs))
dot_at false false true c cs z e p h k = refl
dot_at false false false c cs z e p h k = sym (onto_never is_number is_number c (no_number c e) (split cs))

zero_at : (p : Bool) (c : ℕ) (cs : List ℕ) → nat_eq c 46 ≡ p → ends_well Dot cs ≡ parts is_number is_number (split cs)
    → led (cond p (Some Dot) None) cs ≡ parts is_empty is_number (at_split p c cs)
zero_at true c cs p h = h ∙ parts_all is_number 46 cs
zero_at false c cs p h = sym (onto_never is_empty is_number c (λ x. refl) (split cs))

number_at : (d p : Bool) (c : ℕ) (cs : List ℕ) → is_digit c ≡ d → nat_eq c 46 ≡ p → ends_well Dot cs ≡ parts is_number
    is_number (split cs)
    → ends_well DottedNumber cs ≡ parts are_digits is_number (split cs)
    → led (cond d (Some DottedNumber) (cond p (Some Dot) None)) cs ≡ parts are_digits is_number (at_split p c cs)
number_at true true c cs d p h k = absurd (false_true (sym (no_digit c p) ∙ d))
number_at true false c cs d p h k = k ∙ sym (onto are_digits are_digits is_number c (digits_more c d) (split cs))
number_at false true c cs d p h k = h ∙ parts_all is_number 46 cs
number_at false false c cs d p h k = sym (onto_never are_digits is_number c (no_digits c d) (split cs))

mutual
  behind_dot : (cs : List ℕ) → ends_well Dot cs ≡ parts is_number is_number (split cs)
  behind_dot [] = refl
  behind_dot (c ∷ cs) = dot_at (nat_eq c 48) (is_digit c) (nat_eq c 46) c cs refl refl refl (behind_zero cs)
      (behind_digit cs)

  behind_zero : (cs : List ℕ) → ends_well DottedZero cs ≡ parts is_empty is_number (split cs)
  behind_zero [] = refl
  behind_zero (c ∷ cs) = zero_at (nat_eq c 46) c cs refl (behind_dot cs)

  behind_digit : (cs : List ℕ) → ends_well DottedNumber cs ≡ parts are_digits is_number (split cs)
  behind_digit [] = refl
  behind_digit (c ∷ cs) = number_at (is_digit c) (nat_eq c 46) c cs refl refl (behind_dot cs) (behind_digit cs)

-- ---- before a dot

and_false : (b : Bool) → (b && false) ≡ false
and_false true = refl
and_false false = refl

first_zero_at : (p : Bool) (c : ℕ) (cs : List ℕ) → nat_eq c 46 ≡ p → led (cond p (Some Dot) None) cs ≡
    ((p || has_dot cs) && parts is_empty is_number (at_split p c cs))
first_zero_at true c cs p = behind_dot cs ∙ parts_all is_number 46 cs
first_zero_at false c cs p = sym (ap (λ b. has_dot cs && b) (onto_never is_empty is_number c (λ x. refl) (split cs))
    ∙ and_false (has_dot cs))

first_zero : (cs : List ℕ) → ends_well Zero cs ≡ (has_dot cs && parts is_empty is_number (split cs))
first_zero [] = refl
first_zero (c ∷ cs) = first_zero_at (nat_eq c 46) c cs refl

first_number_at : (d p : Bool) (c : ℕ) (cs : List ℕ) → is_digit c ≡ d → nat_eq c 46 ≡ p → ends_well Number cs ≡
    (has_dot cs && parts are_digits is_number (split cs))
    → led (cond d (Some Number) (cond p (Some Dot) None)) cs ≡ ((p || has_dot cs) && parts are_digits is_number
    (at_split p c cs))
first_number_at true true c cs d p h = absurd (false_true (sym (no_digit c p) ∙ d))
first_number_at true false c cs d p h = h
    ∙ sym (ap (λ b. has_dot cs && b) (onto are_digits are_digits is_number c (digits_more c d) (split cs)))
first_number_at false true c cs d p h = behind_dot cs ∙ parts_all is_number 46 cs
first_number_at false false c cs d p h =
    sym (ap (λ b. has_dot cs && b) (onto_never are_digits is_number c (no_digits c d) (split cs))
    ∙ and_false (has_dot cs))

first_number : (cs : List ℕ) → ends_well Number cs ≡ (has_dot cs && parts are_digits is_number (split cs))
first_number [] = refl
first_number (c ∷ cs) = first_number_at (is_digit c) (nat_eq c 46) c cs refl refl (first_number cs)

-- ---- oids

letters_at : (b : Bool) (cs : List ℕ) → ends_well Letters cs ≡ list_all is_key_octet cs →
    led (cond b (Some Letters) None) cs ≡ (b && list_all is_key_octet cs)
letters_at true cs h = h
letters_at false cs h = refl

letters : (cs : List ℕ) → ends_well Letters cs ≡ list_all is_key_octet cs
letters [] = refl
letters (c ∷ cs) = letters_at (is_key_octet c) cs (letters cs)

-- accepted from the beginning of an oid
abbrev pub oid_accepts : List ℕ → Bool
oid_accepts [] = false
oid_accepts (c ∷ cs) = led (oid_first c) cs

or_false : (a b : Bool) → (a || (b && false)) ≡ a
or_false true b = refl
or_false false b = and_false b

alpha_zero : (c : ℕ) → nat_eq c 48 ≡ true → is_alpha c ≡ false
alpha_zero c e = ap is_alpha (eqb-true c 48 e)

alpha_digit : (c : ℕ) → is_digit c ≡ true → is_alpha c ≡ true → ⊥
alpha_digit c d a =
    let x = leb-true c 57 (right (nat_le 48 c) (nat_le c 57) d) in
    either (nat_le 65 c && nat_le c 90) (nat_le 97 c && nat_le c 122) a
    (λ h. let y = leb-true 65 c (left (nat_le 65 c) (nat_le c 90) h) in omega (arith, x, y))
    (λ h. let y = leb-true 97 c (left (nat_le 97 c) (nat_le c 122) h) in omega (arith, x, y))

oid_at : (a z d p : Bool) (c : ℕ) (cs : List ℕ) → is_alpha c ≡ a → nat_eq c 48 ≡ z → is_digit c ≡ d → nat_eq c 46 ≡ p
    → led (cond a (Some Letters) (cond z (Some Zero) (cond d (Some Number) None))) cs
    ≡ ((a && list_all is_key_octet cs) || ((p || has_dot cs)
    && led (cond z (Some DottedZero) (cond d (Some DottedNumber) None)) cs))
oid_at true true d p c cs e z f q = absurd (false_true (sym (alpha_zero c z) ∙ e))
oid_at true false true p c cs e z f q = absurd (alpha_digit c f e)
oid_at true false false p c cs e z f q = letters cs ∙ sym (or_false (list_all is_key_octet cs) (p || has_dot cs))
oid_at false true d true c cs e z f q = absurd (false_true (sym (zero_digit c z) ∙ q))
oid_at false true d false c cs e z f q = first_zero cs ∙ ap (λ b. has_dot cs && b) (sym (behind_zero cs))
oid_at false false true true c cs e z f q = absurd (false_true (sym (no_digit c q) ∙ f))
oid_at false false true false c cs e z f q = first_number cs ∙ ap (λ b. has_dot cs && b) (sym (behind_digit cs))
oid_at false false false p c cs e z f q = sym (and_false (p || has_dot cs))

numbers : (v : List ℕ) → ends_well Dot v ≡ list_all is_number (split v)
numbers v = behind_dot v ∙ parts_all is_number 46 v

pub oid_same : (v : List ℕ) → oid_accepts v ≡ is_oid v
oid_same [] = refl
oid_same (c ∷ cs) =
    oid_at (is_alpha c) (nat_eq c 48) (is_digit c) (nat_eq c 46) c cs refl refl refl refl
    ∙ ap (λ b. (is_alpha c && list_all is_key_octet cs) || (has_dot (c ∷ cs) && b)) (numbers (c ∷ cs))

-- ---- an oid, octet by octet

pub record IsOidRun (v : List ℕ) : Type 0 where
  pub head : ℕ
  pub tail : List ℕ
  pub first : OidPlace
  pub place : OidPlace
  pub parts : v ≡ head ∷ tail
  pub begins : oid_first head ≡ Some first
  pub ran : run oid_step first tail ≡ Some place
  pub done : oid_ends place ≡ true

oid_run_at : (o : Option OidPlace) (c : ℕ) (cs : List ℕ) → oid_first c ≡ o → led o cs ≡ true → IsOidRun (c ∷ cs)
oid_run_at None c cs e h = absurd (false_true h)
oid_run_at (Some o) c cs e h =
    let t = takes oid_step oid_ends o cs h in
    record { head = c; tail = cs; first = o; place = t.place; parts = refl; begins = e; ran = t.ran; done = t.done }

oid_run_of : (v : List ℕ) → oid_accepts v ≡ true → IsOidRun v
oid_run_of [] h = absurd (false_true h)
oid_run_of (c ∷ cs) h = oid_run_at (oid_first c) c cs refl h

pub oid_run : (v : List ℕ) → is_oid v ≡ true → IsOidRun v
oid_run v h = oid_run_of v (oid_same v ∙ h)

pub is_oid_run : (c : ℕ) (cs : List ℕ) (o p : OidPlace) → oid_first c ≡ Some o → run oid_step o cs ≡ Some p →
    oid_ends p ≡ true → is_oid (c ∷ cs) ≡ true
is_oid_run c cs o p e r d = sym (oid_same (c ∷ cs)) ∙ ap (λ x. led x cs) e ∙ ap (holds oid_ends) r ∙ d
