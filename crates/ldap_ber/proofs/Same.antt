-- The field at the front of octets is one, and what a part lacks the whole lacks.
use Rattle.std.proofs.Common.{◌≡◌, ◌<◌, length, ℕ, Bool, true, false, Option, Some, None, List, [], ◌∷◌, ◌++◌, refl, sym, ap, subst, ◌∙◌, inl, inr, arith}
use Rattle.std.specs.Prelude.{ℤ, pos, negsuc}
use Rattle.std.specs.Str.{IsUtf8}
use Rattle.std.proofs.lemmas.List.{append_cancel_left, length-append}
use Rattle.ldap_ber.specs.Element.{IsElement}
use Rattle.ldap_ber.specs.Values.{IsValue, IsInteger, IsBoolean}
use Rattle.ldap_ber.proofs.ElementLemmas.{one}
use Rattle.ldap_ber.specs.Fields.{HasField, Seq, HasText, HasNumber, HasInteger, HasFlag, BeginsOtherwise, Optional, HasTextOrNone, HasOctetsOrNone, HasFlagOrFalse}
use Rattle.ldap_ber.specs.Faults.{IsPlainFault}
use Rattle.ldap_ber.specs.declared.message_fault.MsgFault.{MsgFault}
use Rattle.ldap_ber.specs.declared.message_fault.MsgFault.TheVariants.{TooLarge, NotAMessage, TooDeep, TooManyItems, NoMemory}

pub record SameField (f g : ℕ) (c d x y : List ℕ) : Type 0 where
  pub first : f ≡ g
  pub content : c ≡ d
  pub rest : x ≡ y

pub same_spelled : (a b x y c d : List ℕ) (f g : ℕ) → IsElement a f c → IsElement b g d → a ++ x ≡ b ++ y →
    SameField f g c d x y
same_spelled a b x y c d f g is₁ is₂ e =
    let same = one a b x y c d f g is₁ is₂ e in
    record {
      first = same.1;
      content = same.2;
      rest = append_cancel_left a x y (e ∙ ap (λ (s : List ℕ). s ++ y)
          (sym same.0));
    }

pub same_field : (octets c d x y : List ℕ) (f g : ℕ) → HasField octets f c x → HasField octets g d y →
    SameField f g c d x y
same_field octets c d x y f g is₁ is₂ = same_spelled is₁.spelling is₂.spelling x y c d f g is₁.is_element
    is₂.is_element (sym is₁.parts ∙ is₂.parts)

-- an element has an octet
pub not_nothing : (s rest content : List ℕ) (octet : ℕ) → IsElement s octet content → s ++ rest ≡ [] → ⊥
not_nothing s rest content octet is e = let z : (octet ∷ is.len_octets ++ content) ++ rest ≡ [] =
    ap (λ (x : List ℕ). x ++ rest) (sym is.whole) ∙ e in cc

pub field_some : (o c x : List ℕ) (f : ℕ) → HasField o f c x → o ≡ [] → ⊥
field_some o c x f h e = not_nothing h.spelling x c f h.is_element (sym h.parts ∙ e)

-- the front of octets is the first octet of the field
pub field_front : (o c x : List ℕ) (f : ℕ) → HasField o f c x → BeginsOtherwise o f → ⊥
field_front [] c x f h begins = field_some [] c x f h refl
field_front (a ∷ bs) c x f h begins =
    let e : a ∷ bs ≡ (f ∷ h.is_element.len_octets ++ c) ++ x = h.parts ∙ ap (λ (s : List ℕ). s ++ x)
    h.is_element.whole in
    let same : a ≡ f = cc in
    begins same

-- what a part lacks, the whole lacks
pub plain_weaker : (e : MsgFault) (P Q : Type 0) → (Q → P) → IsPlainFault e P → IsPlainFault e Q
plain_weaker NotAMessage P Q f fault = λ q. fault (f q)
plain_weaker TooLarge P Q f fault = fault
plain_weaker TooDeep P Q f fault = fault
plain_weaker TooManyItems P Q f fault = fault
plain_weaker NoMemory P Q f fault = fault

-- ---- one value at the front

-- a part of the grammar has one value at the front of octets, and one rest
pub record Same (V : Type 0) (v w : V) (x y : List ℕ) : Type 0 where
  pub value : v ≡ w
  pub rest : x ≡ y

abbrev pub IsUnique : {V : Type 0} → (V → List ℕ → List ℕ → Type 0) → Type 0
IsUnique {V} P = (v w : V) (o x y : List ℕ) → P v o x → P w o y → Same V v w x y

-- a part of the grammar has an octet
abbrev pub IsSome : {V : Type 0} → (V → List ℕ → List ℕ → Type 0) → Type 0
IsSome {V} P = (v : V) (o x : List ℕ) → P v o x → o ≡ [] → ⊥

pub octets_unique : (f : ℕ) (v w o x y : List ℕ) → HasField o f v x → HasField o f w y → Same (List ℕ) v w x y
octets_unique f v w o x y p q = let s = same_field o v w x y f f p q in record { value = s.content; rest = s.rest }

pub text_unique : (f : ℕ) (v w o x y : List ℕ) → HasText o f v x → HasText o f w y → Same (List ℕ) v w x y
text_unique f v w o x y p q = octets_unique f v w o x y p.field q.field

same_value : (content : List ℕ) (m n : ℕ) → IsValue content (pos m) → IsValue content (pos n) → m ≡ n
same_value [] m n p q = absurd p
same_value (a ∷ bs) m n p q = p.1 ∙ sym q.1

pub number_unique : (f l v w : ℕ) (o x y : List ℕ) → HasNumber o f l v x → HasNumber o f l w y → Same ℕ v w x y
number_unique f l v w o x y p q =
    let s = same_field o p.content q.content x y f f p.field q.field in
    record {
      value = same_value q.content v w (subst (λ (c : List ℕ). IsValue c (pos v)) s.content p.number.is_value)
          q.number.is_value;
      rest = s.rest;
    }

same_integer : (content : List ℕ) (y z : ℤ) → IsValue content y → IsValue content z → y ≡ z
same_integer [] y z p q = absurd p
same_integer (a ∷ bs) (pos m) (pos n) p q = ap pos (p.1 ∙ sym q.1)
same_integer (a ∷ bs) (negsuc m) (negsuc n) p q = ap negsuc (p.1 ∙ sym q.1)
same_integer (a ∷ bs) (pos m) (negsuc n) p q = absurd (omega (arith, p.0, q.0))
same_integer (a ∷ bs) (negsuc m) (pos n) p q = absurd (omega (arith, p.0, q.0))

-- an integer has one content's value
pub integer_one : (y z : ℤ) (content : List ℕ) → IsInteger content y → IsInteger content z → y ≡ z
integer_one y z content p q = same_integer content y z p.is_value q.is_value

pub integer_unique : (f : ℕ) (v w : ℤ) (o x y : List ℕ) → HasInteger o f v x → HasInteger o f w y → Same ℤ v w x y
integer_unique f v w o x y p q =
    let s = same_field o p.content q.content x y f f p.field q.field in
    record {
      value = integer_one v w q.content (subst (λ (c : List ℕ). IsInteger c v) s.content p.number) q.number;
      rest = s.rest;
    }

same_flag : (content : List ℕ) (v w : Bool) → IsBoolean content v → IsBoolean content w → v ≡ w
same_flag [] v w p q = absurd p
same_flag (b ∷ []) true true p q = refl
same_flag (b ∷ []) false false p q = refl
same_flag (b ∷ []) true false p q = absurd (p q)
same_flag (b ∷ []) false true p q = absurd (q p)
same_flag (b ∷ d ∷ bs) v w p q = absurd p

pub flag_unique : (f : ℕ) (v w : Bool) (o x y : List ℕ) → HasFlag o f v x → HasFlag o f w y → Same Bool v w x y
flag_unique f v w o x y p q =
    let s = same_field o p.content q.content x y f f p.field q.field in
    record {
      value = same_flag q.content v w (subst (λ (c : List ℕ). IsBoolean c v) s.content p.flag) q.flag;
      rest =
          s.rest;
    }

pub flag_or_false_unique : (f : ℕ) (v w : Bool) (o x y : List ℕ) → HasFlagOrFalse o f v x → HasFlagOrFalse o f w y →
    Same Bool v w x y
flag_or_false_unique f v w o x y (inl p) (inl q) = flag_unique f v w o x y p q
flag_or_false_unique f v w o x y (inl p) (inr q) = absurd (field_front o p.content x f p.field q.2)
flag_or_false_unique f v w o x y (inr p) (inl q) = absurd (field_front o q.content y f q.field p.2)
flag_or_false_unique f v w o x y (inr p) (inr q) = record { value = p.0 ∙ sym q.0; rest = sym p.1 ∙ q.1 }

optional_unique : {V : Type 0} (P : V → List ℕ → List ℕ → Type 0) (f : ℕ) → IsUnique P →
    ((v : V) (o x : List ℕ) → P v o x → BeginsOtherwise o f → ⊥)
    → (v w : Option V) (o x y : List ℕ) → Optional P f o v x → Optional P f o w y → Same (Option V) v w x y
optional_unique P f u front (Some v) (Some w) o x y p q = let s = u v w o x y p q in record
    { value = ap Some s.value; rest = s.rest }
optional_unique P f u front (Some v) None o x y p q = absurd (front v o x p q.1)
optional_unique P f u front None (Some w) o x y p q = absurd (front w o y q p.1)
optional_unique P f u front None None o x y p q = record { value = refl; rest = sym p.0 ∙ q.0 }

pub text_or_none_unique : (f : ℕ) (v w : Option (List ℕ)) (o x y : List ℕ) → HasTextOrNone o f v x →
    HasTextOrNone o f w y → Same (Option (List ℕ)) v w x y
text_or_none_unique f = optional_unique (λ t octets rest. HasText octets f t rest) f (text_unique f)
    (λ v o x p. field_front o v x f p.field)

pub octets_or_none_unique : (f : ℕ) (v w : Option (List ℕ)) (o x y : List ℕ) → HasOctetsOrNone o f v x →
    HasOctetsOrNone o f w y → Same (Option (List ℕ)) v w x y
octets_or_none_unique f = optional_unique (λ v octets rest. HasField octets f v rest) f (octets_unique f)
    (λ v o x p. field_front o v x f p)

-- ---- what follows a part that was read

pub behind_text : {Next : List ℕ → Type 0} (o t u x : List ℕ) (f : ℕ) → HasText o f t x → Seq (HasText o f u) Next →
    Next x
behind_text {Next} o t u x f p s = subst Next (text_unique f u t o s.rest x s.first p).rest s.next

-- the same of any part, with its value
pub record Behind (V : Type 0) (v w : V) (Next : Type 0) : Type 0 where
  pub value : v ≡ w
  pub next : Next

pub step : {V : Type 0} (P : V → List ℕ → List ℕ → Type 0) → IsUnique P → (Next : List ℕ → Type 0) (v w : V)
    (o x : List ℕ) → P v o x → Seq (P w o) Next → Behind V v w (Next x)
step P u Next v w o x p s = let same = u v w o x s.rest p s.first in record {
  value = same.value;
  next =
      subst Next (sym same.rest) s.next;
}

-- ---- leaves

pub text_inside : (o content rest : List ℕ) (f : ℕ) → HasField o f content rest → (t r : List ℕ) × HasText o f t r →
    IsUtf8 content
text_inside o content rest f p (t, r, h) = subst IsUtf8 (sym (same_field o content t rest r f f p h.field).content)
    h.text

pub number_inside : (o content rest : List ℕ) (f l : ℕ) → HasField o f content rest → (n : ℕ) × (r : List ℕ)
    × HasNumber o f l n r → (n : ℕ) × IsInteger content (pos n) × (n < l)
number_inside o content rest f l p (n, r, h) = (
  n,
  subst (λ (c : List ℕ). IsInteger c (pos n)) (sym (same_field o content h.content rest r f f p
      h.field).content) h.number,
  h.small,
)

pub integer_inside : (o content rest : List ℕ) (f : ℕ) → HasField o f content rest → (z : ℤ) × (r : List ℕ)
    × HasInteger o f z r → (z : ℤ) × IsInteger content z
integer_inside o content rest f p (z, r, h) = (
  z,
  subst (λ (c : List ℕ). IsInteger c z) (sym (same_field o content h.content rest r f f p
      h.field).content) h.number,
)

pub flag_inside : (o content rest : List ℕ) (f : ℕ) → HasField o f content rest → (b : Bool) × (r : List ℕ)
    × HasFlag o f b r → (b : Bool) × IsBoolean content b
flag_inside o content rest f p (b, r, h) = (
  b,
  subst (λ (c : List ℕ). IsBoolean c b) (sym (same_field o content h.content rest r f f p
      h.field).content) h.flag,
)

-- what follows a field is shorter
pub field_shorter : (o c x : List ℕ) (f : ℕ) → HasField o f c x → length x < length o
field_shorter o c x f h = omega (arith, ap length h.parts, length-append h.spelling x, ap length h.is_element.whole)

-- ---- the parts of rows

abbrev pub text_part : List ℕ → List ℕ → List ℕ → Type 0
text_part t octets rest = HasText octets 4 t rest

abbrev pub value_part : List ℕ → List ℕ → List ℕ → Type 0
value_part v octets rest = HasField octets 4 v rest

pub text_some : IsSome text_part
text_some v o x p = field_some o v x 4 p.field

pub value_some : IsSome value_part
value_some v o x p = field_some o v x 4 p
