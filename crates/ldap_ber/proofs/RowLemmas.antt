-- A row that grows, as a loop reads it: what is read so far and what is left say as much as the whole.
use Rattle.std.proofs.Common.{◌≡◌, ℕ, Bool, true, false, eqb, length, List, [], ◌∷◌, ◌++◌, map, refl, sym, ap, subst, ◌∙◌, append_assoc, inl, inr}
use Rattle.std.proofs.lemmas.List.{append-nil, map_push, nil_from_length}
use Rattle.std.proofs.lemmas.Bool.{eqb-true}
use Rattle.ldap_ber.specs.Fields.{HasField, HasPart, BeginsOtherwise}
use Rattle.ldap_ber.specs.Rows.{AreRow, AreTexts, AreValues, AreElements, none, more, HasRowOrNone}
use Rattle.ldap_ber.specs.Faults.{IsPlainFault}
use Rattle.ldap_ber.specs.declared.message_fault.MsgFault.{MsgFault}
use Rattle.ldap_ber.proofs.Same.{Same, IsUnique, IsSome, same_field, field_some, field_front, plain_weaker, text_part, value_part, text_some, value_some, text_unique, octets_unique}

-- ---- elements that are passed over

pub record Passed (content rest : List ℕ) : Type 0 where
  pub forth : AreElements rest → AreElements content
  pub back : AreElements content → AreElements rest

behind_element : (o c x : List ℕ) (f : ℕ) → HasField o f c x → AreElements o → AreElements x
behind_element o c x f p none = absurd (field_some [] c x f p refl)
behind_element o c x f p (more g d y q after) = subst AreElements (sym (same_field o c d x y f g p q).rest) after

pub passed_one : (content o c x : List ℕ) (f : ℕ) → Passed content o → HasField o f c x → Passed content x
passed_one content o c x f so_far p = record {
  forth = λ h. so_far.forth (more f c x p h);
  back = λ h. behind_element
      o c x f p (so_far.back h);
}

pub passed_all : (content rest : List ℕ) → Passed content rest → rest ≡ [] → AreElements content
passed_all content rest so_far e = so_far.forth (subst AreElements (sym e) none)

some_element : (o : List ℕ) → (o ≡ [] → ⊥) → AreElements o → (first : ℕ) × (content rest : List ℕ)
    × HasField o first content rest
some_element o some none = absurd (some refl)
some_element o some (more f c x p after) = (f, c, x, p)

pub passed_fault : (e : MsgFault) (content rest : List ℕ) → Passed content rest → (rest ≡ [] → ⊥) →
    IsPlainFault e ((first : ℕ) × (content rest₁ : List ℕ) × HasField rest first content rest₁) →
    IsPlainFault e (AreElements content)
passed_fault e content rest so_far some fault = plain_weaker e _ _ (λ h. some_element rest some (so_far.back h)) fault

-- ---- rows of any kind

-- a row's values so far, and what is left of its content
pub record SoFar {V : Type 0} (P : V → List ℕ → List ℕ → Type 0) (content : List ℕ) (done : List V) (rest : List ℕ) :
    Type 0 where
  pub forth : (others : List V) → AreRow P others rest → AreRow P (done ++ others) content
  pub back : (all : List V) → AreRow P all content → (others : List V) × AreRow P others rest

pub begins : {V : Type 0} (P : V → List ℕ → List ℕ → Type 0) (content : List ℕ) → SoFar P content [] content
begins P content = record { forth = λ others h. h; back = λ all h. (all, h) }

behind_part : {V : Type 0} (P : V → List ℕ → List ℕ → Type 0) → IsUnique P → IsSome P → (v : V) (o x : List ℕ) →
    P v o x → (all : List V) → AreRow P all o → (others : List V) × AreRow P others x
behind_part P u some v o x p [] h = absurd (some v o x p h)
behind_part P u some v o x p (w ∷ ws) h = (ws, subst (AreRow P ws) (u w v o h.rest x h.first p).rest h.next)

pub goes_on : {V : Type 0} (P : V → List ℕ → List ℕ → Type 0) → IsUnique P → IsSome P →
    (content : List ℕ) (done : List V) (rest : List ℕ) (v : V) (after : List ℕ)
    → SoFar P content done rest → P v rest after → SoFar P content (done ++ v ∷ []) after
goes_on {V} P u some content done rest v after so_far p = record {
  forth = λ others h. subst (λ (vs : List V). AreRow P vs content) (sym (append_assoc done (v ∷ []) others))
      (so_far.forth (v ∷ others) (record { rest = after; first = p; next = h }));
  back = λ all h. let b = so_far.back all h in behind_part P u some v rest after p b.0 b.1;
}

pub goes_on_map : {A V : Type 0} (f : A → V) (P : V → List ℕ → List ℕ → Type 0) → IsUnique P → IsSome P →
    (content : List ℕ) (old new : List A) (rest : List ℕ) (x : A) (after : List ℕ)
    → SoFar P content (map f old) rest → new ≡ old ++ x ∷ [] → P (f x) rest after → SoFar P content (map f new) after
goes_on_map {A} {V} f P u some content old new rest x after so_far pushed p =
    subst (λ (vs : List V). SoFar P content vs after) (sym (ap (map f) pushed ∙ map_push f old x))
    (goes_on P u some content (map f old) rest (f x) after so_far p)

pub ends : {V : Type 0} (P : V → List ℕ → List ℕ → Type 0) (content : List ℕ) (done : List V) (rest : List ℕ) →
    SoFar P content done rest → rest ≡ [] → AreRow P done content
ends {V} P content done rest so_far e = subst (λ (vs : List V). AreRow P vs content) (append-nil done)
    (so_far.forth [] e)

some_part : {V : Type 0} (P : V → List ℕ → List ℕ → Type 0) (rest : List ℕ) → (rest ≡ [] → ⊥) → (vs : List V) →
    AreRow P vs rest → (v : V) × (after : List ℕ) × P v rest after
some_part P rest some [] h = absurd (some h)
some_part P rest some (v ∷ vs) h = (v, h.rest, h.first)

pub fails : {V : Type 0} (P : V → List ℕ → List ℕ → Type 0) (e : MsgFault) (content : List ℕ) (done : List V)
    (rest : List ℕ) → SoFar P content done rest → (rest ≡ [] → ⊥)
    → IsPlainFault e ((v : V) × (after : List ℕ) × P v rest after) →
    IsPlainFault e ((vs : List V) × AreRow P vs content)
fails P e content done rest so_far some fault = plain_weaker e _ _ (λ h. let b = so_far.back h.0 h.1 in some_part P
    rest some b.0 b.1) fault

pub row_unique : {V : Type 0} (P : V → List ℕ → List ℕ → Type 0) → IsUnique P → IsSome P →
    (vs ws : List V) (content : List ℕ) → AreRow P vs content → AreRow P ws content → vs ≡ ws
row_unique P u some [] [] content p q = refl
row_unique P u some [] (w ∷ ws) content p q = absurd (some w content q.rest q.first p)
row_unique P u some (v ∷ vs) [] content p q = absurd (some v content p.rest p.first q)
row_unique P u some (v ∷ vs) (w ∷ ws) content p q =
    let s = u v w content p.rest q.rest p.first q.first in
    let head : v ≡ w = s.value in
    let tail : vs ≡ ws = row_unique P u some vs ws q.rest (subst (AreRow P vs) s.rest p.next) q.next in
    cc

-- ---- tests of what is left

pub some_left : (b : Bool) (xs : List ℕ) → b ≡ eqb (length xs) 0 → b ≡ false → xs ≡ [] → ⊥
some_left b xs e f g = let h : eqb (length {A = ℕ} []) 0 ≡ false = ap (λ (ys : List ℕ). eqb (length ys) 0) (sym g)
    ∙ sym e ∙ f in absurd cc

pub none_left : (b : Bool) (xs : List ℕ) → b ≡ eqb (length xs) 0 → b ≡ true → xs ≡ []
none_left b xs e f = nil_from_length xs (eqb-true _ _ (sym e ∙ f))

-- ---- parts with a content

-- a content has one value
abbrev pub IsOneValue : {V : Type 0} → (V → List ℕ → Type 0) → Type 0
IsOneValue {V} In = (v w : V) (c : List ℕ) → In v c → In w c → v ≡ w

pub part_unique : {V : Type 0} (In : V → List ℕ → Type 0) → IsOneValue In → (f : ℕ) (v w : V) (o x y : List ℕ) →
    HasPart (In v) o f x → HasPart (In w) o f y → Same V v w x y
part_unique In u f v w o x y p q =
    let s = same_field o p.content q.content x y f f p.field q.field in
    record { value = u v w q.content (subst (In v) s.content p.inside) q.inside; rest = s.rest }

pub part_some : (In : List ℕ → Type 0) (f : ℕ) (o x : List ℕ) → HasPart In o f x → o ≡ [] → ⊥
part_some In f o x p e = field_some o p.content x f p.field e

pub part_inside : {V : Type 0} (In : V → List ℕ → Type 0) (o content rest : List ℕ) (f : ℕ) →
    HasField o f content rest → (v : V) × (r : List ℕ) × HasPart (In v) o f r → (v : V) × In v content
part_inside In o content rest f p (v, r, h) =
    (v, subst (In v) (sym (same_field o content h.content rest r f f p h.field).content) h.inside)

pub row_or_none_unique : {V : Type 0} (P : V → List ℕ → List ℕ → Type 0) → IsUnique P → IsSome P →
    (f : ℕ) (v w : List V) (o x y : List ℕ) → HasRowOrNone P o f v x → HasRowOrNone P o f w y → Same (List V) v w x y
row_or_none_unique P u some f v w o x y (inl p) (inl q) = part_unique (AreRow P) (row_unique P u some) f v w o x y p q
row_or_none_unique P u some f v w o x y (inl p) (inr q) = absurd (field_front o p.content x f p.field q.2)
row_or_none_unique P u some f v w o x y (inr p) (inl q) = absurd (field_front o q.content y f q.field p.2)
row_or_none_unique P u some f v w o x y (inr p) (inr q) = record { value = p.0 ∙ sym q.0; rest = sym p.1 ∙ q.1 }

-- the part is there where octets begin with its first octet
pub row_there : {V : Type 0} (P : V → List ℕ → List ℕ → Type 0) (f : ℕ) (o : List ℕ) → (BeginsOtherwise o f → ⊥) →
    (vs : List V) × (x : List ℕ) × HasRowOrNone P o f vs x → (vs : List V) × (x : List ℕ) × HasPart (AreRow P vs) o f x
row_there P f o begins (vs, x, inl p) = (vs, x, p)
row_there P f o begins (vs, x, inr p) = absurd (begins p.2)

pub texts_one : IsOneValue AreTexts
texts_one = row_unique text_part (text_unique 4) text_some

pub values_one : IsOneValue AreValues
values_one = row_unique value_part (octets_unique 4) value_some

pub texts_or_none_unique : (f : ℕ) (v w : List (List ℕ)) (o x y : List ℕ) → HasRowOrNone text_part o f v x →
    HasRowOrNone text_part o f w y → Same (List (List ℕ)) v w x y
texts_or_none_unique f = row_or_none_unique text_part (text_unique 4) text_some f
