-- A bind has one value at the front of octets; what a part lacks, the bind lacks; what is written is one.
use Rattle.std.proofs.Common.{◌≡◌, ℕ, Option, List, [], ◌∷◌, ◌++◌, sym, ap, subst, ◌∙◌, append_assoc, arith}
use Rattle.std.specs.Prelude.{ℤ}
use Rattle.std.specs.Str.{IsUtf8}
use Rattle.std.proofs.lemmas.List.{append-nil}
use Rattle.ldap_filter.specs.ldap_ber.Element.{element_bytes}
use Rattle.ldap_filter.specs.ldap_ber.Values.{integer_octets}
use Rattle.ldap_filter.specs.ldap_ber.Fields.{HasField, HasText, HasInteger, HasPart, BeginsOtherwise, HasOctetsOrNone}
use Rattle.ldap_filter.specs.ldap_ber.Rows.{AreElements, none}
use Rattle.ldap_filter.specs.ldap_ber.Written.{optional_bytes}
use Rattle.ldap_filter.proofs.ldap_ber.Same.{IsUnique, step, same_field, field_front, octets_unique, text_part, text_unique, integer_unique, octets_or_none_unique}
use Rattle.ldap_filter.proofs.ldap_ber.RowLemmas.{IsOneValue, part_unique}
use Rattle.ldap_filter.proofs.ldap_ber.Parts.{integer_part, octets_or_none_part}
use Rattle.ldap_filter.proofs.ldap_ber.Spelled.{IsShort, field, inner, left, right, text, integer, part, octets_or_none}
use Rattle.ldap_requests.specs.Values.{SaslCredentialsValue, AuthenticationValue, simple, sasl, BindRequestValue}
use Rattle.ldap_requests.specs.Grammar.{IsSaslCredentials, HasAuthentication, IsBindRequest}
use Rattle.ldap_requests.specs.Written.{sasl_content, authentication_bytes, bind_content, IsAuthenticationInRange, IsBindInRange}

-- ---- one value

sasl_same : (v w : SaslCredentialsValue) → v.mechanism ≡ w.mechanism → v.credentials ≡ w.credentials → v ≡ w
sasl_same v w e0 e1 =
    ap (λ (x : List ℕ). let r : SaslCredentialsValue = record { mechanism = x; credentials = v.credentials } in r) e0
    ∙ ap (λ (x : Option (List ℕ)). let r : SaslCredentialsValue = record { mechanism = w.mechanism; credentials = x }
    in r) e1

pub sasl_one : IsOneValue IsSaslCredentials
sasl_one v w o p q =
    let s = step text_part (text_unique 4) _ v.mechanism w.mechanism o p.rest p.first q in
    let t = step (octets_or_none_part 4) (octets_or_none_unique 4) _ v.credentials w.credentials p.rest p.next.rest
    p.next.first s.next in
    sasl_same v w s.value t.value

pub authentication_unique : IsUnique HasAuthentication
authentication_unique (simple v) (simple w) o x y p q = let s = octets_unique 128 v w o x y p q in record
    { value = ap simple s.value; rest = s.rest }
authentication_unique (sasl v) (sasl w) o x y p q = let s = part_unique IsSaslCredentials sasl_one 163 v w o x y p q
    in record { value = ap sasl s.value; rest = s.rest }
authentication_unique (simple v) (sasl w) o x y p q =
    absurd (omega (arith, (same_field o v q.content x y 128 163 p q.field).first))
authentication_unique (sasl v) (simple w) o x y p q =
    absurd (omega (arith, (same_field o p.content w x y 163 128 p.field q).first))

bind_same : (v w : BindRequestValue) → v.version ≡ w.version → v.name ≡ w.name → v.authentication ≡ w.authentication →
    v ≡ w
bind_same v w e0 e1 e2 =
    ap (λ (x : ℤ). let r : BindRequestValue = record { version = x; name = v.name; authentication = v.authentication }
    in r) e0
    ∙ ap (λ (x : List ℕ). let r : BindRequestValue = record {
      version = w.version;
      name = x;
      authentication =
          v.authentication;
    } in r) e1
    ∙ ap (λ (x : AuthenticationValue). let r : BindRequestValue = record {
      version = w.version;
      name =
          w.name;
      authentication = x;
    } in r) e2

pub bind_one : IsOneValue IsBindRequest
bind_one v w o p q =
    let s = step (integer_part 2) (integer_unique 2) _ v.version w.version o p.rest p.first q in
    let t = step text_part (text_unique 4) _ v.name w.name p.rest p.next.rest p.next.first s.next in
    let u = step HasAuthentication authentication_unique _ v.authentication w.authentication p.next.rest
    p.next.next.rest p.next.next.first t.next in
    bind_same v w s.value t.value u.value

-- ---- exits of readers

pub sasl_credentials : (o x d : List ℕ) → HasText o 4 d x → (s : SaslCredentialsValue) × IsSaslCredentials s o →
    (u : Option (List ℕ)) × (rest : List ℕ) × HasOctetsOrNone x 4 u rest
sasl_credentials o x d p (v, h) = let s = step text_part (text_unique 4) _ d v.mechanism o x p h
    in (v.credentials, s.next.rest, s.next.first)

pub sasl_end : (o x y d : List ℕ) (u : Option (List ℕ)) → HasText o 4 d x → HasOctetsOrNone x 4 u y →
    (s : SaslCredentialsValue) × IsSaslCredentials s o → AreElements y
sasl_end o x y d u p q (v, h) =
    let s = step text_part (text_unique 4) _ d v.mechanism o x p h in
    (step (octets_or_none_part 4) (octets_or_none_unique 4) _ u v.credentials x y q s.next).next

other_front : (o content rest : List ℕ) (f g : ℕ) → (f ≡ g → ⊥) → HasField o f content rest → BeginsOtherwise o g
other_front [] content rest f g ne p = tt
other_front (a ∷ bs) content rest f g ne p = λ e.
    let w : a ∷ bs ≡ (f ∷ p.is_element.len_octets ++ content) ++ rest = p.parts ∙ ap (λ (s : List ℕ). s ++ rest)
    p.is_element.whole in
    let same : f ≡ a = cc in
    ne (same ∙ e)

pub simple_there : (o : List ℕ) → (BeginsOtherwise o 128 → ⊥) → (a : AuthenticationValue) × (rest : List ℕ)
    × HasAuthentication a o rest → (v rest : List ℕ) × HasField o 128 v rest
simple_there o begins (simple v, rest, h) = (v, rest, h)
simple_there o begins (sasl s, rest, h) =
    absurd (begins (other_front o h.content rest 163 128 (λ e. omega arith) h.field))

pub sasl_there : (o : List ℕ) → BeginsOtherwise o 128 → (a : AuthenticationValue) × (rest : List ℕ)
    × HasAuthentication a o rest → (s : SaslCredentialsValue) × (rest : List ℕ) × HasPart (IsSaslCredentials s) o 163
    rest
sasl_there o begins (simple v, rest, h) = absurd (field_front o v rest 128 h begins)
sasl_there o begins (sasl s, rest, h) = (s, rest, h)

pub bind_name : (o x : List ℕ) (z : ℤ) → HasInteger o 2 z x → (b : BindRequestValue) × IsBindRequest b o →
    (t r : List ℕ) × HasText x 4 t r
bind_name o x z p (v, h) = let s = step (integer_part 2) (integer_unique 2) _ z v.version o x p h
    in (v.name, s.next.rest, s.next.first)

pub bind_authentication : (o x y d : List ℕ) (z : ℤ) → HasInteger o 2 z x → HasText x 4 d y → (b : BindRequestValue)
    × IsBindRequest b o → (a : AuthenticationValue) × (r : List ℕ) × HasAuthentication a y r
bind_authentication o x y d z p q (v, h) =
    let s = step (integer_part 2) (integer_unique 2) _ z v.version o x p h in
    let t = step text_part (text_unique 4) _ d v.name x y q s.next in
    (v.authentication, t.next.rest, t.next.first)

pub bind_end : (o x y u d : List ℕ) (z : ℤ) (a : AuthenticationValue) → HasInteger o 2 z x → HasText x 4 d y →
    HasAuthentication a y u → (b : BindRequestValue) × IsBindRequest b o → AreElements u
bind_end o x y u d z a p q r (v, h) =
    let s = step (integer_part 2) (integer_unique 2) _ z v.version o x p h in
    let t = step text_part (text_unique 4) _ d v.name x y q s.next in
    (step HasAuthentication authentication_unique _ a v.authentication y u r t.next).next

-- ---- what is written

sasl_written : (s : SaslCredentialsValue) → IsUtf8 s.mechanism → IsShort (sasl_content s) →
    IsSaslCredentials s (sasl_content s)
sasl_written s utf8 small =
    let a = element_bytes 4 s.mechanism in
    let b = optional_bytes 4 s.credentials in
    let whole : a ++ (b ++ []) ≡ a ++ b = ap (λ (x : List ℕ). a ++ x) (append-nil b) in
    subst (IsSaslCredentials s) whole (record {
      rest = b ++ [];
      first = text s.mechanism (b ++ []) utf8 (inner 4 s.mechanism (left a b small));
      next = record {
        rest = [];
        first = octets_or_none 4 s.credentials [] (omega arith) (right a b small) tt;
        next =
            none;
      };
    })

authentication_written : (a : AuthenticationValue) (rest : List ℕ) → IsAuthenticationInRange a →
    IsShort (authentication_bytes a) → HasAuthentication a (authentication_bytes a ++ rest) rest
authentication_written (simple v) rest range small = field 128 v rest (omega arith) (inner 128 v small)
authentication_written (sasl s) rest range small =
    let content = inner 163 (sasl_content s) small in
    part (IsSaslCredentials s) 163 (sasl_content s) rest (omega arith) content (sasl_written s range content)

pub bind_written : (b : BindRequestValue) → IsBindInRange b → IsShort (bind_content b) →
    IsBindRequest b (bind_content b)
bind_written k range small =
    let a = element_bytes 2 (integer_octets k.version) in
    let b = element_bytes 4 k.name in
    let d = authentication_bytes k.authentication in
    let whole : a ++ (b ++ (d ++ [])) ≡ a ++ b ++ d = ap (λ (x : List ℕ). a ++ (b ++ x)) (append-nil d)
    ∙ sym (append_assoc a b d) in
    subst (IsBindRequest k) whole (record {
      rest = b ++ (d ++ []);
      first = integer 2 k.version (b ++ (d ++ [])) (omega arith) range.version;
      next = record {
        rest = d ++ [];
        first = text k.name (d ++ []) range.name (inner 4 k.name (right a b (left (a ++ b) d small)));
        next = record {
          rest = [];
          first = authentication_written k.authentication [] range.authentication
              (right (a ++ b) d small);
          next = none;
        };
      };
    })
