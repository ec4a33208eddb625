-- An extended request and an abandon have one value; what a part lacks, the request lacks; what is written is one.
use Rattle.std.proofs.Common.{◌≡◌, ℕ, Option, List, [], ◌++◌, ap, subst, ◌∙◌, arith}
use Rattle.std.specs.Prelude.{ℤ}
use Rattle.std.proofs.lemmas.List.{append-nil}
use Rattle.ldap_filter.specs.ldap_ber.Element.{element_bytes}
use Rattle.ldap_filter.specs.ldap_ber.Values.{integer_octets, IsLong}
use Rattle.ldap_filter.proofs.ldap_ber.Digits.{is_content}
use Rattle.ldap_filter.specs.ldap_ber.Fields.{HasText, HasOctetsOrNone}
use Rattle.ldap_filter.specs.ldap_ber.Rows.{AreElements, none}
use Rattle.ldap_filter.specs.ldap_ber.Written.{optional_bytes}
use Rattle.ldap_filter.proofs.ldap_ber.Same.{step, text_unique, octets_or_none_unique, integer_one}
use Rattle.ldap_filter.proofs.ldap_ber.RowLemmas.{IsOneValue}
use Rattle.ldap_filter.proofs.ldap_ber.Parts.{tagged_text_part, octets_or_none_part}
use Rattle.ldap_filter.proofs.ldap_ber.Spelled.{IsShort, inner, left, right, tagged_text, octets_or_none}
use Rattle.ldap_requests.specs.Values.{ExtendedRequestValue}
use Rattle.ldap_requests.specs.Grammar.{IsExtendedRequest, IsAbandonRequest}
use Rattle.ldap_requests.specs.Written.{extended_request_content, IsExtendedRequestInRange}

-- ---- extended requests

extended_same : (v w : ExtendedRequestValue) → v.request_name ≡ w.request_name → v.request_value ≡ w.request_value →
    v ≡ w
extended_same v w e0 e1 =
    ap (λ (x : List ℕ). let r : ExtendedRequestValue = record { request_name = x; request_value = v.request_value }
    in r) e0
    ∙ ap (λ (x : Option (List ℕ)). let r : ExtendedRequestValue =
    record { request_name = w.request_name; request_value = x } in r) e1

pub extended_request_one : IsOneValue IsExtendedRequest
extended_request_one v w o p q =
    let s = step (tagged_text_part 128) (text_unique 128) _ v.request_name w.request_name o p.rest p.first q in
    let t = step (octets_or_none_part 129) (octets_or_none_unique 129) _ v.request_value w.request_value p.rest
    p.next.rest p.next.first s.next in
    extended_same v w s.value t.value

pub extended_value : (o x d : List ℕ) → HasText o 128 d x → (r : ExtendedRequestValue) × IsExtendedRequest r o →
    (u : Option (List ℕ)) × (rest : List ℕ) × HasOctetsOrNone x 129 u rest
extended_value o x d p (v, h) = let s = step (tagged_text_part 128) (text_unique 128) _ d v.request_name o x p h
    in (v.request_value, s.next.rest, s.next.first)

pub extended_end : (o x y d : List ℕ) (u : Option (List ℕ)) → HasText o 128 d x → HasOctetsOrNone x 129 u y →
    (r : ExtendedRequestValue) × IsExtendedRequest r o → AreElements y
extended_end o x y d u p q (v, h) =
    let s = step (tagged_text_part 128) (text_unique 128) _ d v.request_name o x p h in
    (step (octets_or_none_part 129) (octets_or_none_unique 129) _ u v.request_value x y q s.next).next

pub extended_request_written : (r : ExtendedRequestValue) → IsExtendedRequestInRange r →
    IsShort (extended_request_content r) → IsExtendedRequest r (extended_request_content r)
extended_request_written r range small =
    let a = element_bytes 128 r.request_name in
    let b = optional_bytes 129 r.request_value in
    let whole : a ++ (b ++ []) ≡ a ++ b = ap (λ (x : List ℕ). a ++ x) (append-nil b) in
    subst (IsExtendedRequest r) whole (record {
      rest = b ++ [];
      first = tagged_text 128 r.request_name (b ++ []) (omega arith) range (inner 128 r.request_name (left a b small));
      next = record {
        rest = [];
        first = octets_or_none 129 r.request_value [] (omega arith) (right a b small) tt;
        next = none;
      };
    })

-- ---- abandons

pub abandon_one : IsOneValue IsAbandonRequest
abandon_one v w o p q = integer_one v w o p q

pub abandon_written : (z : ℤ) → IsLong z → IsShort (integer_octets z) → IsAbandonRequest z (integer_octets z)
abandon_written z long small = is_content z long
