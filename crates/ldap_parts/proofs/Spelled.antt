-- What is written for values in their ranges is in the grammar.
use Rattle.std.proofs.Common.{◌≡◌, ◌^◌, ℕ, List, [], ◌++◌, sym, ap, subst, ◌∙◌, append_assoc, arith}
use Rattle.std.specs.Str.{IsUtf8}
use Rattle.std.proofs.lemmas.List.{append-nil}
use Rattle.ldap_ber.specs.Element.{element_bytes}
use Rattle.ldap_ber.specs.Fields.{HasPart, BeginsOtherwise}
use Rattle.ldap_ber.specs.Rows.{AreValues, none, row_bytes}
use Rattle.ldap_ber.proofs.Same.{text_part}
use Rattle.ldap_parts.specs.Values.{PartialAttributeValue, LdapResultValue, ControlValue}
use Rattle.ldap_parts.specs.Grammar.{IsPartialAttribute, HasPartialAttribute, HasLdapResult, IsLdapResult, IsControl, HasControl}
use Rattle.ldap_ber.specs.Written.{number_bytes, flag_or_false_bytes, optional_bytes, row_or_none_bytes}
use Rattle.ldap_parts.specs.Written.{attribute_content, attribute_bytes, result_content, control_content, control_bytes, IsResultInRange}
use Rattle.ldap_ber.proofs.Spelled.{IsShort, inner, left, right, text, number, small_number, part, values, optional_otherwise, row_or_none, octets_or_none, flag_or_false, regroup}

pub attribute_inside : (a : PartialAttributeValue) → IsUtf8 a.description → IsShort (attribute_content a) →
    IsPartialAttribute a (attribute_content a)
attribute_inside a utf8 content =
    let row = row_bytes (element_bytes 4) a.values in
    let row_short = inner 49 row (right (element_bytes 4 a.description) (element_bytes 49 row) content) in
    let ends = append-nil (element_bytes 49 row) in
    record {
      rest = element_bytes 49 row;
      first = text a.description (element_bytes 49 row) utf8
          (inner 4 a.description (left (element_bytes 4 a.description) (element_bytes 49 row) content));
      next = record {
        rest = [];
        first = subst (λ (o : List ℕ). HasPart (AreValues a.values) o 49 []) ends
            (part (AreValues a.values) 49 row [] (omega arith) row_short (values a.values row_short));
        next = none;
      };
    }

pub attribute : (a : PartialAttributeValue) (rest : List ℕ) → IsUtf8 a.description → IsShort (attribute_bytes a) →
    HasPartialAttribute a (attribute_bytes a ++ rest) rest
attribute a rest utf8 small =
    let content = inner 48 (attribute_content a) small in
    part (IsPartialAttribute a) 48 (attribute_content a) rest (omega arith) content (attribute_inside a utf8 content)

pub result : (r : LdapResultValue) (rest : List ℕ) → IsResultInRange r → IsShort (result_content r) →
    BeginsOtherwise rest 163 → HasLdapResult r (result_content r ++ rest) rest
result r rest range small otherwise =
    let a = number_bytes 10 r.code in
    let b = element_bytes 4 r.matched_dn in
    let d = element_bytes 4 r.diagnostic_message in
    let e = row_or_none_bytes (element_bytes 4) 163 r.referral in
    let abd = left (a ++ b ++ d) e small in
    let b_short = inner 4 r.matched_dn (right a b (left (a ++ b) d abd)) in
    let d_short = inner 4 r.diagnostic_message (right (a ++ b) d abd) in
    subst (λ (o : List ℕ). HasLdapResult r o rest) (sym (regroup a b d e rest)) (record {
      rest = e ++ rest;
      first = record {
        rest = b ++ (d ++ (e ++ rest));
        first = number 10 (2 ^ 31) r.code (b ++ (d ++ (e ++ rest))) (omega arith) range.code
            (small_number r.code range.code);
        next = record {
          rest = d ++ (e ++ rest);
          first = text r.matched_dn (d ++ (e ++ rest)) range.matched_dn
              b_short;
          next = text r.diagnostic_message (e ++ rest) range.diagnostic_message d_short;
        };
      };
      next = row_or_none text_part (element_bytes 4) IsUtf8 (λ t rest utf8 small. text t rest utf8 (inner 4 t small))
          163 r.referral rest (omega arith) range.referral (right (a ++ b ++ d) e small) otherwise;
    })

pub plain : (r : LdapResultValue) → IsResultInRange r → IsShort (result_content r) → IsLdapResult r (result_content r)
plain r range small = record {
  rest = [];
  first = subst (λ (o : List ℕ). HasLdapResult r o [])
      (append-nil (result_content r)) (result r [] range small tt);
  next = none;
}

pub control : (c : ControlValue) (rest : List ℕ) → IsUtf8 c.control_type → IsShort (control_bytes c) →
    HasControl c (control_bytes c ++ rest) rest
control k rest utf8 small =
    let content = inner 48 (control_content k) small in
    let a = element_bytes 4 k.control_type in
    let b = flag_or_false_bytes 1 k.criticality in
    let d = optional_bytes 4 k.value in
    let otherwise : BeginsOtherwise (d ++ []) 1 = optional_otherwise 4 1 k.value [] (λ e. omega arith) tt in
    let whole : a ++ (b ++ (d ++ [])) ≡ a ++ b ++ d = ap (λ (x : List ℕ). a ++ (b ++ x)) (append-nil d)
    ∙ sym (append_assoc a b d) in
    part (IsControl k) 48 (control_content k) rest (omega arith) content (subst (IsControl k) whole (record {
      rest = b ++ (d ++ []);
      first = text k.control_type (b ++ (d ++ [])) utf8 (inner 4 k.control_type (left a b (left (a ++ b) d content)));
      next = record {
        rest = d ++ [];
        first = flag_or_false 1 k.criticality (d ++ []) (omega arith) otherwise;
        next = record {
          rest = [];
          first = octets_or_none 4 k.value [] (omega arith) (right (a ++ b) d content) tt;
          next = none;
        };
      };
    }))
