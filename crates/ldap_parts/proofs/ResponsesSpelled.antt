-- What is written for values in their ranges is in the grammar.
use Rattle.std.proofs.Common.{◌≡◌, ℕ, List, [], ◌++◌, sym, ap, subst, ◌∙◌, append_assoc, arith}
use Rattle.std.specs.Str.{IsUtf8}
use Rattle.std.proofs.lemmas.List.{append-nil}
use Rattle.ldap_ber.specs.Element.{element_bytes}
use Rattle.ldap_ber.specs.Fields.{HasPart, BeginsOtherwise}
use Rattle.ldap_ber.specs.Rows.{AreRow, none, row_bytes}
use Rattle.ldap_parts.specs.ResponseValues.{SearchResultEntryValue, ExtendedResponseValue}
use Rattle.ldap_parts.specs.Grammar.{HasPartialAttribute}
use Rattle.ldap_parts.specs.ResponseGrammar.{IsSearchResultEntry, IsExtendedResponse}
use Rattle.ldap_ber.specs.Written.{optional_bytes}
use Rattle.ldap_parts.specs.Written.{attribute_bytes, result_content}
use Rattle.ldap_parts.specs.ResponsesWritten.{entry_content, extended_content, IsEntryInRange, IsExtendedInRange}
use Rattle.ldap_ber.proofs.Spelled.{IsShort, inner, left, right, text, part, rows, optional_otherwise, text_or_none, octets_or_none}
use Rattle.ldap_parts.proofs.Spelled.{attribute, result}

pub entry : (e : SearchResultEntryValue) → IsEntryInRange e → IsShort (entry_content e) →
    IsSearchResultEntry e (entry_content e)
entry e range small =
    let row = row_bytes attribute_bytes e.attributes in
    let row_short = inner 48 row (right (element_bytes 4 e.object_name) (element_bytes 48 row) small) in
    let ends = append-nil (element_bytes 48 row) in
    let In : List ℕ → Type 0 = AreRow HasPartialAttribute e.attributes in
    record {
      rest = element_bytes 48 row;
      first = text e.object_name (element_bytes 48 row) range.0
          (inner 4 e.object_name (left (element_bytes 4 e.object_name) (element_bytes 48 row) small));
      next = record {
        rest = [];
        first = subst (λ (o : List ℕ). HasPart In o 48 []) ends
            (part In 48 row [] (omega arith) row_short (rows HasPartialAttribute attribute_bytes
            (λ a. IsUtf8 a.description) attribute e.attributes range.1 row_short));
        next = none;
      };
    }

pub extended_response : (r : ExtendedResponseValue) → IsExtendedInRange r → IsShort (extended_content r) →
    IsExtendedResponse r (extended_content r)
extended_response r range small =
    let a = result_content r.result in
    let b = optional_bytes 138 r.response_name in
    let d = optional_bytes 139 r.response_value in
    let ab = left (a ++ b) d small in
    let ends : d ++ [] ≡ d = append-nil d in
    let otherwise : BeginsOtherwise (d ++ []) 163 = optional_otherwise 139 163 r.response_value [] (λ e. omega arith)
    tt in
    let name_otherwise : BeginsOtherwise (d ++ []) 138 = optional_otherwise 139 138 r.response_value []
    (λ e. omega arith) tt in
    let both : BeginsOtherwise (b ++ (d ++ [])) 163 = optional_otherwise 138 163 r.response_name (d ++ [])
    (λ e. omega arith) otherwise in
    let whole : a ++ (b ++ (d ++ [])) ≡ a ++ b ++ d = ap (λ (x : List ℕ). a ++ (b ++ x)) ends
    ∙ sym (append_assoc a b d) in
    subst (IsExtendedResponse r) whole (record {
      rest = b ++ (d ++ []);
      first = result r.result (b ++ (d ++ [])) range.0 (left a b ab) both;
      next = record {
        rest = d ++ [];
        first = text_or_none 138 r.response_name (d ++ []) (omega arith) range.1 (right a b ab) name_otherwise;
        next = record {
          rest = [];
          first = octets_or_none 139 r.response_value [] (omega arith)
              (right (a ++ b) d small) tt;
          next = none;
        };
      };
    })
