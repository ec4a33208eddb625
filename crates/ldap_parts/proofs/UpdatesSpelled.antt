-- What is written for values in their ranges is in the grammar.
use Rattle.std.proofs.Common.{ℕ, List, [], ◌++◌, subst, arith}
use Rattle.std.specs.Str.{IsUtf8}
use Rattle.std.proofs.lemmas.List.{append-nil}
use Rattle.ldap_ber.specs.Element.{element_bytes}
use Rattle.ldap_ber.specs.Fields.{HasPart}
use Rattle.ldap_ber.specs.Rows.{AreRow, none, row_bytes}
use Rattle.ldap_ber.proofs.Spelled.{IsShort, inner, left, right, text, part, rows}
use Rattle.ldap_parts.specs.Values.{PartialAttributeValue}
use Rattle.ldap_parts.specs.Written.{attribute_content, attribute_bytes}
use Rattle.ldap_parts.proofs.Spelled.{attribute_inside}
use Rattle.ldap_parts.specs.UpdateValues.{AddRequestValue}
use Rattle.ldap_parts.specs.UpdateGrammar.{HasAValue, IsAttribute, HasAttribute, IsAddRequest}
use Rattle.ldap_parts.specs.UpdatesWritten.{add_content, IsAddInRange}

-- ---- adds

full_attribute : (a : PartialAttributeValue) (rest : List ℕ) → IsUtf8 a.description × HasAValue a →
    IsShort (attribute_bytes a) → HasAttribute a (attribute_bytes a ++ rest) rest
full_attribute a rest h small =
    let content = inner 48 (attribute_content a) small in
    part (IsAttribute a) 48 (attribute_content a) rest (omega arith) content (attribute_inside a h.0 content, h.1)

pub add : (a : AddRequestValue) → IsAddInRange a → IsShort (add_content a) → IsAddRequest a (add_content a)
add a range small =
    let row = row_bytes attribute_bytes a.attributes in
    let row_short = inner 48 row (right (element_bytes 4 a.entry) (element_bytes 48 row) small) in
    let ends = append-nil (element_bytes 48 row) in
    let In : List ℕ → Type 0 = AreRow HasAttribute a.attributes in
    record {
      rest = element_bytes 48 row;
      first = text a.entry (element_bytes 48 row) range.entry
          (inner 4 a.entry (left (element_bytes 4 a.entry) (element_bytes 48 row) small));
      next = record {
        rest = [];
        first = subst (λ (o : List ℕ). HasPart In o 48 []) ends
            (part In 48 row [] (omega arith) row_short (rows HasAttribute attribute_bytes (λ x. IsUtf8 x.description
            × HasAValue x) full_attribute a.attributes range.attributes row_short));
        next = none;
      };
    }
