-- Each part has one value at the front of octets, and one rest.
use Rattle.std.proofs.Common.{◌≡◌, ℕ, Option, List, ap, ◌∙◌}
use Rattle.ldap_ber.proofs.Same.{step, text_part, text_unique, text_or_none_unique, octets_or_none_unique}
use Rattle.ldap_ber.proofs.RowLemmas.{IsOneValue}
use Rattle.ldap_parts.specs.Values.{PartialAttributeValue, LdapResultValue}
use Rattle.ldap_parts.specs.ResponseValues.{SearchResultEntryValue, ExtendedResponseValue}
use Rattle.ldap_parts.specs.Grammar.{HasLdapResult}
use Rattle.ldap_parts.specs.ResponseGrammar.{IsSearchResultEntry, IsExtendedResponse}
use Rattle.ldap_ber.proofs.Parts.{text_or_none_part, octets_or_none_part}
use Rattle.ldap_parts.proofs.Unique.{attributes_part, attributes_unique, result_unique}

entry_same : (v w : SearchResultEntryValue) → v.object_name ≡ w.object_name → v.attributes ≡ w.attributes → v ≡ w
entry_same v w e0 e1 =
    ap (λ (x : List ℕ). let r : SearchResultEntryValue = record { object_name = x; attributes = v.attributes } in r) e0
    ∙ ap (λ (x : List PartialAttributeValue). let r : SearchResultEntryValue =
    record { object_name = w.object_name; attributes = x } in r) e1

pub entry_one : IsOneValue IsSearchResultEntry
entry_one v w o p q =
    let s = step text_part (text_unique 4) _ v.object_name w.object_name o p.rest p.first q in
    let t = step attributes_part attributes_unique _ v.attributes w.attributes p.rest p.next.rest p.next.first s.next in
    entry_same v w s.value t.value

extended_same : (v w : ExtendedResponseValue) → v.result ≡ w.result → v.response_name ≡ w.response_name →
    v.response_value ≡ w.response_value → v ≡ w
extended_same v w e0 e1 e2 =
    ap (λ (x : LdapResultValue). let r : ExtendedResponseValue = record {
      result = x;
      response_name = v.response_name;
      response_value = v.response_value;
    } in r) e0
    ∙ ap (λ (x : Option (List ℕ)). let r : ExtendedResponseValue = record {
      result = w.result;
      response_name =
          x;
      response_value = v.response_value;
    } in r) e1
    ∙ ap (λ (x : Option (List ℕ)). let r : ExtendedResponseValue = record {
      result = w.result;
      response_name =
          w.response_name;
      response_value = x;
    } in r) e2

pub extended_one : IsOneValue IsExtendedResponse
extended_one v w o p q =
    let s = step HasLdapResult result_unique _ v.result w.result o p.rest p.first q in
    let t = step (text_or_none_part 138) (text_or_none_unique 138) _ v.response_name w.response_name p.rest
    p.next.rest p.next.first s.next in
    let u = step (octets_or_none_part 139) (octets_or_none_unique 139) _ v.response_value w.response_value p.next.rest
    p.next.next.rest p.next.next.first t.next in
    extended_same v w s.value t.value u.value
