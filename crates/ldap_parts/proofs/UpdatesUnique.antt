-- Each part has one value at the front of octets, and one rest.
use Rattle.std.proofs.Common.{◌≡◌, ℕ, List, ap, ◌∙◌}
use Rattle.ldap_ber.specs.Fields.{HasPart}
use Rattle.ldap_ber.specs.Rows.{AreRow}
use Rattle.ldap_ber.proofs.Same.{IsUnique, IsSome, step, text_part, text_unique}
use Rattle.ldap_ber.proofs.RowLemmas.{IsOneValue, part_unique, part_some, row_unique}
use Rattle.ldap_parts.specs.Values.{PartialAttributeValue}
use Rattle.ldap_parts.proofs.Unique.{attribute_one}
use Rattle.ldap_parts.specs.UpdateValues.{AddRequestValue}
use Rattle.ldap_parts.specs.UpdateGrammar.{IsAttribute, HasAttribute, IsAddRequest}

-- ---- adds

full_one : IsOneValue IsAttribute
full_one v w o p q = attribute_one v w o p.0 q.0

pub full_unique : IsUnique HasAttribute
full_unique = part_unique IsAttribute full_one 48

pub full_some : IsSome HasAttribute
full_some v o x p = part_some (IsAttribute v) 48 o x p

abbrev pub full_part : List PartialAttributeValue → List ℕ → List ℕ → Type 0
full_part vs octets rest = HasPart (AreRow HasAttribute vs) octets 48 rest

pub full_part_unique : IsUnique full_part
full_part_unique = part_unique (AreRow HasAttribute) (row_unique HasAttribute full_unique full_some) 48

add_same : (v w : AddRequestValue) → v.entry ≡ w.entry → v.attributes ≡ w.attributes → v ≡ w
add_same v w e0 e1 =
    ap (λ (x : List ℕ). let r : AddRequestValue = record { entry = x; attributes = v.attributes } in r) e0
    ∙ ap (λ (x : List PartialAttributeValue). let r : AddRequestValue = record { entry = w.entry; attributes = x }
    in r) e1

pub add_one : IsOneValue IsAddRequest
add_one v w o p q =
    let s = step text_part (text_unique 4) _ v.entry w.entry o p.rest p.first q in
    let t = step full_part full_part_unique _ v.attributes w.attributes p.rest p.next.rest p.next.first s.next in
    add_same v w s.value t.value
