-- What a part lacks, the message lacks: at each exit of a reader, behind the parts that it read.
use Rattle.std.proofs.Common.{◌≡◌, ◌^◌, ℕ, List, [], sym, subst}
use Rattle.ldap_requests.specs.ldap_ber.declared.message_fault.MsgFault.{MsgFault}
use Rattle.ldap_requests.specs.ldap_ber.declared.message_fault.MsgFault.TheVariants.{TooLarge, NotAMessage, TooDeep, TooManyItems, NoMemory}
use Rattle.ldap_requests.specs.ldap_ber.Fields.{HasField, HasNumber}
use Rattle.ldap_requests.proofs.ldap_ber.Same.{step, same_field, number_unique}
use Rattle.ldap_parts.specs.Values.{ControlValue}
use Rattle.ldap_msg.specs.Messages.{OperationValue, MessageValue}
use Rattle.ldap_parts.specs.Grammar.{AreControls}
use Rattle.ldap_msg.specs.Grammar.{operation_octet, IsOperation, HasOperation, IsIdFor, IsMessageContent, IsMessage}
use Rattle.ldap_requests.specs.Limits.{FilterStandsAt, IsLimitFault}
use Rattle.ldap_msg.specs.Limits.{OperationHasFilterAt, ContentHasFilterAt, HasFilterAt, IsFault}
use Rattle.ldap_requests.proofs.ldap_ber.Parts.{number_part}
use Rattle.ldap_msg.proofs.Unique.{operation_unique}

pub operation_inside : (o content rest : List ℕ) (first : ℕ) → HasField o first content rest → (op : OperationValue)
    × (r : List ℕ) × HasOperation op o r → (op : OperationValue) × (operation_octet op ≡ first) × IsOperation op content
operation_inside o content rest first p (op, r, h) =
    let s = same_field o h.content content r rest (operation_octet op) first h.field p in
    (op, s.first, subst (IsOperation op) s.content h.inside)

pub operation_at : (o content rest : List ℕ) (first : ℕ) → HasField o first content rest → (place : List ℕ) →
    (first ≡ 99) × FilterStandsAt content place → OperationHasFilterAt o place
operation_at o content rest first p place (e, at) = record {
  content = content;
  rest = rest;
  field =
      subst (λ (f : ℕ). HasField o f content rest) e p;
  stands_at = at;
}

pub content_operation : (o x : List ℕ) (id : ℕ) → HasNumber o 2 (2 ^ 31) id x → (m : MessageValue)
    × IsMessageContent m o → (op : OperationValue) × (r : List ℕ) × HasOperation op x r
content_operation o x id p (m, h) = let s = step (number_part 2 (2 ^ 31)) (number_unique 2 (2 ^ 31)) _ id m.id o x p
    h.parts in (m.op, s.next.rest, s.next.first)

pub content_at : (o x : List ℕ) (id : ℕ) → HasNumber o 2 (2 ^ 31) id x → (place : List ℕ) →
    OperationHasFilterAt x place → ContentHasFilterAt o place
content_at o x id p place at = record { id = id; rest = x; id_field = p; operation = at }

pub content_behind : (o x y : List ℕ) (id : ℕ) (op : OperationValue) → HasNumber o 2 (2 ^ 31) id x →
    HasOperation op x y → (m : MessageValue) × IsMessageContent m o →
    IsIdFor op id × ((row : List ControlValue) × AreControls row y)
content_behind o x y id op p q (m, h) =
    let s = step (number_part 2 (2 ^ 31)) (number_unique 2 (2 ^ 31)) _ id m.id o x p h.parts in
    let t = step HasOperation operation_unique _ op m.op x y q s.next in (
      subst (λ (u : OperationValue). IsIdFor u id) (sym t.value) (subst (λ (n : ℕ). IsIdFor m.op n) (sym s.value)
          h.id_for),
      (m.controls, t.next),
    )

pub message_whole : (o content rest : List ℕ) → HasField o 48 content rest → (rest ≡ [] → ⊥) → (m : MessageValue)
    × IsMessage o m → ⊥
message_whole o content rest p some (m, h) = some (same_field o content h.content rest [] 48 48 p h.field).rest

pub message_inside : (o content rest : List ℕ) → HasField o 48 content rest → (m : MessageValue) × IsMessage o m →
    (m : MessageValue) × IsMessageContent m content
message_inside o content rest p (m, h) =
    (m, subst (IsMessageContent m) (sym (same_field o content h.content rest [] 48 48 p h.field).content) h.inside)

pub message_at : (o content rest : List ℕ) → HasField o 48 content rest → rest ≡ [] → (place : List ℕ) →
    ContentHasFilterAt content place → HasFilterAt o place
message_at o content rest p e place at = record {
  content = content;
  envelope = subst (HasField o 48 content) e p;
  inside = at;
}

-- a fault with limits is one of a message
pub whole_fault : (e : MsgFault) (o : List ℕ) → IsLimitFault e ((m : MessageValue) × IsMessage o m) (HasFilterAt o) →
    IsFault e o
whole_fault NotAMessage o fault = fault
whole_fault TooDeep o fault = fault
whole_fault TooManyItems o fault = fault
whole_fault NoMemory o fault = fault
whole_fault TooLarge o fault = absurd fault
