-- Each part of a message has one value at the front of octets, and one rest.
use Rattle.std.proofs.Common.{◌≡◌, ◌^◌, ℕ, List, ◌++◌, sym, ap, subst, ◌∙◌}
use Rattle.std.proofs.lemmas.List.{append-nil, append_cancel_right}
use Rattle.ldap_requests.specs.ldap_ber.Fields.{HasPart}
use Rattle.ldap_requests.proofs.ldap_ber.Same.{IsUnique, step, same_field, number_unique}
use Rattle.ldap_requests.proofs.ldap_ber.RowLemmas.{IsOneValue, part_unique}
use Rattle.ldap_parts.specs.Values.{ControlValue}
use Rattle.ldap_msg.specs.Messages.{OperationValue, MessageValue}
use Rattle.ldap_msg.specs.Grammar.{operation_octet, IsOperation, HasOperation, IsMessageContent, IsMessage}
use Rattle.ldap_requests.proofs.ldap_ber.Parts.{number_part}
use Rattle.ldap_parts.proofs.Unique.{controls_one}
use Rattle.ldap_msg.proofs.Choices.{operation_same}

pub operation_unique : IsUnique HasOperation
operation_unique v w o x y p q =
    let s = same_field o p.content q.content x y (operation_octet v) (operation_octet w) p.field q.field in
    record {
      value = operation_same v w q.content s.first (subst (IsOperation v) s.content p.inside) q.inside;
      rest =
          s.rest;
    }

message_same : (v w : MessageValue) → v.id ≡ w.id → v.op ≡ w.op → v.controls ≡ w.controls → v ≡ w
message_same v w e0 e1 e2 =
    ap (λ (x : ℕ). let r : MessageValue = record { id = x; op = v.op; controls = v.controls } in r) e0
    ∙ ap (λ (x : OperationValue). let r : MessageValue = record { id = w.id; op = x; controls = v.controls } in r) e1
    ∙ ap (λ (x : List ControlValue). let r : MessageValue = record { id = w.id; op = w.op; controls = x } in r) e2

pub content_one : IsOneValue IsMessageContent
content_one v w o p q =
    let s = step (number_part 2 (2 ^ 31)) (number_unique 2 (2 ^ 31)) _ v.id w.id o p.parts.rest p.parts.first q.parts in
    let t = step HasOperation operation_unique _ v.op w.op p.parts.rest p.parts.next.rest p.parts.next.first s.next in
    message_same v w s.value t.value (controls_one v.controls w.controls p.parts.next.rest p.parts.next.next t.next)

behind_message : (a x : List ℕ) (m : MessageValue) → IsMessage a m → HasPart (IsMessageContent m) (a ++ x) 48 x
behind_message a x m p = record {
  content = p.content;
  field = record {
    spelling = p.field.spelling;
    is_element = p.field.is_element;
    parts = ap (λ (z : List ℕ). z ++ x) (p.field.parts ∙ append-nil p.field.spelling);
  };
  inside = p.inside;
}

pub one : (m n : MessageValue) (a b x y : List ℕ) → IsMessage a m → IsMessage b n → a ++ x ≡ b ++ y → (a ≡ b) × (m ≡ n)
one m n a b x y p q e =
    let s = part_unique IsMessageContent content_one 48 m n (b ++ y) x y
    (subst (λ (z : List ℕ). HasPart (IsMessageContent m) z 48 x) e (behind_message a x m p))
    (behind_message b y n q) in
    (append_cancel_right a b y (ap (λ (r : List ℕ). a ++ r) (sym s.rest) ∙ e), s.value)
