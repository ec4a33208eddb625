-- A modify has one value at the front of octets; what a part lacks, the modify lacks; what is written is one.
use Rattle.std.proofs.Common.{◌≡◌, ◌^◌, ◌<◌, ℕ, zero, suc, List, [], ◌++◌, refl, sym, ap, subst, ◌∙◌, arith}
use Rattle.std.specs.Str.{IsUtf8}
use Rattle.std.proofs.lemmas.List.{append-nil}
use Rattle.ldap_ber.specs.Element.{element_bytes}
use Rattle.ldap_ber.specs.Fields.{HasText, HasNumber, HasPart}
use Rattle.ldap_ber.specs.Rows.{AreRow, AreElements, none, row_bytes}
use Rattle.ldap_ber.specs.Written.{number_bytes}
use Rattle.ldap_ber.proofs.Same.{IsUnique, IsSome, step, number_unique, text_part, text_unique}
use Rattle.ldap_ber.proofs.RowLemmas.{IsOneValue, part_unique, part_some, row_unique}
use Rattle.ldap_ber.proofs.Parts.{number_part}
use Rattle.ldap_ber.proofs.Spelled.{IsShort, inner, left, right, text, number, part, rows}
use Rattle.ldap_parts.specs.Values.{PartialAttributeValue}
use Rattle.ldap_parts.specs.Grammar.{HasPartialAttribute}
use Rattle.ldap_parts.specs.Written.{attribute_bytes}
use Rattle.ldap_parts.proofs.Unique.{attribute_unique}
use Rattle.ldap_parts.proofs.Spelled.{attribute}
use Rattle.ldap_parts.specs.UpdateValues.{ChangeValue, ModifyRequestValue}
use Rattle.ldap_parts.specs.UpdateGrammar.{modify_number, IsChange, HasChange, IsModifyRequest}
use Rattle.ldap_parts.specs.UpdatesWritten.{change_content, change_bytes, modify_content, IsModifyInRange}
use Rattle.ldap_parts.specs.declared.modify.ModifyOperation.{ModifyOperation}
use Rattle.ldap_parts.specs.declared.modify.ModifyOperation.TheVariants.{Add, Delete, Replace, Increment}

-- ---- one value

abbrev operation_at : ℕ → ModifyOperation
operation_at zero = Add
operation_at (suc zero) = Delete
operation_at (suc (suc zero)) = Replace
operation_at (suc (suc (suc n))) = Increment

operation_back : (k : ModifyOperation) → operation_at (modify_number k) ≡ k
operation_back Add = refl
operation_back Delete = refl
operation_back Replace = refl
operation_back Increment = refl

operation_same : (v w : ModifyOperation) → modify_number v ≡ modify_number w → v ≡ w
operation_same v w e = sym (operation_back v) ∙ ap operation_at e ∙ operation_back w

change_same : (v w : ChangeValue) → v.operation ≡ w.operation → v.modification ≡ w.modification → v ≡ w
change_same v w e0 e1 =
    ap (λ (x : ModifyOperation). let r : ChangeValue = record { operation = x; modification = v.modification } in r) e0
    ∙ ap (λ (x : PartialAttributeValue). let r : ChangeValue = record { operation = w.operation; modification = x }
    in r) e1

change_one : IsOneValue IsChange
change_one v w o p q =
    let s = step (number_part 10 4) (number_unique 10 4) _ (modify_number v.operation) (modify_number w.operation) o
    p.rest p.first q in
    let t = step HasPartialAttribute attribute_unique _ v.modification w.modification p.rest p.next.rest p.next.first
    s.next in
    change_same v w (operation_same v.operation w.operation s.value) t.value

pub change_unique : IsUnique HasChange
change_unique = part_unique IsChange change_one 48

pub change_some : IsSome HasChange
change_some v o x p = part_some (IsChange v) 48 o x p

abbrev changes_part : List ChangeValue → List ℕ → List ℕ → Type 0
changes_part vs octets rest = HasPart (AreRow HasChange vs) octets 48 rest

changes_unique : IsUnique changes_part
changes_unique = part_unique (AreRow HasChange) (row_unique HasChange change_unique change_some) 48

modify_same : (v w : ModifyRequestValue) → v.object ≡ w.object → v.changes ≡ w.changes → v ≡ w
modify_same v w e0 e1 =
    ap (λ (x : List ℕ). let r : ModifyRequestValue = record { object = x; changes = v.changes } in r) e0
    ∙ ap (λ (x : List ChangeValue). let r : ModifyRequestValue = record { object = w.object; changes = x } in r) e1

pub modify_one : IsOneValue IsModifyRequest
modify_one v w o p q =
    let s = step text_part (text_unique 4) _ v.object w.object o p.rest p.first q in
    let t = step changes_part changes_unique _ v.changes w.changes p.rest p.next.rest p.next.first s.next in
    modify_same v w s.value t.value

-- ---- exits of readers

pub change_modification : (o x : List ℕ) (n : ℕ) → HasNumber o 10 4 n x → (k : ChangeValue) × IsChange k o →
    (a : PartialAttributeValue) × (rest : List ℕ) × HasPartialAttribute a x rest
change_modification o x n p (v, h) = let s = step (number_part 10 4) (number_unique 10 4) _ n
    (modify_number v.operation) o x p h in (v.modification, s.next.rest, s.next.first)

pub change_end : (o x y : List ℕ) (n : ℕ) (a : PartialAttributeValue) → HasNumber o 10 4 n x →
    HasPartialAttribute a x y → (k : ChangeValue) × IsChange k o → AreElements y
change_end o x y n a p q (v, h) =
    let s = step (number_part 10 4) (number_unique 10 4) _ n (modify_number v.operation) o x p h in
    (step HasPartialAttribute attribute_unique _ a v.modification x y q s.next).next

pub modify_changes : (o x d : List ℕ) → HasText o 4 d x → (m : ModifyRequestValue) × IsModifyRequest m o →
    (row : List ChangeValue) × (r : List ℕ) × HasPart (AreRow HasChange row) x 48 r
modify_changes o x d p (v, h) = let s = step text_part (text_unique 4) _ d v.object o x p h
    in (v.changes, s.next.rest, s.next.first)

pub modify_end : (o x y d : List ℕ) (vs : List ChangeValue) → HasText o 4 d x → HasPart (AreRow HasChange vs) x 48 y →
    (m : ModifyRequestValue) × IsModifyRequest m o → AreElements y
modify_end o x y d vs p q (v, h) =
    let s = step text_part (text_unique 4) _ d v.object o x p h in
    (step changes_part changes_unique _ vs v.changes x y q s.next).next

-- ---- what is written

operation_below : (k : ModifyOperation) → modify_number k < 4
operation_below Add = omega arith
operation_below Delete = omega arith
operation_below Replace = omega arith
operation_below Increment = omega arith

below_four : (n : ℕ) → n < 4 → n < 2 ^ 63
below_four n lt = omega arith

change_written : (k : ChangeValue) (rest : List ℕ) → IsUtf8 k.modification.description → IsShort (change_bytes k) →
    HasChange k (change_bytes k ++ rest) rest
change_written k rest utf8 small =
    let a = number_bytes 10 (modify_number k.operation) in
    let b = attribute_bytes k.modification in
    let content = inner 48 (change_content k) small in
    let below = operation_below k.operation in
    let whole : a ++ (b ++ []) ≡ a ++ b = ap (λ (x : List ℕ). a ++ x) (append-nil b) in
    part (IsChange k) 48 (change_content k) rest (omega arith) content (subst (IsChange k) whole (record {
      rest = b ++ [];
      first = number 10 4 (modify_number k.operation) (b ++ []) (omega arith) below
          (below_four (modify_number k.operation) below);
      next = record { rest = []; first = attribute k.modification [] utf8 (right a b content); next = none };
    }))

pub modify_written : (m : ModifyRequestValue) → IsModifyInRange m → IsShort (modify_content m) →
    IsModifyRequest m (modify_content m)
modify_written m range small =
    let row = row_bytes change_bytes m.changes in
    let row_short = inner 48 row (right (element_bytes 4 m.object) (element_bytes 48 row) small) in
    let ends = append-nil (element_bytes 48 row) in
    let In : List ℕ → Type 0 = AreRow HasChange m.changes in
    record {
      rest = element_bytes 48 row;
      first = text m.object (element_bytes 48 row) range.object
          (inner 4 m.object (left (element_bytes 4 m.object) (element_bytes 48 row) small));
      next = record {
        rest = [];
        first = subst (λ (o : List ℕ). HasPart In o 48 []) ends
            (part In 48 row [] (omega arith) row_short
            (rows HasChange change_bytes (λ k. IsUtf8 k.modification.description) change_written m.changes range.changes
            row_short));
        next = none;
      };
    }
