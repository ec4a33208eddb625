-- Each part has one value at the front of octets, and one rest.
use Rattle.std.proofs.Common.{◌≡◌, ◌^◌, ℕ, Bool, Option, List, ap, ap₂, ◌∙◌}
use Rattle.ldap_ber.specs.Fields.{HasPart}
use Rattle.ldap_ber.specs.Rows.{AreRow, HasRowOrNone}
use Rattle.ldap_ber.proofs.Same.{IsUnique, IsSome, step, text_part, text_unique, number_unique, flag_or_false_unique, octets_or_none_unique}
use Rattle.ldap_ber.proofs.RowLemmas.{IsOneValue, part_unique, part_some, row_unique, row_or_none_unique, texts_or_none_unique}
use Rattle.ldap_parts.specs.Values.{PartialAttributeValue, LdapResultValue, ControlValue}
use Rattle.ldap_parts.specs.Grammar.{IsPartialAttribute, HasPartialAttribute, IsOutcome, HasLdapResult, IsLdapResult, IsControl, HasControl, AreControls}
use Rattle.ldap_ber.proofs.Parts.{number_part, flag_or_false_part, octets_or_none_part, values_part, values_part_unique}

attribute_same : (v w : PartialAttributeValue) → v.description ≡ w.description → v.values ≡ w.values → v ≡ w
attribute_same v w d vs =
    let make : List ℕ → List (List ℕ) → PartialAttributeValue = λ d vs. record { description = d; values = vs } in
    ap₂ make d vs

pub attribute_one : IsOneValue IsPartialAttribute
attribute_one v w o p q =
    let s = step text_part (text_unique 4) _ v.description w.description o p.rest p.first q in
    let t = step (values_part 49) (values_part_unique 49) _ v.values w.values p.rest p.next.rest p.next.first s.next in
    attribute_same v w s.value t.value

pub attribute_unique : IsUnique HasPartialAttribute
attribute_unique = part_unique IsPartialAttribute attribute_one 48

pub attribute_some : IsSome HasPartialAttribute
attribute_some v o x p = part_some (IsPartialAttribute v) 48 o x p

pub attributes_one : IsOneValue (AreRow HasPartialAttribute)
attributes_one = row_unique HasPartialAttribute attribute_unique attribute_some

abbrev pub attributes_part : List PartialAttributeValue → List ℕ → List ℕ → Type 0
attributes_part vs octets rest = HasPart (AreRow HasPartialAttribute vs) octets 48 rest

pub attributes_unique : IsUnique attributes_part
attributes_unique = part_unique (AreRow HasPartialAttribute) attributes_one 48

-- a code and two texts
pub record Outcome : Type 0 where
  pub code : ℕ
  pub matched_dn : List ℕ
  pub diagnostic_message : List ℕ

abbrev pub outcome_part : Outcome → List ℕ → List ℕ → Type 0
outcome_part v octets rest = IsOutcome v.code v.matched_dn v.diagnostic_message octets rest

outcome_same : (v w : Outcome) → v.code ≡ w.code → v.matched_dn ≡ w.matched_dn → v.diagnostic_message ≡
    w.diagnostic_message → v ≡ w
outcome_same v w e0 e1 e2 =
    ap (λ (x : ℕ). let r : Outcome = record {
      code = x;
      matched_dn = v.matched_dn;
      diagnostic_message =
          v.diagnostic_message;
    } in r) e0
    ∙ ap (λ (x : List ℕ). let r : Outcome = record {
      code = w.code;
      matched_dn = x;
      diagnostic_message =
          v.diagnostic_message;
    } in r) e1
    ∙ ap (λ (x : List ℕ). let r : Outcome = record {
      code = w.code;
      matched_dn = w.matched_dn;
      diagnostic_message =
          x;
    } in r) e2

pub outcome_unique : IsUnique outcome_part
outcome_unique v w o x y p q =
    let s = step (number_part 10 (2 ^ 31)) (number_unique 10 (2 ^ 31)) _ v.code w.code o p.rest p.first q in
    let t = step text_part (text_unique 4) _ v.matched_dn w.matched_dn p.rest p.next.rest p.next.first s.next in
    let u = text_unique 4 v.diagnostic_message w.diagnostic_message p.next.rest x y p.next.next t.next in
    record { value = outcome_same v w s.value t.value u.value; rest = u.rest }

abbrev pub outcome_of : LdapResultValue → Outcome
outcome_of r = record { code = r.code; matched_dn = r.matched_dn; diagnostic_message = r.diagnostic_message }

result_same : (v w : LdapResultValue) → v.code ≡ w.code → v.matched_dn ≡ w.matched_dn → v.diagnostic_message ≡
    w.diagnostic_message → v.referral ≡ w.referral → v ≡ w
result_same v w e0 e1 e2 e3 =
    ap (λ (x : ℕ). let r : LdapResultValue = record {
      code = x;
      matched_dn = v.matched_dn;
      diagnostic_message =
          v.diagnostic_message;
      referral = v.referral;
    } in r) e0
    ∙ ap (λ (x : List ℕ). let r : LdapResultValue = record {
      code = w.code;
      matched_dn = x;
      diagnostic_message =
          v.diagnostic_message;
      referral = v.referral;
    } in r) e1
    ∙ ap (λ (x : List ℕ). let r : LdapResultValue = record {
      code = w.code;
      matched_dn = w.matched_dn;
      diagnostic_message = x;
      referral = v.referral;
    } in r) e2
    ∙ ap (λ (x : List (List ℕ)). let r : LdapResultValue = record {
      code = w.code;
      matched_dn = w.matched_dn;
      diagnostic_message = w.diagnostic_message;
      referral = x;
    } in r) e3

pub result_unique : IsUnique HasLdapResult
result_unique v w o x y p q =
    let s = step outcome_part outcome_unique _ (outcome_of v) (outcome_of w) o p.rest p.first q in
    let t = texts_or_none_unique 163 v.referral w.referral p.rest x y p.next s.next in
    record {
      value = result_same v w (ap (λ (z : Outcome). z.code) s.value) (ap (λ (z : Outcome). z.matched_dn)
          s.value) (ap (λ (z : Outcome). z.diagnostic_message) s.value) t.value;
      rest = t.rest;
    }

pub result_one : IsOneValue IsLdapResult
result_one v w o p q = (step HasLdapResult result_unique _ v w o p.rest p.first q).value

control_same : (v w : ControlValue) → v.control_type ≡ w.control_type → v.criticality ≡ w.criticality →
    v.value ≡ w.value → v ≡ w
control_same v w e0 e1 e2 =
    ap (λ (x : List ℕ). let r : ControlValue = record {
      control_type = x;
      criticality = v.criticality;
      value =
          v.value;
    } in r) e0
    ∙ ap (λ (x : Bool). let r : ControlValue = record {
      control_type = w.control_type;
      criticality = x;
      value =
          v.value;
    } in r) e1
    ∙ ap (λ (x : Option (List ℕ)). let r : ControlValue = record {
      control_type = w.control_type;
      criticality =
          w.criticality;
      value = x;
    } in r) e2

pub control_one : IsOneValue IsControl
control_one v w o p q =
    let s = step text_part (text_unique 4) _ v.control_type w.control_type o p.rest p.first q in
    let t = step (flag_or_false_part 1) (flag_or_false_unique 1) _ v.criticality w.criticality p.rest p.next.rest
    p.next.first s.next in
    let u = step (octets_or_none_part 4) (octets_or_none_unique 4) _ v.value w.value p.next.rest p.next.next.rest
    p.next.next.first t.next in
    control_same v w s.value t.value u.value

pub control_unique : IsUnique HasControl
control_unique = part_unique IsControl control_one 48

pub control_some : IsSome HasControl
control_some v o x p = part_some (IsControl v) 48 o x p

abbrev pub controls_part : List ControlValue → List ℕ → List ℕ → Type 0
controls_part vs octets rest = HasRowOrNone HasControl octets 160 vs rest

pub controls_unique : IsUnique controls_part
controls_unique = row_or_none_unique HasControl control_unique control_some 160

pub controls_one : IsOneValue AreControls
controls_one v w o p q = (step controls_part controls_unique _ v w o p.rest p.first q).value
