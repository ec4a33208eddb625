-- What a part lacks, the whole lacks: at each exit of a reader, behind the parts that it read.
use Rattle.std.proofs.Common.{◌^◌, ℕ, Bool, Option, List}
use Rattle.ldap_ber.specs.Fields.{HasField, HasText, HasNumber, HasPart, BeginsOtherwise, HasFlagOrFalse, HasOctetsOrNone}
use Rattle.ldap_ber.specs.Rows.{AreRow, AreValues, AreElements, HasRowOrNone}
use Rattle.ldap_ber.proofs.Same.{step, text_part, text_unique, number_unique, flag_or_false_unique, octets_or_none_unique}
use Rattle.ldap_ber.proofs.RowLemmas.{part_inside, row_there}
use Rattle.ldap_parts.specs.Values.{PartialAttributeValue, LdapResultValue, ControlValue}
use Rattle.ldap_parts.specs.Grammar.{IsPartialAttribute, IsOutcome, HasLdapResult, IsLdapResult, IsControl, HasControl, AreControls}
use Rattle.ldap_ber.proofs.Parts.{number_part, flag_or_false_part, octets_or_none_part, values_part, values_part_unique}
use Rattle.ldap_parts.proofs.Unique.{Outcome, outcome_part, outcome_unique, outcome_of, result_unique, controls_part, controls_unique}

pub attribute_values : (o x d : List ℕ) → HasText o 4 d x → (a : PartialAttributeValue) × IsPartialAttribute a o →
    (vs : List (List ℕ)) × (r : List ℕ) × HasPart (AreValues vs) x 49 r
attribute_values o x d p (a, h) = let s = step text_part (text_unique 4) _ d a.description o x p h
    in (a.values, s.next.rest, s.next.first)

pub attribute_end : (o x y d : List ℕ) (vs : List (List ℕ)) → HasText o 4 d x → HasPart (AreValues vs) x 49 y →
    (a : PartialAttributeValue) × IsPartialAttribute a o → AreElements y
attribute_end o x y d vs p q (a, h) =
    let s = step text_part (text_unique 4) _ d a.description o x p h in
    (step (values_part 49) (values_part_unique 49) _ vs a.values x y q s.next).next

pub outcome_matched : (o x : List ℕ) (n : ℕ) → HasNumber o 10 (2 ^ 31) n x → (code : ℕ) × (m d rest : List ℕ)
    × IsOutcome code m d o rest → (t r : List ℕ) × HasText x 4 t r
outcome_matched o x n p (code, m, d, rest, h) = let s = step (number_part 10 (2 ^ 31)) (number_unique 10 (2 ^ 31)) _ n
    code o x p h in (m, s.next.rest, s.next.first)

pub outcome_message : (o x y t : List ℕ) (n : ℕ) → HasNumber o 10 (2 ^ 31) n x → HasText x 4 t y → (code : ℕ)
    × (m d rest : List ℕ) × IsOutcome code m d o rest → (u r : List ℕ) × HasText y 4 u r
outcome_message o x y t n p q (code, m, d, rest, h) =
    let s = step (number_part 10 (2 ^ 31)) (number_unique 10 (2 ^ 31)) _ n code o x p h in
    let u = step text_part (text_unique 4) _ t m x y q s.next in
    (d, rest, u.next)

pub result_referral : (o x m d : List ℕ) (n : ℕ) → IsOutcome n m d o x → (r : LdapResultValue) × (rest : List ℕ)
    × HasLdapResult r o rest → (ts : List (List ℕ)) × (rest : List ℕ) × HasRowOrNone text_part x 163 ts rest
result_referral o x m d n p (r, rest, h) =
    let v : Outcome = record { code = n; matched_dn = m; diagnostic_message = d } in
    let s = step outcome_part outcome_unique _ v (outcome_of r) o x p h in
    (r.referral, rest, s.next)

pub result_end : (o x : List ℕ) (v : LdapResultValue) → HasLdapResult v o x → (r : LdapResultValue)
    × IsLdapResult r o → AreElements x
result_end o x v p (r, h) = (step HasLdapResult result_unique _ v r o x p h).next

pub control_criticality : (o x d : List ℕ) → HasText o 4 d x → (c : ControlValue) × IsControl c o → (b : Bool)
    × (rest : List ℕ) × HasFlagOrFalse x 1 b rest
control_criticality o x d p (v, h) = let s = step text_part (text_unique 4) _ d v.control_type o x p h
    in (v.criticality, s.next.rest, s.next.first)

pub control_value : (o x y d : List ℕ) (b : Bool) → HasText o 4 d x → HasFlagOrFalse x 1 b y → (c : ControlValue)
    × IsControl c o → (u : Option (List ℕ)) × (rest : List ℕ) × HasOctetsOrNone y 4 u rest
control_value o x y d b p q (v, h) =
    let s = step text_part (text_unique 4) _ d v.control_type o x p h in
    let t = step (flag_or_false_part 1) (flag_or_false_unique 1) _ b v.criticality x y q s.next in
    (v.value, t.next.rest, t.next.first)

pub control_end : (o x y z d : List ℕ) (b : Bool) (u : Option (List ℕ)) → HasText o 4 d x → HasFlagOrFalse x 1 b y →
    HasOctetsOrNone y 4 u z → (c : ControlValue) × IsControl c o → AreElements z
control_end o x y z d b u p q w (v, h) =
    let s = step text_part (text_unique 4) _ d v.control_type o x p h in
    let t = step (flag_or_false_part 1) (flag_or_false_unique 1) _ b v.criticality x y q s.next in
    (step (octets_or_none_part 4) (octets_or_none_unique 4) _ u v.value y z w t.next).next

pub controls_end : (o x : List ℕ) (vs : List ControlValue) → HasRowOrNone HasControl o 160 vs x →
    (row : List ControlValue) × AreControls row o → AreElements x
controls_end o x vs p (row, h) = (step controls_part controls_unique _ vs row o x p h).next

pub controls_there : (o : List ℕ) → (BeginsOtherwise o 160 → ⊥) → (row : List ControlValue) × (rest : List ℕ)
    × HasRowOrNone HasControl o 160 row rest → (content rest : List ℕ) × HasField o 160 content rest
controls_there o begins h = let r = row_there HasControl 160 o begins h in (r.2.content, r.1, r.2.field)

pub controls_inside : (o content rest : List ℕ) → (BeginsOtherwise o 160 → ⊥) → HasField o 160 content rest →
    (row : List ControlValue) × (rest : List ℕ) × HasRowOrNone HasControl o 160 row rest → (row : List ControlValue)
    × AreRow HasControl row content
controls_inside o content rest begins p h = part_inside (AreRow HasControl) o content rest 160 p
    (row_there HasControl 160 o begins h)
