-- A compare has one value at the front of octets; what a part lacks, the compare lacks; what is written is one.
use Rattle.std.proofs.Common.{◌≡◌, ℕ, List, [], ◌++◌, ap, subst, ◌∙◌, arith}
use Rattle.std.specs.Str.{IsUtf8}
use Rattle.std.proofs.lemmas.List.{append-nil}
use Rattle.ldap_filter.specs.ldap_ber.Element.{element_bytes}
use Rattle.ldap_filter.specs.ldap_ber.Fields.{HasField, HasText, HasPart}
use Rattle.ldap_filter.specs.ldap_ber.Rows.{AreElements, none}
use Rattle.ldap_filter.proofs.ldap_ber.Same.{IsUnique, step, octets_unique, text_part, text_unique}
use Rattle.ldap_filter.proofs.ldap_ber.RowLemmas.{IsOneValue, part_unique}
use Rattle.ldap_filter.proofs.ldap_ber.Parts.{octets_part}
use Rattle.ldap_filter.proofs.ldap_ber.Spelled.{IsShort, field, inner, left, right, text, part}
use Rattle.ldap_requests.specs.Values.{AssertionValue, CompareRequestValue}
use Rattle.ldap_requests.specs.Grammar.{IsAva, IsCompareRequest}
use Rattle.ldap_requests.specs.Written.{ava_content, compare_content, IsCompareInRange}

-- ---- one value

ava_same : (v w : AssertionValue) → v.attribute_desc ≡ w.attribute_desc → v.assertion_value ≡ w.assertion_value → v ≡ w
ava_same v w e0 e1 =
    ap (λ (x : List ℕ). let r : AssertionValue = record { attribute_desc = x; assertion_value = v.assertion_value }
    in r) e0
    ∙ ap (λ (x : List ℕ). let r : AssertionValue = record { attribute_desc = w.attribute_desc; assertion_value = x }
    in r) e1

ava_one : IsOneValue IsAva
ava_one v w o p q =
    let s = step text_part (text_unique 4) _ v.attribute_desc w.attribute_desc o p.rest p.first q in
    let t = step (octets_part 4) (octets_unique 4) _ v.assertion_value w.assertion_value p.rest p.next.rest
    p.next.first s.next in
    ava_same v w s.value t.value

abbrev pub ava_part : AssertionValue → List ℕ → List ℕ → Type 0
ava_part a octets rest = HasPart (IsAva a) octets 48 rest

ava_unique : IsUnique ava_part
ava_unique = part_unique IsAva ava_one 48

compare_same : (v w : CompareRequestValue) → v.entry ≡ w.entry → v.ava ≡ w.ava → v ≡ w
compare_same v w e0 e1 =
    ap (λ (x : List ℕ). let r : CompareRequestValue = record { entry = x; ava = v.ava } in r) e0
    ∙ ap (λ (x : AssertionValue). let r : CompareRequestValue = record { entry = w.entry; ava = x } in r) e1

pub compare_one : IsOneValue IsCompareRequest
compare_one v w o p q =
    let s = step text_part (text_unique 4) _ v.entry w.entry o p.rest p.first q in
    let t = step ava_part ava_unique _ v.ava w.ava p.rest p.next.rest p.next.first s.next in
    compare_same v w s.value t.value

-- ---- exits of readers

pub ava_value : (o x d : List ℕ) → HasText o 4 d x → (a : AssertionValue) × IsAva a o → (v r : List ℕ)
    × HasField x 4 v r
ava_value o x d p (v, h) = let s = step text_part (text_unique 4) _ d v.attribute_desc o x p h
    in (v.assertion_value, s.next.rest, s.next.first)

pub ava_end : (o x y d u : List ℕ) → HasText o 4 d x → HasField x 4 u y → (a : AssertionValue) × IsAva a o →
    AreElements y
ava_end o x y d u p q (v, h) =
    let s = step text_part (text_unique 4) _ d v.attribute_desc o x p h in
    (step (octets_part 4) (octets_unique 4) _ u v.assertion_value x y q s.next).next

pub compare_ava : (o x d : List ℕ) → HasText o 4 d x → (k : CompareRequestValue) × IsCompareRequest k o →
    (a : AssertionValue) × (r : List ℕ) × HasPart (IsAva a) x 48 r
compare_ava o x d p (v, h) = let s = step text_part (text_unique 4) _ d v.entry o x p h
    in (v.ava, s.next.rest, s.next.first)

pub compare_end : (o x y d : List ℕ) (a : AssertionValue) → HasText o 4 d x → HasPart (IsAva a) x 48 y →
    (k : CompareRequestValue) × IsCompareRequest k o → AreElements y
compare_end o x y d a p q (v, h) =
    let s = step text_part (text_unique 4) _ d v.entry o x p h in
    (step ava_part ava_unique _ a v.ava x y q s.next).next

-- ---- what is written

ava_written : (a : AssertionValue) → IsUtf8 a.attribute_desc → IsShort (ava_content a) → IsAva a (ava_content a)
ava_written k utf8 small =
    let a = element_bytes 4 k.attribute_desc in
    let b = element_bytes 4 k.assertion_value in
    let whole : a ++ (b ++ []) ≡ a ++ b = ap (λ (x : List ℕ). a ++ x) (append-nil b) in
    subst (IsAva k) whole (record {
      rest = b ++ [];
      first = text k.attribute_desc (b ++ []) utf8 (inner 4 k.attribute_desc (left a b small));
      next = record {
        rest = [];
        first = field 4 k.assertion_value [] (omega arith)
            (inner 4 k.assertion_value (right a b small));
        next = none;
      };
    })

pub compare_written : (k : CompareRequestValue) → IsCompareInRange k → IsShort (compare_content k) →
    IsCompareRequest k (compare_content k)
compare_written k range small =
    let a = element_bytes 4 k.entry in
    let b = element_bytes 48 (ava_content k.ava) in
    let content = inner 48 (ava_content k.ava) (right a b small) in
    let whole : a ++ (b ++ []) ≡ a ++ b = ap (λ (x : List ℕ). a ++ x) (append-nil b) in
    subst (IsCompareRequest k) whole (record {
      rest = b ++ [];
      first = text k.entry (b ++ []) range.0 (inner 4 k.entry (left a b small));
      next = record {
        rest = [];
        first = part (IsAva k.ava) 48 (ava_content k.ava) [] (omega arith) content
            (ava_written k.ava range.1 content);
        next = none;
      };
    })
