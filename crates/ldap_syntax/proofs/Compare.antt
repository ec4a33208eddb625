-- Keys against meanings, rule by rule.
use Rattle.std.proofs.Common.{ℕ, ◌+◌, ◌*◌, ◌-◌, ◌<◌, suc, zero, ℤ, pos, neg_ℤ, ◌<ℤ◌, List, [], ◌∷◌, Bool, true, false, cond, ◌&&◌, ◌||◌, nat_eq, nat_lt, nat_le, Option, None, Some, is_some, ◌↔◌, ◌⊎◌, inl, inr, ◌≡◌, refl, ap, ap₂, map, sym, subst, ◌∙◌, encode_utf8_all, arith}
use Rattle.std.proofs.lemmas.Int.{ints}
use Rattle.std.proofs.lemmas.Bool.{ltb-true}
use Rattle.std.proofs.lemmas.Bool.Decides.{nat_tests}
use Rattle.std.proofs.lemmas.Int.Digits.{number_after_ge}
use Rattle.std.proofs.lemmas.Slice.Eq.{bytes_eq-Decides}
use Rattle.std.proofs.lemmas.Str.{encodes_same}
use Rattle.std.specs.Str.{bytes_eq}
use Rattle.ldap_words.specs.Numbers.{is_integer, is_whole, is_number, are_digits, number_of, decimal}
use Rattle.ldap_words.specs.Identifiers.{is_numericoid}
use Rattle.ldap_syntax.specs.Times.{is_time}
use Rattle.ldap_syntax.specs.Syntaxes.{is_in_syntax, is_boolean, true_octets, false_octets}
use Rattle.ldap_words.specs.Families.{is_ordering, has_substrings}
use Rattle.ldap_syntax.specs.Meaning.{Meaning, number, text, truth, octets, identifier, as_text, spelled, meaning_in, is_before, IsLessMeaning}
use Rattle.ldap_syntax.specs.Parts.{HasParts, MeaningHasParts}
use Rattle.ldap_syntax.specs.Keys.{counted, turned, number_key, key_in, KeysArePresentAsMeanings, KeysAreEqualAsMeanings, KeysAreOrderedAsMeanings, PartsStandAsMeanings}
use Rattle.ldap_syntax.specs.declared.preparing.Part.TheVariants.{Whole}
use Rattle.ldap_words.specs.declared.rule.Family.{Family}
use Rattle.ldap_words.specs.declared.rule.Family.TheVariants as family
use Rattle.ldap_syntax.proofs.Digits.{Numbers, less, same, more, numbers, whole_is_written, number_is_written, not_before_itself, not_both_before, and_left, head_same}
use Rattle.ldap_syntax.proofs.Utf8.{octets_in_order}
use Rattle.ldap_syntax.proofs.Seams.{parts}
use Rattle.ldap_words.specs.Octets.{utf8_of}

-- what stands behind a test that passed
pub passed : {A : Type 0} (b : Bool) (o : Option A) (x : A) → cond b o None ≡ Some x → o ≡ Some x
passed true o x h = h
passed false o x h = cc

pub test_passed : {A : Type 0} (b : Bool) (o : Option A) (x : A) → cond b o None ≡ Some x → b ≡ true
test_passed true o x h = refl
test_passed false o x h = cc

-- two integers as they are written, their keys and their numbers
pub data Integers (v w : List ℕ) : Type 0 where
  is_less : is_before (number_key v) (number_key w) ≡ true → number_of v <ℤ number_of w → Integers v w
  is_same : v ≡ w → Integers v w
  is_more : is_before (number_key w) (number_key v) ≡ true → number_of w <ℤ number_of v → Integers v w

below_zero : (m n : ℕ) → 0 < m → neg_ℤ (pos m) <ℤ pos n
below_zero zero n h = absurd (omega (arith, h))
below_zero (suc m) n h = omega (arith, ints)

pos_less : (m n : ℕ) → m < n → pos m <ℤ pos n
pos_less m n h = omega (arith, ints)

neg_less : (m n : ℕ) → 0 < m → m < n → neg_ℤ (pos n) <ℤ neg_ℤ (pos m)
neg_less zero n p h = absurd (omega (arith, p))
neg_less (suc m) zero p h = absurd (omega (arith, h))
neg_less (suc m) (suc n) p h = omega (arith, ints)

not_less_itself : (z : ℤ) → z <ℤ z → ⊥
not_less_itself z h = omega (arith, ints)

not_both_less : (y z : ℤ) → y <ℤ z → z <ℤ y → ⊥
not_both_less y z h k = omega (arith, ints)

leads_whole : (c : ℕ) (cs : List ℕ) → is_whole (c ∷ cs) ≡ true → 48 < c
leads_whole c cs h = ltb-true 48 c (and_left (nat_lt 48 c) (nat_le c 57) (and_left (nat_lt 48 c && nat_le c 57)
    (are_digits cs) h))

whole_some : (cs : List ℕ) → is_whole cs ≡ true → 0 < decimal cs
whole_some [] h = cc
whole_some (c ∷ cs) h =
    let lead : 48 < c = leads_whole c cs h in
    omega (arith, number_after_ge 10 (0 * 10 + (c - 48)) (map (λ d. d - 48) cs) (omega arith), lead)

both_positive : (v w : List ℕ) → Numbers v w → number_key v ≡ 1 ∷ counted v → number_key w ≡ 1 ∷ counted w →
    number_of v ≡ pos (decimal v) → number_of w ≡ pos (decimal w) → Integers v w
both_positive v w (less a b l) kv kw zv zw = is_less (rw (kv, kw) (head_same 1 (counted v) (counted w) a))
    (rw (zv, zw) (pos_less (decimal v) (decimal w) l))
both_positive v w (same e) kv kw zv zw = is_same e
both_positive v w (more a b l) kv kw zv zw = is_more (rw (kw, kv) (head_same 1 (counted w) (counted v) a))
    (rw (zw, zv) (pos_less (decimal w) (decimal v) l))

both_negative : (c d : ℕ) (v w : List ℕ) → c ≡ d → Numbers v w → 0 < decimal v → 0 < decimal w → number_key (c ∷ v) ≡
    0 ∷ turned (counted v) → number_key (d ∷ w) ≡ 0 ∷ turned (counted w) → number_of (c ∷ v) ≡
    neg_ℤ (pos (decimal v)) → number_of (d ∷ w) ≡ neg_ℤ (pos (decimal w)) → Integers (c ∷ v) (d ∷ w)
both_negative c d v w s (less a b l) p q kv kw zv zw =
    is_more (rw (kw, kv) (head_same 0 (turned (counted w)) (turned (counted v)) b))
    (rw (zw, zv) (neg_less (decimal v) (decimal w) p l))
both_negative c d v w s (same e) p q kv kw zv zw = is_same (ap₂ (λ (x : ℕ) (y : List ℕ). x ∷ y) s e)
both_negative c d v w s (more a b l) p q kv kw zv zw =
    is_less (rw (kv, kw) (head_same 0 (turned (counted v)) (turned (counted w)) b))
    (rw (zv, zw) (neg_less (decimal w) (decimal v) q l))

by_signs : (c d : ℕ) (v w : List ℕ) (x y : Bool) → nat_eq c 45 ≡ x → nat_eq d 45 ≡ y →
    cond x (is_whole v) (is_number (c ∷ v)) ≡ true → cond y (is_whole w) (is_number (d ∷ w)) ≡ true →
    Integers (c ∷ v) (d ∷ w)
by_signs c d v w true true e f h k =
    let s : c ≡ d = grind (arith, nat_tests, e, f) in
    both_negative c d v w s (numbers v w (whole_is_written v h) (whole_is_written w k)) (whole_some v h)
    (whole_some w k)
    (rw e refl) (rw f refl) (rw e refl) (rw f refl)
by_signs c d v w true false e f h k = is_less (rw (e, f) refl)
    (rw (e, f) (below_zero (decimal v) (decimal (d ∷ w)) (whole_some v h)))
by_signs c d v w false true e f h k = is_more (rw (f, e) refl)
    (rw (f, e) (below_zero (decimal w) (decimal (c ∷ v)) (whole_some w k)))
by_signs c d v w false false e f h k =
    both_positive (c ∷ v) (d ∷ w) (numbers (c ∷ v) (d ∷ w) (number_is_written (c ∷ v) h) (number_is_written (d ∷ w) k))
    (rw e refl) (rw f refl) (rw e refl) (rw f refl)

pub integers : (v w : List ℕ) → is_integer v ≡ true → is_integer w ≡ true → Integers v w
integers [] w h k = cc
integers (c ∷ v) [] h k = cc
integers (c ∷ v) (d ∷ w) h k = by_signs c d v w (nat_eq c 45) (nat_eq d 45) refl refl h k

same_integers : (v w : List ℕ) → Integers v w → (number_key v ≡ number_key w) ↔ (number_of v ≡ number_of w)
same_integers v w (is_less a l) = (
  λ e. absurd (not_before_itself (number_key w) (subst (λ (x : List ℕ). is_before x (number_key w) ≡ true) e a)),
  λ e. absurd (not_less_itself (number_of w) (subst (λ (x : ℤ). x <ℤ number_of w) e l)),
)
same_integers v w (is_same s) = (λ _. ap number_of s, λ _. ap number_key s)
same_integers v w (is_more a l) = (
  λ e. absurd (not_before_itself (number_key w) (subst (λ (x : List ℕ). is_before (number_key w) x ≡ true) e a)),
  λ e. absurd (not_less_itself (number_of w) (subst (λ (x : ℤ). number_of w <ℤ x) e l)),
)

ordered_integers : (v w : List ℕ) → Integers v w → (is_before (number_key v) (number_key w) ≡ true) ↔
    (number_of v <ℤ number_of w)
ordered_integers v w (is_less a l) = (λ _. l, λ _. a)
ordered_integers v w (is_same s) = (
  λ e. absurd (not_before_itself (number_key w) (subst (λ (x : List ℕ). is_before (number_key x) (number_key w) ≡
      true) s e)),
  λ e. absurd (not_less_itself (number_of w) (subst (λ (x : List ℕ). number_of x <ℤ number_of w) s e)),
)
ordered_integers v w (is_more a l) = (
  λ e. absurd (not_both_before (number_key v) (number_key w) e a),
  λ e. absurd (not_both_less (number_of v) (number_of w) e l),
)

some_is : {A : Type 0} (x y : A) → Some x ≡ Some y → x ≡ y
some_is x y e = cc

-- equal of keys and of meanings, along equations of what they are
equal_along : (m n m' n' : Meaning) (k l k' l' : List ℕ) → m' ≡ m → n' ≡ n → k' ≡ k → l' ≡ l → (k' ≡ l') ↔ (m' ≡ n') →
    (k ≡ l) ↔ (m ≡ n)
equal_along m n m' n' k l k' l' em en ek el h =
    (λ e. sym em ∙ h.0 (ek ∙ e ∙ sym el) ∙ en, λ e. sym ek ∙ h.1 (em ∙ e ∙ sym en) ∙ el)

-- a text's key and its meaning
text_means : (o : Option (List ℕ)) (m : Meaning) → as_text o ≡ Some m → (t : List ℕ) × (o ≡ Some t) × (m ≡ text t)
text_means None m e = absurd (cc)
text_means (Some t) m e = (t, refl, cc)

text_keyed : (o : Option (List ℕ)) (t k : List ℕ) → o ≡ Some t → utf8_of o ≡ Some k → k ≡ encode_utf8_all t
text_keyed None t k e h = absurd (cc)
text_keyed (Some u) t k e h = some_is k (encode_utf8_all u) (sym h) ∙ ap encode_utf8_all (some_is u t e)

equal_texts : (o p : Option (List ℕ)) (m n : Meaning) (k l : List ℕ) → as_text o ≡ Some m → as_text p ≡ Some n →
    utf8_of o ≡ Some k → utf8_of p ≡ Some l → (k ≡ l) ↔ (m ≡ n)
equal_texts o p m n k l hm hn hk hl =
    let a = text_means o m hm in
    let b = text_means p n hn in
    equal_along m n (text a.0) (text b.0) k l (encode_utf8_all a.0) (encode_utf8_all b.0) (sym a.2) (sym b.2)
    (sym (text_keyed o a.0 k a.1 hk)) (sym (text_keyed p b.0 l b.1 hl))
    (λ e. ap text (encodes_same a.0 b.0 e), λ e. let same : a.0 ≡ b.0 = cc in ap encode_utf8_all same)

truths_differ : truth (bytes_eq true_octets true_octets) ≡ truth (bytes_eq false_octets true_octets) → ⊥
truths_differ e = cc

-- the two truth values
one_of_two : (v : List ℕ) → is_boolean v ≡ true → (v ≡ true_octets) ⊎ (v ≡ false_octets)
one_of_two v h = by_tests v (bytes_eq v true_octets) (bytes_eq v false_octets) refl refl h where
  by_tests : (v : List ℕ) (x y : Bool) → bytes_eq v true_octets ≡ x → bytes_eq v false_octets ≡ y → (x || y) ≡ true →
      (v ≡ true_octets) ⊎ (v ≡ false_octets)
  by_tests v true y e f h = inl ((bytes_eq-Decides v true_octets).0 e)
  by_tests v false true e f h = inr ((bytes_eq-Decides v false_octets).0 f)
  by_tests v false false e f h = absurd (cc)

same_truths : (v w : List ℕ) → (v ≡ true_octets) ⊎ (v ≡ false_octets) → (w ≡ true_octets) ⊎ (w ≡ false_octets) →
    (v ≡ w) ↔ (truth (bytes_eq v true_octets) ≡ truth (bytes_eq w true_octets))
same_truths v w (inl e) (inl f) = (λ _. rw (e, f) refl, λ _. e ∙ sym f)
same_truths v w (inr e) (inr f) = (λ _. rw (e, f) refl, λ _. e ∙ sym f)
same_truths v w (inl e) (inr f) = (
  λ s. ap (λ (x : List ℕ). truth (bytes_eq x true_octets)) s,
  λ t. absurd (truths_differ (rw (e, f) at t)),
)
same_truths v w (inr e) (inl f) = (
  λ s. ap (λ (x : List ℕ). truth (bytes_eq x true_octets)) s,
  λ t. absurd (truths_differ (sym (rw (e, f) at t))),
)

pub equal_in : (f : Family) (v w : List ℕ) (m n : Meaning) (k l : List ℕ) → meaning_in f v ≡ Some m → meaning_in f w ≡
    Some n → key_in f v ≡ Some k → key_in f w ≡ Some l → (k ≡ l) ↔ (m ≡ n)
equal_in family.Identifier v w m n k l hv hw kv kw =
    equal_along m n (identifier v) (identifier w) k l v w (some_is _ _ (passed (is_numericoid v) _ _ hv))
    (some_is _ _ (passed (is_numericoid w) _ _ hw)) (some_is _ _ (passed (is_numericoid v) _ _ kv))
    (some_is _ _ (passed (is_numericoid w) _ _ kw))
    (λ e. ap identifier e, λ e. cc)
equal_in family.Name v w m n k l hv hw kv kw = absurd (cc)
equal_in family.Ignore v w m n k l hv hw kv kw = equal_texts _ _ m n k l hv hw kv kw
equal_in family.Exact v w m n k l hv hw kv kw = equal_texts _ _ m n k l hv hw kv kw
equal_in family.Numeric v w m n k l hv hw kv kw = equal_texts _ _ m n k l hv hw kv kw
equal_in family.Boolean v w m n k l hv hw kv kw =
    equal_along m n (truth (bytes_eq v true_octets)) (truth (bytes_eq w true_octets)) k l v w
    (some_is _ _ (passed (is_boolean v) _ _ hv)) (some_is _ _ (passed (is_boolean w) _ _ hw))
    (some_is _ _ (passed (is_boolean v) _ _ kv)) (some_is _ _ (passed (is_boolean w) _ _ kw))
    (same_truths v w (one_of_two v (test_passed (is_boolean v) _ _ hv))
    (one_of_two w (test_passed (is_boolean w) _ _ hw)))
equal_in family.Integer v w m n k l hv hw kv kw =
    let i = same_integers v w (integers v w (test_passed (is_integer v) _ _ hv) (test_passed (is_integer w) _ _ hw)) in
    equal_along m n (number (number_of v)) (number (number_of w)) k l (number_key v) (number_key w)
    (some_is _ _ (passed (is_integer v) _ _ hv)) (some_is _ _ (passed (is_integer w) _ _ hw))
    (some_is _ _ (passed (is_integer v) _ _ kv)) (some_is _ _ (passed (is_integer w) _ _ kw))
    (λ e. ap number (i.0 e), λ e. i.1 (cc))
equal_in family.Octet v w m n k l hv hw kv kw = equal_along m n (octets v) (octets w) k l v w (some_is _ _ hv)
    (some_is _ _ hw) (some_is _ _ kv) (some_is _ _ kw) (λ e. ap octets e, λ e. cc)
equal_in family.Telephone v w m n k l hv hw kv kw = equal_texts _ _ m n k l hv hw kv kw
equal_in family.Time v w m n k l hv hw kv kw =
    equal_along m n (text v) (text w) k l v w (some_is _ _ (passed (is_time v) _ _ hv))
    (some_is _ _ (passed (is_time w) _ _ hw)) (some_is _ _ (passed (is_time v) _ _ kv))
    (some_is _ _ (passed (is_time w) _ _ kw))
    (λ e. ap text e, λ e. cc)
equal_in family.Ia5 v w m n k l hv hw kv kw = equal_texts _ _ m n k l hv hw kv kw
equal_in family.Ia5Exact v w m n k l hv hw kv kw = equal_texts _ _ m n k l hv hw kv kw

pub keys_are_equal : KeysAreEqualAsMeanings
keys_are_equal r v w m n k l hv hw kv kw =
    equal_in r.family v w m n k l (passed (is_in_syntax r.syntax v) _ _ hv) (passed (is_in_syntax r.syntax w) _ _ hw)
    (passed (is_in_syntax r.syntax v) _ _ kv) (passed (is_in_syntax r.syntax w) _ _ kw)

ordered_along : (m n m' n' : Meaning) (k l k' l' : List ℕ) → m' ≡ m → n' ≡ n → k' ≡ k → l' ≡ l →
    (is_before k' l' ≡ true) ↔ IsLessMeaning m' n' → (is_before k l ≡ true) ↔ IsLessMeaning m n
ordered_along m n m' n' k l k' l' em en ek el h = (
  λ e. subst (λ (x : Meaning). IsLessMeaning x n) em (subst (λ (x : Meaning). IsLessMeaning m' x) en
      (h.0 (ap₂ is_before ek el ∙ e))),
  λ e. sym (ap₂ is_before ek el) ∙ h.1 (subst (λ (x : Meaning). IsLessMeaning m' x) (sym en)
      (subst (λ (x : Meaning). IsLessMeaning x n) (sym em) e)),
)

ordered_texts : (o p : Option (List ℕ)) (m n : Meaning) (k l : List ℕ) → as_text o ≡ Some m → as_text p ≡ Some n →
    utf8_of o ≡ Some k → utf8_of p ≡ Some l → (is_before k l ≡ true) ↔ IsLessMeaning m n
ordered_texts o p m n k l hm hn hk hl =
    let a = text_means o m hm in
    let b = text_means p n hn in
    let same = octets_in_order a.0 b.0 in
    ordered_along m n (text a.0) (text b.0) k l (encode_utf8_all a.0) (encode_utf8_all b.0) (sym a.2) (sym b.2)
    (sym (text_keyed o a.0 k a.1 hk)) (sym (text_keyed p b.0 l b.1 hl))
    (λ e. sym same ∙ e, λ e. same ∙ e)

pub ordered_in : (f : Family) (v w : List ℕ) (m n : Meaning) (k l : List ℕ) → is_ordering f ≡ true → meaning_in f v ≡
    Some m → meaning_in f w ≡ Some n → key_in f v ≡ Some k → key_in f w ≡ Some l →
    (is_before k l ≡ true) ↔ IsLessMeaning m n
ordered_in family.Ignore v w m n k l o hv hw kv kw = ordered_texts _ _ m n k l hv hw kv kw
ordered_in family.Exact v w m n k l o hv hw kv kw = ordered_texts _ _ m n k l hv hw kv kw
ordered_in family.Numeric v w m n k l o hv hw kv kw = ordered_texts _ _ m n k l hv hw kv kw
ordered_in family.Integer v w m n k l o hv hw kv kw =
    ordered_along m n (number (number_of v)) (number (number_of w)) k l (number_key v) (number_key w)
    (some_is _ _ (passed (is_integer v) _ _ hv)) (some_is _ _ (passed (is_integer w) _ _ hw))
    (some_is _ _ (passed (is_integer v) _ _ kv)) (some_is _ _ (passed (is_integer w) _ _ kw))
    (ordered_integers v w (integers v w (test_passed (is_integer v) _ _ hv) (test_passed (is_integer w) _ _ hw)))
ordered_in family.Time v w m n k l o hv hw kv kw =
    ordered_along m n (text v) (text w) k l v w (some_is _ _ (passed (is_time v) _ _ hv))
    (some_is _ _ (passed (is_time w) _ _ hw)) (some_is _ _ (passed (is_time v) _ _ kv))
    (some_is _ _ (passed (is_time w) _ _ kw))
    (λ e. e, λ e. e)
ordered_in family.Identifier v w m n k l o hv hw kv kw = cc
ordered_in family.Name v w m n k l o hv hw kv kw = cc
ordered_in family.Boolean v w m n k l o hv hw kv kw = cc
ordered_in family.Octet v w m n k l o hv hw kv kw = cc
ordered_in family.Telephone v w m n k l o hv hw kv kw = cc
ordered_in family.Ia5 v w m n k l o hv hw kv kw = cc
ordered_in family.Ia5Exact v w m n k l o hv hw kv kw = cc

pub keys_are_ordered : KeysAreOrderedAsMeanings
keys_are_ordered r v w m n k l o hv hw kv kw =
    ordered_in r.family v w m n k l o (passed (is_in_syntax r.syntax v) _ _ hv) (passed (is_in_syntax r.syntax w) _ _
    hw) (passed (is_in_syntax r.syntax v) _ _ kv) (passed (is_in_syntax r.syntax w) _ _ kw)

some_where : {A B : Type 0} (b : Bool) (x : A) (y : B) → is_some (cond b (Some x) None) ≡ is_some (cond b (Some y) None)
some_where true x y = refl
some_where false x y = refl

some_inside : {A B : Type 0} (b : Bool) (o : Option A) (p : Option B) → is_some o ≡ is_some p →
    is_some (cond b o None) ≡ is_some (cond b p None)
some_inside true o p h = h
some_inside false o p h = refl

some_text : (o : Option (List ℕ)) → is_some (utf8_of o) ≡ is_some (as_text o)
some_text None = refl
some_text (Some t) = refl

present_in : (f : Family) (v : List ℕ) → is_some (key_in f v) ≡ is_some (meaning_in f v)
present_in family.Identifier v = some_where (is_numericoid v) v (identifier v)
present_in family.Name v = refl
present_in family.Ignore v = some_text (spelled family.Ignore Whole v)
present_in family.Exact v = some_text (spelled family.Exact Whole v)
present_in family.Numeric v = some_text (spelled family.Numeric Whole v)
present_in family.Boolean v = some_where (is_boolean v) v (truth (bytes_eq v true_octets))
present_in family.Integer v = some_where (is_integer v) (number_key v) (number (number_of v))
present_in family.Octet v = refl
present_in family.Telephone v = some_text (spelled family.Telephone Whole v)
present_in family.Time v = some_where (is_time v) v (text v)
present_in family.Ia5 v = some_text (spelled family.Ia5 Whole v)
present_in family.Ia5Exact v = some_text (spelled family.Ia5Exact Whole v)

pub keys_are_present : KeysArePresentAsMeanings
keys_are_present r v = some_inside (is_in_syntax r.syntax v) (key_in r.family v) (meaning_in r.family v)
    (present_in r.family v)

-- parts of keys and of meanings
parts_of_text : (o : Option (List ℕ)) (m : Meaning) (k : List ℕ) (i f : Option (List ℕ)) (any : List (List ℕ)) →
    as_text o ≡ Some m → utf8_of o ≡ Some k → HasParts (utf8_of i) (map encode_utf8_all any) (utf8_of f) k ↔
    MeaningHasParts i any f m
parts_of_text o m k i f any hm hk =
    let a = text_means o m hm in
    let e : k ≡ encode_utf8_all a.0 = text_keyed o a.0 k a.1 hk in
    let p = parts i f any a.0 in (
      λ d. subst (MeaningHasParts i any f) (sym a.2)
          (p.0 (subst (HasParts (utf8_of i) (map encode_utf8_all any) (utf8_of f)) e d)),
      λ d. subst (HasParts (utf8_of i) (map encode_utf8_all any) (utf8_of f)) (sym e)
          (p.1 (subst (MeaningHasParts i any f) a.2 d)),
    )

parts_in : (f : Family) (v : List ℕ) (m : Meaning) (k : List ℕ) (i l : Option (List ℕ)) (any : List (List ℕ)) →
    has_substrings f ≡ true → meaning_in f v ≡ Some m → key_in f v ≡ Some k →
    HasParts (utf8_of i) (map encode_utf8_all any) (utf8_of l) k ↔ MeaningHasParts i any l m
parts_in family.Ignore v m k i l any o hm hk = parts_of_text _ m k i l any hm hk
parts_in family.Exact v m k i l any o hm hk = parts_of_text _ m k i l any hm hk
parts_in family.Numeric v m k i l any o hm hk = parts_of_text _ m k i l any hm hk
parts_in family.Telephone v m k i l any o hm hk = parts_of_text _ m k i l any hm hk
parts_in family.Ia5 v m k i l any o hm hk = parts_of_text _ m k i l any hm hk
parts_in family.Identifier v m k i l any o hm hk = cc
parts_in family.Name v m k i l any o hm hk = cc
parts_in family.Boolean v m k i l any o hm hk = cc
parts_in family.Integer v m k i l any o hm hk = cc
parts_in family.Octet v m k i l any o hm hk = cc
parts_in family.Time v m k i l any o hm hk = cc
parts_in family.Ia5Exact v m k i l any o hm hk = cc

pub parts_stand : PartsStandAsMeanings
parts_stand r v m k i l any o hm hk =
    parts_in r.family v m k i l any o (passed (is_in_syntax r.syntax v) _ _ hm) (passed (is_in_syntax r.syntax v) _ _
    hk)
