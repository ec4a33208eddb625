-- Filter texts, reading: an item's text is cut into what it says.
use Rattle.std.proofs.Common.{◌≡◌, ℕ, ◌+◌, ◌<◌, List, [], ◌∷◌, ◌++◌, take, drop, suc, Bool, true, false, cond, not, ◌&&◌, ◌||◌, Option, None, Some, nat_eq, nat_le, refl, sym, ap, subst, ◌∙◌, append-nil, length, length-drop, arith}
use Rattle.std.specs.List.{list_all, prefix_len, slice_split, onto_first}
use Rattle.std.specs.Option.{option_map, option_and_then}
use Rattle.std.proofs.lemmas.Bool.{eqb-true}
use Rattle.ldap_words.specs.Numbers.{is_digit}
use Rattle.ldap_filter.specs.Item.{Comparison, equal, at_least, at_most, approximate, Item, comparison, substrings, presence, extensible}
use Rattle.filter_text.specs.Descriptions.{is_alpha, is_key_octet, is_oid, is_description, is_dn}
use Rattle.filter_text.specs.Values.{is_normal, hex_digit, with_high, IsValue, nothing, normal, escaped}
use Rattle.filter_text.specs.Items.{IsPart, IsPartOrNone, AreParts, Starred, has_part, operator, part_or_nothing, rule_text, IsFlag, is_applicable, IsItemText}
use Rattle.filter_text.specs.private.Machine.{run, within}
use Rattle.filter_text.specs.private.ItemScan.{oid_first, oid_step, oid_out, oid_ends, name_step}
use Rattle.filter_text.specs.declared.fault.FilterTextError.{FilterTextError}
use Rattle.filter_text.specs.declared.fault.FilterTextError.TheVariants.{BadFilterText, TooDeep, TooManyItems, NoMemory}
use Rattle.filter_text.specs.private.Reads.{PartFault}
use Rattle.filter_text.specs.private.Scanned.{spelled, turned, scanned, value_of}
use Rattle.filter_text.specs.declared.value_reading.ValueState.TheVariants.{Between, Escape}
use Rattle.filter_text.specs.declared.value_reading.Turn.TheVariants.{Refuses, Reads, Gives}
use Rattle.filter_text.specs.private.Cuts.{is_name_octet, is_other, front, behind, tail, begins_with, is_empty, part_of, spread, parts_of, substrings_of, starred, equal_or_starred, equality, Applied, worded, applied, described_by, extensible_with, item_at, item_of}
use Rattle.filter_text.specs.declared.place.OidPlace.{OidPlace}
use Rattle.filter_text.specs.declared.place.OidPlace.TheVariants.{Letters, Zero, Number, Dot, DottedZero, DottedNumber}
use Rattle.filter_text.specs.declared.place.NamePlace.{NamePlace}
use Rattle.filter_text.specs.declared.place.NamePlace.TheVariants.{Oid, Semicolon, Keys}
use Rattle.filter_text.proofs.Booleans.{left, right, both}
use Rattle.filter_text.proofs.Machines.{false_true, none_some}
use Rattle.filter_text.proofs.Oids.{oid_run}
use Rattle.filter_text.proofs.Names.{name_run}
use Rattle.filter_text.proofs.Words.{dn_oid}
use Rattle.filter_text.proofs.ItemRuns.{not_equals}
use Rattle.filter_text.proofs.ValueRuns.{not_backslash_at as no_backslash}

-- ---- values

push_onto : {X : Type 0} (xs : List X) (y : X) (ys : List X) → (xs ++ y ∷ []) ++ ys ≡ xs ++ y ∷ ys
push_onto [] y ys = refl
push_onto (x ∷ xs) y ys = ap (λ l. x ∷ l) (push_onto xs y ys)

spelled_scanned : (acc : List ℕ) {v text : List ℕ} → IsValue v text → scanned acc Between text ≡ Some (acc ++ v)
spelled_scanned acc nothing = ap Some (sym (append-nil acc))
spelled_scanned acc (normal {v} {text} c e s) =
    ap (λ b. turned acc (cond b (Reads Escape) (cond (is_normal c) (Gives c) Refuses)) (λ w n. scanned w n text))
    (no_backslash (nat_eq c 92) c refl e)
    ∙ ap (λ b. turned acc (cond b (Gives c) Refuses) (λ w n. scanned w n text)) e
    ∙ spelled_scanned (acc ++ c ∷ []) s
    ∙ ap Some (push_onto acc c v)
spelled_scanned acc (escaped {v} {text} h l c e s) =
    ap (λ o. turned acc (spelled o) (λ w n. scanned w n text)) e
    ∙ spelled_scanned (acc ++ c ∷ []) s
    ∙ ap Some (push_onto acc c v)

pub value_is : {v text : List ℕ} → IsValue v text → value_of text ≡ Some v
value_is s = spelled_scanned [] s

-- ---- the octets of names

or_left : (a b : Bool) → a ≡ true → (a || b) ≡ true
or_left a b e = ap (λ x. x || b) e

or_right : (a b : Bool) → b ≡ true → (a || b) ≡ true
or_right true b e = refl
or_right false b e = e

key_name : (c : ℕ) → is_key_octet c ≡ true → is_name_octet c ≡ true
key_name c e = or_left (is_key_octet c || nat_eq c 46) (nat_eq c 59) (or_left (is_key_octet c) (nat_eq c 46) e)

digit_name : (c : ℕ) → is_digit c ≡ true → is_name_octet c ≡ true
digit_name c e = key_name c (or_left (is_alpha c || (nat_le 48 c && nat_le c 57)) (nat_eq c 45)
    (or_right (is_alpha c) (nat_le 48 c && nat_le c 57) e))

alpha_name : (c : ℕ) → is_alpha c ≡ true → is_name_octet c ≡ true
alpha_name c e = key_name c (or_left (is_alpha c || (nat_le 48 c && nat_le c 57)) (nat_eq c 45)
    (or_left (is_alpha c) (nat_le 48 c && nat_le c 57) e))

is_named : (k c : ℕ) → nat_eq c k ≡ true → is_name_octet k ≡ true → is_name_octet c ≡ true
is_named k c e f = ap is_name_octet (eqb-true c k e) ∙ f

-- a step by a test is made only where the test passes
tested : {S : Type 0} (b : Bool) (p : S) {t : S} → cond b (Some p) None ≡ Some t → b ≡ true
tested true p e = refl
tested false p e = absurd (none_some e)

dot_name : {t : OidPlace} (b : Bool) (c : ℕ) → nat_eq c 46 ≡ b → cond b (Some Dot) None ≡ Some t → is_name_octet c ≡
    true
dot_name true c e f = is_named 46 c e refl
dot_name false c e f = absurd (none_some f)

number_name : (p : OidPlace) {t : OidPlace} (d b : Bool) (c : ℕ) → is_digit c ≡ d → nat_eq c 46 ≡ b →
    cond d (Some p) (cond b (Some Dot) None) ≡ Some t → is_name_octet c ≡ true
number_name p true b c e f h = digit_name c e
number_name p false b c e f h = dot_name b c f h

zero_name : (p q : OidPlace) {t : OidPlace} (z d : Bool) (c : ℕ) → nat_eq c 48 ≡ z → is_digit c ≡ d →
    cond z (Some p) (cond d (Some q) None) ≡ Some t → is_name_octet c ≡ true
zero_name p q true d c e f h = is_named 48 c e refl
zero_name p q false true c e f h = digit_name c f
zero_name p q false false c e f h = absurd (none_some h)

oid_step_name : (o t : OidPlace) (c : ℕ) → oid_step o c ≡ Some t → is_name_octet c ≡ true
oid_step_name Letters t c e = key_name c (tested (is_key_octet c) Letters e)
oid_step_name Zero t c e = dot_name (nat_eq c 46) c refl e
oid_step_name Number t c e = number_name Number (is_digit c) (nat_eq c 46) c refl refl e
oid_step_name Dot t c e = zero_name DottedZero DottedNumber (nat_eq c 48) (is_digit c) c refl refl e
oid_step_name DottedZero t c e = dot_name (nat_eq c 46) c refl e
oid_step_name DottedNumber t c e = number_name DottedNumber (is_digit c) (nat_eq c 46) c refl refl e

first_name_at : {t : OidPlace} (a z d : Bool) (c : ℕ) → is_alpha c ≡ a → nat_eq c 48 ≡ z → is_digit c ≡ d →
    cond a (Some Letters) (cond z (Some Zero) (cond d (Some Number) None)) ≡ Some t → is_name_octet c ≡ true
first_name_at true z d c e f g h = alpha_name c e
first_name_at false z d c e f g h = zero_name Zero Number z d c f g h

first_name : (t : OidPlace) (c : ℕ) → oid_first c ≡ Some t → is_name_octet c ≡ true
first_name t c e = first_name_at (is_alpha c) (nat_eq c 48) (is_digit c) c refl refl refl e

oid_octets_at : (r : Option OidPlace) (o p : OidPlace) (c : ℕ) (cs : List ℕ) → oid_step o c ≡ r →
    ((u : OidPlace) → run oid_step u cs ≡ Some p → list_all is_name_octet cs ≡ true)
    → option_and_then (λ u. run oid_step u cs) r ≡ Some p → list_all is_name_octet (c ∷ cs) ≡ true
oid_octets_at None o p c cs e h g = absurd (none_some g)
oid_octets_at (Some u) o p c cs e h g = both (is_name_octet c) (list_all is_name_octet cs) (oid_step_name o u c e)
    (h u g)

oid_octets : (o p : OidPlace) (cs : List ℕ) → run oid_step o cs ≡ Some p → list_all is_name_octet cs ≡ true
oid_octets o p [] e = refl
oid_octets o p (c ∷ cs) e = oid_octets_at (oid_step o c) o p c cs refl (λ u g. oid_octets u p cs g) e

out_name : {t : NamePlace} (a b : Bool) (c : ℕ) → nat_eq c 59 ≡ b → cond a (cond b (Some Semicolon) None) None ≡
    Some t → is_name_octet c ≡ true
out_name true true c e h = is_named 59 c e refl
out_name true false c e h = absurd (none_some h)
out_name false b c e h = absurd (none_some h)

name_oid_at : {t : NamePlace} (r : Option OidPlace) (o : OidPlace) (c : ℕ) → oid_step o c ≡ r →
    within Oid (oid_out o c) r ≡ Some t → is_name_octet c ≡ true
name_oid_at None o c e h = out_name (oid_ends o) (nat_eq c 59) c refl h
name_oid_at (Some u) o c e h = oid_step_name o u c e

keys_name : {t : NamePlace} (k b : Bool) (c : ℕ) → is_key_octet c ≡ k → nat_eq c 59 ≡ b →
    cond k (Some Keys) (cond b (Some Semicolon) None) ≡ Some t → is_name_octet c ≡ true
keys_name true b c e f h = key_name c e
keys_name false true c e f h = is_named 59 c f refl
keys_name false false c e f h = absurd (none_some h)

name_step_name : (n m : NamePlace) (c : ℕ) → name_step n c ≡ Some m → is_name_octet c ≡ true
name_step_name (Oid o) m c e = name_oid_at (oid_step o c) o c refl e
name_step_name Semicolon m c e = key_name c (tested (is_key_octet c) Keys e)
name_step_name Keys m c e = keys_name (is_key_octet c) (nat_eq c 59) c refl refl e

name_octets_at : (r : Option NamePlace) (n m : NamePlace) (c : ℕ) (cs : List ℕ) → name_step n c ≡ r →
    ((u : NamePlace) → run name_step u cs ≡ Some m → list_all is_name_octet cs ≡ true)
    → option_and_then (λ u. run name_step u cs) r ≡ Some m → list_all is_name_octet (c ∷ cs) ≡ true
name_octets_at None n m c cs e h g = absurd (none_some g)
name_octets_at (Some u) n m c cs e h g = both (is_name_octet c) (list_all is_name_octet cs) (name_step_name n u c e)
    (h u g)

name_octets : (n m : NamePlace) (cs : List ℕ) → run name_step n cs ≡ Some m → list_all is_name_octet cs ≡ true
name_octets n m [] e = refl
name_octets n m (c ∷ cs) e = name_octets_at (name_step n c) n m c cs refl (λ u g. name_octets u m cs g) e

-- what is said of a description and of an oid
record IsNamed (d : List ℕ) : Type 0 where
  head : ℕ
  rest : List ℕ
  parts : d ≡ head ∷ rest
  octets : list_all is_name_octet d ≡ true
  no_equals : nat_eq head 61 ≡ false

named_description : (d : List ℕ) → is_description d ≡ true → IsNamed d
named_description d h =
    let r = name_run d h in
    record {
      head = r.head;
      rest = r.tail;
      parts = r.parts;
      octets = ap (list_all is_name_octet) r.parts ∙ both (is_name_octet r.head) (list_all is_name_octet r.tail)
          (first_name r.first r.head r.begins) (name_octets (Oid r.first) r.place r.tail r.ran);
      no_equals = not_equals r.head r.first r.begins;
    }

named_oid : (d : List ℕ) → is_oid d ≡ true → IsNamed d
named_oid d h =
    let r = oid_run d h in
    record {
      head = r.head;
      rest = r.tail;
      parts = r.parts;
      octets = ap (list_all is_name_octet) r.parts ∙ both (is_name_octet r.head) (list_all is_name_octet r.tail)
          (first_name r.first r.head r.begins) (oid_octets r.first r.place r.tail r.ran);
      no_equals = not_equals r.head r.first r.begins;
    }

-- ---- fronts

abbrev pub Stops : (ℕ → Bool) → List ℕ → Type 0
Stops p [] = Unit {0}
Stops p (c ∷ cs) = p c ≡ false

pub record IsFront (p : ℕ → Bool) (text a x : List ℕ) : Type 0 where
  pub first : front p text ≡ a
  pub next : behind p text ≡ x

one_longer : (p : ℕ → Bool) (c : ℕ) (text a x : List ℕ) → p c ≡ true → IsFront p text a x →
    IsFront p (c ∷ text) (c ∷ a) x
one_longer p c text a x e f =
    let n : 1 + prefix_len p text ≡ suc (prefix_len p text) = omega arith in
    record {
      first = ap (λ b. take (cond b (1 + prefix_len p text) 0) (c ∷ text)) e ∙ ap (λ k. take k (c ∷ text)) n
          ∙ ap (λ y. c ∷ y) f.first;
      next = ap (λ b. drop (cond b (1 + prefix_len p text) 0) (c ∷ text)) e ∙ ap (λ k. drop k (c ∷ text)) n ∙ f.next;
    }

pub front_is : (p : ℕ → Bool) (a x : List ℕ) → list_all p a ≡ true → Stops p x → IsFront p (a ++ x) a x
front_is p [] [] h s = record { first = refl; next = refl }
front_is p [] (c ∷ cs) h s = record {
  first = ap (λ b. take (cond b (1 + prefix_len p cs) 0) (c ∷ cs)) s;
  next =
      ap (λ b. drop (cond b (1 + prefix_len p cs) 0) (c ∷ cs)) s;
}
front_is p (c ∷ cs) x h s = one_longer p c (cs ++ x) cs x (left (p c) (list_all p cs) h)
    (front_is p cs x (right (p c) (list_all p cs) h) s)

-- ---- asterisks

other_at : (b : Bool) (x : ℕ) → nat_eq x 42 ≡ b → (x ≡ 42 → ⊥) → not b ≡ true
other_at true x e f = absurd (f (eqb-true x 42 e))
other_at false x e f = refl

another : (x : ℕ) → (x ≡ 42 → ⊥) → is_other 42 x ≡ true
another x f = other_at (nat_eq x 42) x refl f

first_digit : (o p : Option ℕ) (n : ℕ) → with_high o p ≡ Some n → o ≡ None → ⊥
first_digit None p n e f = cc
first_digit (Some h) p n e f = cc

second_digit : (o p : Option ℕ) (n : ℕ) → with_high o p ≡ Some n → p ≡ None → ⊥
second_digit None p n e f = cc
second_digit (Some h) None n e f = cc
second_digit (Some h) (Some l) n e f = cc

value_lacks : {v text : List ℕ} → IsValue v text → list_all (is_other 42) text ≡ true
value_lacks nothing = refl
value_lacks (normal {v} {text} c e s) = both (is_other 42 c) (list_all (is_other 42) text)
    (another c (λ f. false_true (sym (ap is_normal f) ∙ e))) (value_lacks s)
value_lacks (escaped {v} {text} h l c e s) =
    both (is_other 42 h) (list_all (is_other 42) (l ∷ text))
    (another h (λ f. first_digit (hex_digit h) (hex_digit l) c e (ap hex_digit f)))
    (both (is_other 42 l) (list_all (is_other 42) text) (another l (λ f. second_digit (hex_digit h) (hex_digit l) c e
    (ap hex_digit f))) (value_lacks s))

abbrev star : ℕ → Bool
star c = nat_eq c 42

not_star : (b : Bool) → not b ≡ true → b ≡ false
not_star true e = absurd (false_true e)
not_star false e = refl

split_none : (text : List ℕ) → list_all (is_other 42) text ≡ true → slice_split star text ≡ text ∷ []
split_none [] h = refl
split_none (c ∷ cs) h =
    ap (λ b. cond b ([] ∷ slice_split star cs) (onto_first c (slice_split star cs)))
    (not_star (nat_eq c 42) (left (is_other 42 c) (list_all (is_other 42) cs) h))
    ∙ ap (onto_first c) (split_none cs (right (is_other 42 c) (list_all (is_other 42) cs) h))

split_at : (text x : List ℕ) → list_all (is_other 42) text ≡ true → slice_split star (text ++ 42 ∷ x) ≡
    text ∷ slice_split star x
split_at [] x h = refl
split_at (c ∷ cs) x h =
    ap (λ b. cond b ([] ∷ slice_split star (cs ++ 42 ∷ x)) (onto_first c (slice_split star (cs ++ 42 ∷ x))))
    (not_star (nat_eq c 42) (left (is_other 42 c) (list_all (is_other 42) cs) h))
    ∙ ap (onto_first c) (split_at cs x (right (is_other 42 c) (list_all (is_other 42) cs) h))

spread_onto : (any : List (List ℕ)) (s : List ℕ) (c : ℕ) (ys : List (List ℕ)) → spread any (s ∷ onto_first c ys) ≡
    option_and_then (λ v. spread (any ++ v ∷ []) (onto_first c ys)) (value_of s)
spread_onto any s c [] = refl
spread_onto any s c (y ∷ ys) = refl

spread_at : (b : Bool) (any : List (List ℕ)) (s : List ℕ) (c : ℕ) (cs : List ℕ)
    → spread any (s ∷ cond b ([] ∷ slice_split star cs) (onto_first c (slice_split star cs))) ≡ option_and_then
    (λ v. spread (any ++ v ∷ []) (cond b ([] ∷ slice_split star cs) (onto_first c (slice_split star cs))))
    (value_of s)
spread_at true any s c cs = refl
spread_at false any s c cs = spread_onto any s c (slice_split star cs)

-- one part before others
pub spread_more : (any : List (List ℕ)) (s x : List ℕ) → spread any (s ∷ slice_split star x) ≡ option_and_then
    (λ v. spread (any ++ v ∷ []) (slice_split star x)) (value_of s)
spread_more any s [] = refl
spread_more any s (c ∷ cs) = spread_at (nat_eq c 42) any s c cs

-- ---- parts

nothing_spelled : {v text : List ℕ} → IsValue v text → text ≡ [] → v ≡ []
nothing_spelled nothing e = refl
nothing_spelled (normal c f s) e = cc
nothing_spelled (escaped h l c f s) e = cc

end_part : (o : Option (List ℕ)) (text : List ℕ) → IsPartOrNone o text → part_of text ≡ Some o
end_part None text p = ap part_of p
end_part (Some v) [] p = absurd (p.is_some (nothing_spelled p.is_value refl))
end_part (Some v) (c ∷ cs) p = ap (option_map Some) (value_is p.is_value)

end_lacks : (o : Option (List ℕ)) (text : List ℕ) → IsPartOrNone o text → list_all (is_other 42) text ≡ true
end_lacks None text p = ap (list_all (is_other 42)) p
end_lacks (Some v) text p = value_lacks p.is_value

parts_spread : (any vs : List (List ℕ)) (o : Option (List ℕ)) (text : List ℕ) → AreParts vs o text →
    spread any (slice_split star text) ≡ Some (record { any = any ++ vs; last = o })
parts_spread any [] o text p =
    ap (spread any) (split_none text (end_lacks o text p)) ∙ ap (option_map (λ l. record { any = any; last = l }))
    (end_part o text p)
    ∙ ap (λ xs. Some (record { any = xs; last = o })) (sym (append-nil any))
parts_spread any (v ∷ vs) o text p =
    ap (λ y. spread any (slice_split star y)) p.parts
    ∙ ap (spread any) (split_at p.before p.behind (value_lacks p.is_before.is_value))
    ∙ spread_more any p.before p.behind
    ∙ ap (λ r. option_and_then (λ u. spread (any ++ u ∷ []) (slice_split star p.behind)) r)
    (value_is p.is_before.is_value)
    ∙ parts_spread (any ++ v ∷ []) vs o p.behind p.is_behind
    ∙ ap (λ xs. Some (record { any = xs; last = o })) (push_onto any v vs)

-- ---- `=`

value_front : {v text : List ℕ} → IsValue v text → IsFront (is_other 42) text text []
value_front {v} {text} s = subst (λ y. IsFront (is_other 42) y text []) (append-nil text)
    (front_is (is_other 42) text [] (value_lacks s) tt)

equal_is : (d a x : List ℕ) → IsValue a x → equality d x ≡ Some (comparison equal d a)
equal_is d a x s =
    let f = value_front s in
    ap (λ y. equal_or_starred d x y (behind (is_other 42) x)) f.first ∙ ap (λ y. equal_or_starred d x x y) f.next
    ∙ ap (option_map (comparison equal d)) (value_is s)

-- a text before an asterisk, and one behind it
star_is : (d before x : List ℕ) → list_all (is_other 42) before ≡ true → equality d (before ++ 42 ∷ x) ≡
    starred d before x
star_is d before x h =
    let f = front_is (is_other 42) before (42 ∷ x) h refl in
    ap (λ y. equal_or_starred d (before ++ 42 ∷ x) y (behind (is_other 42) (before ++ 42 ∷ x))) f.first
    ∙ ap (λ y. equal_or_starred d (before ++ 42 ∷ x) before y) f.next

abbrev substrings_item : List ℕ → Option (List ℕ) → List (List ℕ) → Option (List ℕ) → Item
substrings_item d i any last = substrings (record { description = d; initial = i; any = any; last = last })

no_octets : (before x : List ℕ) → [] ≡ before ++ 42 ∷ x → ⊥
no_octets [] x e = cc
no_octets (c ∷ cs) x e = cc

no_parts : (any : List (List ℕ)) (last : Option (List ℕ)) → AreParts any last [] → has_part None any last ≡ true → ⊥
no_parts [] None p h = false_true h
no_parts [] (Some v) p h = p.is_some (nothing_spelled p.is_value refl)
no_parts (v ∷ vs) last p h = no_octets p.before p.behind p.parts

bare_parts : (d x : List ℕ) (any : List (List ℕ)) (last : Option (List ℕ)) → AreParts any last x →
    has_part None any last ≡ true → starred d [] x ≡ Some (substrings_item d None any last)
bare_parts d [] any last p h = absurd (no_parts any last p h)
bare_parts d (c ∷ cs) any last p h = ap (substrings_of d None) (parts_spread [] any last (c ∷ cs) p)

initial_parts : (d v before x : List ℕ) (any : List (List ℕ)) (last : Option (List ℕ)) → IsPart v before →
    AreParts any last x → starred d before x ≡ Some (substrings_item d (Some v) any last)
initial_parts d v [] x any last i p = absurd (i.is_some (nothing_spelled i.is_value refl))
initial_parts d v (b ∷ bs) x any last i p =
    ap (λ r. option_and_then (λ u. substrings_of d u (parts_of x)) (option_map Some r)) (value_is i.is_value)
    ∙ ap (substrings_of d (Some v)) (parts_spread [] any last x p)

starred_is : (d x : List ℕ) (i : Option (List ℕ)) (any : List (List ℕ)) (last : Option (List ℕ)) →
    Starred (IsPartOrNone i) (AreParts any last) x → has_part i any last ≡ true
    → equality d x ≡ Some (substrings_item d i any last)
starred_is d x None any last p h =
    ap (equality d) (p.parts ∙ ap (λ y. y ++ 42 ∷ p.behind) p.is_before) ∙ star_is d [] p.behind refl
    ∙ bare_parts d p.behind any last p.is_behind h
starred_is d x (Some v) any last p h =
    ap (equality d) p.parts ∙ star_is d p.before p.behind (value_lacks p.is_before.is_value)
    ∙ initial_parts d v p.before p.behind any last p.is_before p.is_behind

-- ---- the description, and what follows

named_item : (d : List ℕ) (c : ℕ) (x : List ℕ) → list_all is_name_octet d ≡ true → is_name_octet c ≡ false →
    item_of (d ++ c ∷ x) ≡ item_at d (c ∷ x)
named_item d c x h e =
    let f = front_is is_name_octet d (c ∷ x) h e in
    ap (λ y. item_at y (behind is_name_octet (d ++ c ∷ x))) f.first ∙ ap (item_at d) f.next

simple_is : (k : Comparison) (d a x : List ℕ) → is_description d ≡ true → IsValue a x →
    item_of (d ++ (operator k ++ x)) ≡ Some (comparison k d a)
simple_is equal d a x h s = named_item d 61 x (named_description d h).octets refl ∙ equal_is d a x s
simple_is at_least d a x h s = named_item d 62 (61 ∷ x) (named_description d h).octets refl
    ∙ ap (option_map (comparison at_least d)) (value_is s)
simple_is at_most d a x h s = named_item d 60 (61 ∷ x) (named_description d h).octets refl
    ∙ ap (option_map (comparison at_most d)) (value_is s)
simple_is approximate d a x h s = named_item d 126 (61 ∷ x) (named_description d h).octets refl
    ∙ ap (option_map (comparison approximate d)) (value_is s)

-- ---- a colon

-- what stands behind a name has another octet than `=` first
not_assigned : (r x : List ℕ) → IsNamed r → begins_with 61 (r ++ x) ≡ false
not_assigned r x n = ap (λ y. begins_with 61 (y ++ x)) n.parts ∙ n.no_equals

word_is : (k : Bool) (w x : List ℕ) → IsNamed w → applied k (w ++ 58 ∷ x) ≡ worded k w x
word_is k w x n =
    let f = front_is is_name_octet w (58 ∷ x) n.octets refl in
    ap (λ b. cond b (record { dn = false; rule = None; value = tail (w ++ 58 ∷ x) })
    (worded k (front is_name_octet (w ++ 58 ∷ x)) (tail (behind is_name_octet (w ++ 58 ∷ x)))))
    (not_assigned w (58 ∷ x) n)
    ∙ ap (λ y. worded k y (tail (behind is_name_octet (w ++ 58 ∷ x)))) f.first ∙ ap (λ y. worded k w (tail y)) f.next

last_is : (k : Bool) (w r v : List ℕ) → IsNamed r → worded k w (r ++ 58 ∷ 61 ∷ v) ≡
    record { dn = true; rule = Some r; value = v }
last_is k w r v n =
    let z = r ++ 58 ∷ 61 ∷ v in
    let f = front_is is_name_octet r (58 ∷ 61 ∷ v) n.octets refl in
    ap (λ b. cond b (cond (k && is_dn w) (record { dn = true; rule = None; value = tail z })
    (record { dn = false; rule = Some w; value = tail z }))
    (record { dn = true; rule = Some (front is_name_octet z); value = tail (tail (behind is_name_octet z)) }))
    (not_assigned r (58 ∷ 61 ∷ v) n)
    ∙ ap (λ y. record { dn = true; rule = Some y; value = tail (tail (behind is_name_octet z)) }) f.first
    ∙ ap (λ y. record { dn = true; rule = Some r; value = tail (tail y) }) f.next

-- what is said behind the first colon
abbrev says : Bool → Option (List ℕ) → List ℕ → Applied
says b r v = record { dn = b; rule = r; value = v }

rule_applied : (k : Bool) (r v : List ℕ) → IsNamed r → (k && is_dn r) ≡ false → applied k (r ++ 58 ∷ 61 ∷ v) ≡
    says false (Some r) v
rule_applied k r v n e = word_is k r (61 ∷ v) n ∙ ap (λ b. cond b (says true None v) (says false (Some r) v)) e

flag_applied : (w v : List ℕ) → IsNamed w → is_dn w ≡ true → applied true (w ++ 58 ∷ 61 ∷ v) ≡ says true None v
flag_applied w v n e = word_is true w (61 ∷ v) n ∙ ap (λ b. cond b (says true None v) (says false (Some w) v)) e

both_applied : (k : Bool) (w r v : List ℕ) → IsNamed w → IsNamed r → applied k (w ++ 58 ∷ (r ++ 58 ∷ 61 ∷ v)) ≡
    says true (Some r) v
both_applied k w r v n m = word_is k w (r ++ 58 ∷ 61 ∷ v) n ∙ last_is k w r v m

abbrev extensible_item : Option (List ℕ) → Bool → Option (List ℕ) → List ℕ → Item
extensible_item d b r v = extensible (record { matching_rule = r; description = d; match_value = v; dn_attributes = b })

some_description : (d : List ℕ) → IsNamed d → (described_by d ≡ Some d) × (not (is_empty d) ≡ true)
some_description d n = (ap described_by n.parts ∙ ap Some (sym n.parts), ap (λ y. not (is_empty y)) n.parts)

with_description : (d x v a : List ℕ) (b : Bool) (r : Option (List ℕ)) → is_description d ≡ true → applied true x ≡
    says b r v → IsValue a v → item_of (d ++ 58 ∷ x) ≡ Some (extensible_item (Some d) b r a)
with_description d x v a b r h e s =
    let n = named_description d h in
    let o = some_description d n in
    named_item d 58 x n.octets refl
    ∙ ap (λ k. extensible_with d (applied k x)) o.1 ∙ ap (extensible_with d) e
    ∙ ap (option_map (λ u. extensible_item (described_by d) b r u)) (value_is s)
    ∙ ap (λ y. Some (extensible_item y b r a)) o.0

without_description : (x v a : List ℕ) (b : Bool) (r : Option (List ℕ)) → applied false x ≡ says b r v → IsValue a v →
    item_of (58 ∷ x) ≡ Some (extensible_item None b r a)
without_description x v a b r e s = ap (extensible_with []) e ∙ ap (option_map (λ u. extensible_item None b r u))
    (value_is s)

not_dn : (b : Bool) → (false || not b) ≡ true → b ≡ false
not_dn true h = absurd (false_true h)
not_dn false h = refl

named_dn : (w : List ℕ) → is_dn w ≡ true → IsNamed w
named_dn w h = named_oid w (dn_oid w h)

extensible_is : (d : Option (List ℕ)) (b : Bool) (r : Option (List ℕ)) (a flag value text : List ℕ)
    → text ≡ part_or_nothing d ++ (flag ++ (rule_text r ++ 58 ∷ 61 ∷ value)) → IsFlag b flag → is_applicable d b r ≡
    true → IsValue a value → item_of text ≡ Some (extensible_item d b r a)
extensible_is None b None a flag value text e f h s = absurd (false_true h)
extensible_is None false (Some r) a flag value text e f h s =
    ap item_of (e ∙ ap (λ x. x ++ 58 ∷ (r ++ 58 ∷ 61 ∷ value)) f) ∙ without_description (r ++ 58 ∷ 61 ∷ value) value a
    false (Some r) (rule_applied false r value (named_oid r h) refl) s
extensible_is None true (Some r) a flag value text e f h s =
    ap item_of (e ∙ ap (λ x. x ++ 58 ∷ (r ++ 58 ∷ 61 ∷ value)) f.1)
    ∙ without_description (f.0 ++ 58 ∷ (r ++ 58 ∷ 61 ∷ value)) value a true (Some r) (both_applied false f.0 r value
    (named_dn f.0 f.2) (named_oid r h)) s
extensible_is (Some d) false None a flag value text e f h s =
    ap item_of (e ∙ ap (λ x. d ++ (x ++ 58 ∷ 61 ∷ value)) f) ∙ with_description d (61 ∷ value) value a false None h
    refl s
extensible_is (Some d) true None a flag value text e f h s =
    ap item_of (e ∙ ap (λ x. d ++ (x ++ 58 ∷ 61 ∷ value)) f.1) ∙ with_description d (f.0 ++ 58 ∷ 61 ∷ value) value a
    true None h (flag_applied f.0 value (named_dn f.0 f.2) f.2) s
extensible_is (Some d) false (Some r) a flag value text e f h s =
    let p = left (is_description d && is_oid r) (false || not (is_dn r)) h in
    ap item_of (e ∙ ap (λ x. d ++ (x ++ 58 ∷ (r ++ 58 ∷ 61 ∷ value))) f)
    ∙ with_description d (r ++ 58 ∷ 61 ∷ value) value a false (Some r) (left (is_description d) (is_oid r) p)
    (rule_applied true r value (named_oid r (right (is_description d) (is_oid r) p))
    (not_dn (is_dn r) (right (is_description d && is_oid r) (false || not (is_dn r)) h))) s
extensible_is (Some d) true (Some r) a flag value text e f h s =
    let p = left (is_description d && is_oid r) (true || not (is_dn r)) h in
    ap item_of (e ∙ ap (λ x. d ++ (x ++ 58 ∷ (r ++ 58 ∷ 61 ∷ value))) f.1)
    ∙ with_description d (f.0 ++ 58 ∷ (r ++ 58 ∷ 61 ∷ value)) value a true (Some r)
    (left (is_description d) (is_oid r) p)
    (both_applied true f.0 r value (named_dn f.0 f.2) (named_oid r (right (is_description d) (is_oid r) p))) s

-- ---- items

pub item_is : (i : Item) (text : List ℕ) → IsItemText i text → item_of text ≡ Some i
item_is (comparison k d a) text p = ap item_of p.parts ∙ simple_is k d a p.value p.is_description p.is_value
item_is (substrings s) text p =
    ap item_of p.parts ∙ named_item s.description 61 p.value (named_description s.description p.is_description).octets
    refl
    ∙ starred_is s.description p.value s.initial s.any s.last p.are_parts p.some
item_is (presence d) text p = ap item_of p.parts ∙ named_item d 61 (42 ∷ [])
    (named_description d p.is_description).octets refl
item_is (extensible e) text p = extensible_is e.description e.dn_attributes e.matching_rule e.match_value p.flag
    p.value text p.parts p.is_flag p.applies p.is_value

-- ---- the parts of a text, one after the other

record IsCut (text : List ℕ) : Type 0 where
  parts : front (is_other 42) text ++ behind (is_other 42) text ≡ text
  lacks : list_all (is_other 42) (front (is_other 42) text) ≡ true
  stops : Stops (is_other 42) (behind (is_other 42) text)

cut_at : (b : Bool) (c : ℕ) (cs : List ℕ) → is_other 42 c ≡ b → IsCut cs → IsCut (c ∷ cs)
cut_at true c cs e k =
    let n : 1 + prefix_len (is_other 42) cs ≡ suc (prefix_len (is_other 42) cs) = omega arith in
    let f : front (is_other 42) (c ∷ cs) ≡ c ∷ front (is_other 42) cs =
    ap (λ b. take (cond b (1 + prefix_len (is_other 42) cs) 0) (c ∷ cs)) e ∙ ap (λ k. take k (c ∷ cs)) n in
    let g : behind (is_other 42) (c ∷ cs) ≡ behind (is_other 42) cs =
    ap (λ b. drop (cond b (1 + prefix_len (is_other 42) cs) 0) (c ∷ cs)) e ∙ ap (λ k. drop k (c ∷ cs)) n in
    record {
      parts = ap (λ y. y ++ behind (is_other 42) (c ∷ cs)) f ∙ ap (λ y. (c ∷ front (is_other 42) cs) ++ y) g
          ∙ ap (λ y. c ∷ y) k.parts;
      lacks = ap (list_all (is_other 42)) f ∙ both (is_other 42 c) (list_all (is_other 42) (front (is_other 42) cs)) e
          k.lacks;
      stops = subst (Stops (is_other 42)) (sym g) k.stops;
    }
cut_at false c cs e k =
    let f : front (is_other 42) (c ∷ cs) ≡ [] = ap (λ b. take (cond b (1 + prefix_len (is_other 42) cs) 0) (c ∷ cs)) e
    in
    let g : behind (is_other 42) (c ∷ cs) ≡ c ∷ cs = ap (λ b. drop (cond b (1 + prefix_len (is_other 42) cs) 0)
    (c ∷ cs)) e in
    record {
      parts = ap (λ y. y ++ behind (is_other 42) (c ∷ cs)) f ∙ g;
      lacks = ap (list_all (is_other 42)) f;
      stops = subst (Stops (is_other 42)) (sym g) e;
    }

is_cut : (text : List ℕ) → IsCut text
is_cut [] = record { parts = refl; lacks = refl; stops = tt }
is_cut (c ∷ cs) = cut_at (is_other 42 c) c cs refl (is_cut cs)

is_star : (b : Bool) (c : ℕ) → nat_eq c 42 ≡ b → not b ≡ false → c ≡ 42
is_star true c e f = eqb-true c 42 e
is_star false c e f = absurd (false_true (sym f))

split_front : (f b : List ℕ) → list_all (is_other 42) f ≡ true → Stops (is_other 42) b → is_empty b ≡ false →
    slice_split star (f ++ b) ≡ f ∷ slice_split star (tail b)
split_front f [] h s n = absurd (false_true (sym n))
split_front f (c ∷ cs) h s n = ap (λ d. slice_split star (f ++ d ∷ cs)) (is_star (nat_eq c 42) c refl s)
    ∙ split_at f cs h

-- one part more
pub next_part : (any : List (List ℕ)) (text : List ℕ) → is_empty (behind (is_other 42) text) ≡ false
    → spread any (slice_split star text) ≡ option_and_then
    (λ v. spread (any ++ v ∷ []) (slice_split star (tail (behind (is_other 42) text))))
    (value_of (front (is_other 42) text))
next_part any text n =
    let k = is_cut text in
    ap (λ y. spread any (slice_split star y)) (sym k.parts)
    ∙ ap (spread any) (split_front (front (is_other 42) text) (behind (is_other 42) text) k.lacks k.stops n)
    ∙ spread_more any (front (is_other 42) text) (tail (behind (is_other 42) text))

nil_is : (b : List ℕ) → is_empty b ≡ true → b ≡ []
nil_is [] e = refl
nil_is (c ∷ cs) e = absurd (false_true e)

-- the part at the end
pub end_of_parts : (any : List (List ℕ)) (text : List ℕ) → is_empty (behind (is_other 42) text) ≡ true →
    spread any (slice_split star text) ≡ option_map (λ l. record { any = any; last = l }) (part_of text)
end_of_parts any text n =
    let k = is_cut text in
    let e = sym (append-nil (front (is_other 42) text)) ∙ ap (λ y. front (is_other 42) text ++ y)
    (sym (nil_is (behind (is_other 42) text) n)) ∙ k.parts in
    ap (spread any) (split_none text (ap (list_all (is_other 42)) (sym e) ∙ k.lacks))

shorter_at : (b : List ℕ) → is_empty b ≡ false → length (tail b) < length b
shorter_at [] e = absurd (false_true (sym e))
shorter_at (c ∷ cs) e = omega arith

pub shorter : (text : List ℕ) → is_empty (behind (is_other 42) text) ≡ false →
    length (tail (behind (is_other 42) text)) < length text
shorter text e = omega (
  arith,
  shorter_at (behind (is_other 42) text) e,
  length-drop (prefix_len (is_other 42)
      text) text,
)

-- what the loop over parts has, at its exits
pub part_fault : {P Q : Type 0} (e : FilterTextError) → (P → Q) → PartFault e P → PartFault e Q
part_fault (BadFilterText at) f h = f h
part_fault TooDeep f h = h
part_fault TooManyItems f h = h
part_fault NoMemory f h = h

abbrev pub SoFar : List (List ℕ) → List ℕ → List ℕ → Type 0
SoFar any rest text = spread any (slice_split star rest) ≡ parts_of text

pub part_missing : (any : List (List ℕ)) (rest text stars before : List ℕ) (b : Bool) → SoFar any rest text →
    stars ≡ behind (is_other 42) rest → b ≡ is_empty stars → b ≡ false
    → before ≡ front (is_other 42) rest → value_of before ≡ None → parts_of text ≡ None
part_missing any rest text stars before b so_far s n f e v =
    sym so_far ∙ next_part any rest (sym (n ∙ ap is_empty s) ∙ f)
    ∙ ap (λ r. option_and_then (λ v. spread (any ++ v ∷ []) (slice_split star (tail (behind (is_other 42) rest)))) r)
    (ap value_of (sym e) ∙ v)

pub part_found : (any : List (List ℕ)) (rest text stars before v : List ℕ) (b : Bool) → SoFar any rest text →
    stars ≡ behind (is_other 42) rest → b ≡ is_empty stars → b ≡ false
    → before ≡ front (is_other 42) rest → value_of before ≡ Some v →
    SoFar (any ++ v ∷ []) (tail (behind (is_other 42) rest)) text
part_found any rest text stars before v b so_far s n f e g =
    sym (next_part any rest (sym (n ∙ ap is_empty s) ∙ f)
    ∙ ap (λ r. option_and_then (λ v. spread (any ++ v ∷ []) (slice_split star (tail (behind (is_other 42) rest)))) r)
    (ap value_of (sym e) ∙ g)) ∙ so_far

pub last_found : (any : List (List ℕ)) (last : Option (List ℕ)) (rest text stars : List ℕ) (b : Bool) →
    SoFar any rest text → stars ≡ behind (is_other 42) rest → b ≡ is_empty stars → b ≡ true
    → part_of rest ≡ Some last → parts_of text ≡ Some (record { any = any; last = last })
last_found any last rest text stars b so_far s n f e =
    sym so_far ∙ end_of_parts any rest (sym (n ∙ ap is_empty s) ∙ f)
    ∙ ap (option_map (λ l. record { any = any; last = l })) e

pub last_missing : (any : List (List ℕ)) (rest text stars : List ℕ) (b : Bool) → SoFar any rest text →
    stars ≡ behind (is_other 42) rest → b ≡ is_empty stars → b ≡ true
    → part_of rest ≡ None → parts_of text ≡ None
last_missing any rest text stars b so_far s n f e = sym so_far ∙ end_of_parts any rest (sym (n ∙ ap is_empty s) ∙ f)
    ∙ ap (option_map (λ l. record { any = any; last = l })) e
