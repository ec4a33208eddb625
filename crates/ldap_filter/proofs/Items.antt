-- Octets spell one item, and which kind its first octet tells.
use Rattle.std.proofs.Common.{◌≡◌, ℕ, Bool, Option, List, [], ◌∷◌, inl, inr, refl, sym, ap, ap₂, subst, ◌∙◌, arith}
use Rattle.ldap_ber.proofs.Same.{Same, step, field_front, octets_unique, text_unique, text_or_none_unique, octets_or_none_unique, flag_or_false_unique, text_part, same_field}
use Rattle.ldap_ber.proofs.Parts.{octets_part, text_or_none_part, octets_or_none_part}
use Rattle.ldap_filter.specs.Item.{Comparison, equal, at_least, at_most, approximate, SubstringsValue, ExtensibleValue, Item, comparison, substrings, presence, extensible}
use Rattle.ldap_filter.specs.ItemGrammar.{comparison_octet, item_octet, IsAssertion, AreAnyParts, AreParts, IsSubstrings, IsExtensible, IsItem}
use Rattle.ldap_filter.specs.Limits.{IsOctet}

-- ---- one value

same_assertion : (d a e b content : List ℕ) → IsAssertion d a content → IsAssertion e b content → (d ≡ e) × (a ≡ b)
same_assertion d a e b content p q =
    let s = step text_part (text_unique 4) _ d e content p.rest p.first q in
    (s.value, (octets_unique 4 a b p.rest [] [] p.next s.next).value)

pub any_unique : (vs ws : List (List ℕ)) (o x y : List ℕ) → AreAnyParts vs o x → AreAnyParts ws o y →
    Same (List (List ℕ)) vs ws x y
any_unique [] [] o x y p q = record { value = refl; rest = sym p.0 ∙ q.0 }
any_unique [] (w ∷ ws) o x y p q = absurd (field_front o w q.rest 129 q.first p.1)
any_unique (v ∷ vs) [] o x y p q = absurd (field_front o v p.rest 129 p.first q.1)
any_unique (v ∷ vs) (w ∷ ws) o x y p q =
    let s = octets_unique 129 v w o p.rest q.rest p.first q.first in
    let t = any_unique vs ws q.rest x y (subst (λ (z : List ℕ). AreAnyParts vs z x) s.rest p.next) q.next in
    record { value = ap₂ (λ (a : List ℕ) (b : List (List ℕ)). a ∷ b) s.value t.value; rest = t.rest }

abbrev with_parts : List ℕ → Option (List ℕ) → List (List ℕ) → Option (List ℕ) → SubstringsValue
with_parts d i a l = record { description = d; initial = i; any = a; last = l }

same_substrings : (s t : SubstringsValue) (content : List ℕ) → IsSubstrings s content → IsSubstrings t content → s ≡ t
same_substrings s t content p q =
    let d = step text_part (text_unique 4) _ s.description t.description content p.rest p.first q in
    let f = same_field p.rest p.next.content d.next.content [] [] 48 48 p.next.field d.next.field in
    let h = subst (AreParts t) (sym f.content) d.next.inside in
    let i = step (octets_or_none_part 128) (octets_or_none_unique 128) _ s.initial t.initial p.next.content
    p.next.inside.1.rest p.next.inside.1.first h.1 in
    let a = step AreAnyParts any_unique _ s.any t.any p.next.inside.1.rest p.next.inside.1.next.rest
    p.next.inside.1.next.first i.next in
    let l = octets_or_none_unique 130 s.last t.last p.next.inside.1.next.rest [] [] p.next.inside.1.next.next a.next in
    ap₂ (λ (x : List ℕ) (y : Option (List ℕ)). with_parts x y s.any s.last) d.value i.value
    ∙ ap₂ (λ (x : List (List ℕ)) (y : Option (List ℕ)). with_parts t.description t.initial x y) a.value l.value

abbrev with_fields : Option (List ℕ) → Option (List ℕ) → List ℕ → Bool → ExtensibleValue
with_fields r d v b = record { matching_rule = r; description = d; match_value = v; dn_attributes = b }

same_extensible : (e f : ExtensibleValue) (content : List ℕ) → IsExtensible e content → IsExtensible f content → e ≡ f
same_extensible e f content p q =
    let r = step (text_or_none_part 129) (text_or_none_unique 129) _ e.matching_rule f.matching_rule content p.rest
    p.first q in
    let d = step (text_or_none_part 130) (text_or_none_unique 130) _ e.description f.description p.rest p.next.rest
    p.next.first r.next in
    let v = step (octets_part 131) (octets_unique 131) _ e.match_value f.match_value p.next.rest p.next.next.rest
    p.next.next.first d.next in
    let b = flag_or_false_unique 132 e.dn_attributes f.dn_attributes p.next.next.rest [] [] p.next.next.next v.next in
    ap₂ (λ (x y : Option (List ℕ)). with_fields x y e.match_value e.dn_attributes) r.value d.value
    ∙ ap₂ (λ (x : List ℕ) (y : Bool). with_fields f.matching_rule f.description x y) v.value b.value

-- ---- the first octet tells the kind

pub record Apart (n : ℕ) : Type 0 where
  pub substrings : n ≡ 164 → ⊥
  pub presence : n ≡ 135 → ⊥
  pub extensible : n ≡ 169 → ⊥

pub apart : (k : Comparison) → Apart (comparison_octet k)
apart equal = record {
  substrings = λ e. omega (arith, e);
  presence = λ e. omega (arith, e);
  extensible = λ e.
      omega (arith, e);
}
apart at_least = record {
  substrings = λ e. omega (arith, e);
  presence = λ e. omega (arith, e);
  extensible = λ e.
      omega (arith, e);
}
apart at_most = record {
  substrings = λ e. omega (arith, e);
  presence = λ e. omega (arith, e);
  extensible = λ e.
      omega (arith, e);
}
apart approximate = record {
  substrings = λ e. omega (arith, e);
  presence = λ e. omega (arith, e);
  extensible = λ e.
      omega (arith, e);
}

same_comparison : (k l : Comparison) → comparison_octet k ≡ comparison_octet l → k ≡ l
same_comparison equal equal e = refl
same_comparison at_least at_least e = refl
same_comparison at_most at_most e = refl
same_comparison approximate approximate e = refl
same_comparison equal at_least e = absurd (omega arith)
same_comparison equal at_most e = absurd (omega arith)
same_comparison equal approximate e = absurd (omega arith)
same_comparison at_least equal e = absurd (omega arith)
same_comparison at_least at_most e = absurd (omega arith)
same_comparison at_least approximate e = absurd (omega arith)
same_comparison at_most equal e = absurd (omega arith)
same_comparison at_most at_least e = absurd (omega arith)
same_comparison at_most approximate e = absurd (omega arith)
same_comparison approximate equal e = absurd (omega arith)
same_comparison approximate at_least e = absurd (omega arith)
same_comparison approximate at_most e = absurd (omega arith)

pub item_unique : (i j : Item) (content : List ℕ) → item_octet i ≡ item_octet j → IsItem i content →
    IsItem j content → i ≡ j
item_unique (comparison k d a) (comparison l e b) content same p q =
    let s = same_assertion d a e b content p q in
    ap (λ (x : Comparison). comparison x d a) (same_comparison k l same) ∙ ap₂ (λ (x y : List ℕ). comparison l x y)
    s.0 s.1
item_unique (substrings s) (substrings t) content same p q = ap substrings (same_substrings s t content p q)
item_unique (presence d) (presence e) content same p q = ap presence (sym p.0 ∙ q.0)
item_unique (extensible e) (extensible f) content same p q = ap extensible (same_extensible e f content p q)
item_unique (comparison k d a) (substrings t) content same p q = absurd ((apart k).substrings same)
item_unique (comparison k d a) (presence e) content same p q = absurd ((apart k).presence same)
item_unique (comparison k d a) (extensible e) content same p q = absurd ((apart k).extensible same)
item_unique (substrings s) (comparison k d a) content same p q = absurd ((apart k).substrings (sym same))
item_unique (presence e) (comparison k d a) content same p q = absurd ((apart k).presence (sym same))
item_unique (extensible e) (comparison k d a) content same p q = absurd ((apart k).extensible (sym same))
item_unique (substrings s) (presence e) content same p q = absurd (omega arith)
item_unique (substrings s) (extensible e) content same p q = absurd (omega arith)
item_unique (presence d) (substrings s) content same p q = absurd (omega arith)
item_unique (presence d) (extensible e) content same p q = absurd (omega arith)
item_unique (extensible e) (substrings s) content same p q = absurd (omega arith)
item_unique (extensible e) (presence d) content same p q = absurd (omega arith)

comparison_known : (k : Comparison) → IsOctet (comparison_octet k)
comparison_known equal = inl (omega arith, omega arith)
comparison_known at_least = inl (omega arith, omega arith)
comparison_known at_most = inl (omega arith, omega arith)
comparison_known approximate = inr (inl (omega arith, omega arith))

pub item_known : (i : Item) → IsOctet (item_octet i)
item_known (comparison k d a) = comparison_known k
item_known (substrings s) = inl (omega arith, omega arith)
item_known (presence d) = inr (inr refl)
item_known (extensible x) = inr (inl (omega arith, omega arith))

-- no item has the first octet of `and`, `or` or `not`
pub record NoRow (n : ℕ) : Type 0 where
  pub conj : n ≡ 160 → ⊥
  pub disj : n ≡ 161 → ⊥
  pub negation : n ≡ 162 → ⊥

comparison_is_no_row : (k : Comparison) → NoRow (comparison_octet k)
comparison_is_no_row equal = record {
  conj = λ e. omega (arith, e);
  disj = λ e. omega (arith, e);
  negation = λ e.
      omega (arith, e);
}
comparison_is_no_row at_least = record {
  conj = λ e. omega (arith, e);
  disj = λ e. omega (arith, e);
  negation = λ e.
      omega (arith, e);
}
comparison_is_no_row at_most = record {
  conj = λ e. omega (arith, e);
  disj = λ e. omega (arith, e);
  negation = λ e.
      omega (arith, e);
}
comparison_is_no_row approximate = record {
  conj = λ e. omega (arith, e);
  disj = λ e. omega (arith, e);
  negation =
      λ e. omega (arith, e);
}

pub is_no_row : (i : Item) → NoRow (item_octet i)
is_no_row (comparison k d a) = comparison_is_no_row k
is_no_row (substrings s) = record {
  conj = λ e. omega (arith, e);
  disj = λ e. omega (arith, e);
  negation = λ e.
      omega (arith, e);
}
is_no_row (presence d) = record {
  conj = λ e. omega (arith, e);
  disj = λ e. omega (arith, e);
  negation = λ e.
      omega (arith, e);
}
is_no_row (extensible x) = record {
  conj = λ e. omega (arith, e);
  disj = λ e. omega (arith, e);
  negation = λ e.
      omega (arith, e);
}
