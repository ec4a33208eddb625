-- What a part of an item lacks, the item lacks: at each exit of a reader, behind the parts that it read.
use Rattle.std.proofs.Common.{◌≡◌, ℕ, Bool, Option, List, [], ◌∷◌, ◌++◌, refl, sym, ap, subst, ◌∙◌, append_assoc}
use Rattle.std.proofs.lemmas.List.{append-nil}
use Rattle.ldap_ber.specs.Fields.{HasField, HasText, HasTextOrNone, HasOctetsOrNone, HasFlagOrFalse, BeginsOtherwise}
use Rattle.ldap_ber.proofs.Same.{step, octets_unique, text_unique, text_or_none_unique, octets_or_none_unique, flag_or_false_unique, text_part, same_field}
use Rattle.ldap_ber.proofs.Parts.{octets_part, text_or_none_part, octets_or_none_part}
use Rattle.ldap_filter.specs.Item.{SubstringsValue, ExtensibleValue}
use Rattle.ldap_filter.specs.ItemGrammar.{AreAnyParts, AreParts, IsSubstrings, IsExtensible}
use Rattle.ldap_filter.proofs.Items.{any_unique}

-- ---- parts between

-- what the loop has read: parts before what is left make parts of the whole, and parts of the whole go on in what is
-- left
pub record SomeParts (octets : List ℕ) (done : List (List ℕ)) (rest : List ℕ) : Type 0 where
  pub behind : (vs : List (List ℕ)) (r : List ℕ) → AreAnyParts vs rest r → AreAnyParts (done ++ vs) octets r
  pub ahead : (vs : List (List ℕ)) (r : List ℕ) → AreAnyParts vs octets r → (ws : List (List ℕ)) × AreAnyParts ws rest r

pub no_parts : (octets : List ℕ) → SomeParts octets [] octets
no_parts octets = record { behind = λ vs r h. h; ahead = λ vs r h. (vs, h) }

next_part : (v rest after : List ℕ) → HasField rest 129 v after → (BeginsOtherwise rest 129 → ⊥) →
    (ws : List (List ℕ)) (r : List ℕ) → AreAnyParts ws rest r → (us : List (List ℕ)) × AreAnyParts us after r
next_part v rest after f begins [] r h = absurd (begins h.1)
next_part v rest after f begins (w ∷ ws) r h =
    (ws, (step (octets_part 129) (octets_unique 129) _ v w rest after f h).next)

pub one_more_part : (octets : List ℕ) (done new : List (List ℕ)) (rest v after : List ℕ) →
    SomeParts octets done rest → (BeginsOtherwise rest 129 → ⊥) → HasField rest 129 v after → new ≡ done ++ v ∷ [] →
    SomeParts octets new after
one_more_part octets done new rest v after so_far begins f pushed = record {
  behind = λ vs r h.
      subst (λ (xs : List (List ℕ)). AreAnyParts xs octets r) (sym (ap (λ (xs : List (List ℕ)). xs ++ vs) pushed
      ∙ append_assoc done (v ∷ []) vs))
      (so_far.behind (v ∷ vs) r (record { rest = after; first = f; next = h }));
  ahead = λ vs r h. let a = so_far.ahead vs r h in next_part v rest after f begins a.0 r a.1;
}

pub all_parts : (octets rest : List ℕ) (done : List (List ℕ)) → SomeParts octets done rest →
    BeginsOtherwise rest 129 → AreAnyParts done octets rest
all_parts octets rest done so_far begins = subst (λ (xs : List (List ℕ)). AreAnyParts xs octets rest)
    (append-nil done) (so_far.behind [] rest (refl, begins))

begins_part : (ws : List (List ℕ)) (rest r : List ℕ) → (BeginsOtherwise rest 129 → ⊥) → AreAnyParts ws rest r →
    (v x : List ℕ) × HasField rest 129 v x
begins_part [] rest r begins h = absurd (begins h.1)
begins_part (w ∷ ws) rest r begins h = (w, h.rest, h.first)

pub no_part : (octets rest : List ℕ) (done : List (List ℕ)) → SomeParts octets done rest →
    (BeginsOtherwise rest 129 → ⊥) → (vs : List (List ℕ)) × (r : List ℕ) × AreAnyParts vs octets r → (v x : List ℕ)
    × HasField rest 129 v x
no_part octets rest done so_far begins (vs, r, h) = let a = so_far.ahead vs r h in begins_part a.0 rest r begins a.1

-- ---- all parts

pub parts_initial : (o : List ℕ) → (s : SubstringsValue) × AreParts s o → (v : Option (List ℕ)) × (r : List ℕ)
    × HasOctetsOrNone o 128 v r
parts_initial o (s, h) = (s.initial, h.1.rest, h.1.first)

pub parts_any : (o x : List ℕ) (i : Option (List ℕ)) → HasOctetsOrNone o 128 i x → (s : SubstringsValue)
    × AreParts s o → (vs : List (List ℕ)) × (r : List ℕ) × AreAnyParts vs x r
parts_any o x i p (s, h) = let a = step (octets_or_none_part 128) (octets_or_none_unique 128) _ i s.initial o x p h.1
    in (s.any, a.next.rest, a.next.first)

pub parts_last : (o x y : List ℕ) (i : Option (List ℕ)) (vs : List (List ℕ)) → HasOctetsOrNone o 128 i x →
    AreAnyParts vs x y → (s : SubstringsValue) × AreParts s o → (v : Option (List ℕ)) × (r : List ℕ)
    × HasOctetsOrNone y 130 v r
parts_last o x y i vs p q (s, h) =
    let a = step (octets_or_none_part 128) (octets_or_none_unique 128) _ i s.initial o x p h.1 in
    let b = step AreAnyParts any_unique _ vs s.any x y q a.next in
    (s.last, [], b.next)

pub parts_end : (o x y z : List ℕ) (i l : Option (List ℕ)) (vs : List (List ℕ)) → HasOctetsOrNone o 128 i x →
    AreAnyParts vs x y → HasOctetsOrNone y 130 l z → (s : SubstringsValue) × AreParts s o → z ≡ []
parts_end o x y z i l vs p q t (s, h) =
    let a = step (octets_or_none_part 128) (octets_or_none_unique 128) _ i s.initial o x p h.1 in
    let b = step AreAnyParts any_unique _ vs s.any x y q a.next in
    (octets_or_none_unique 130 l s.last y z [] t b.next).rest

pub are_parts : (o x y z d : List ℕ) (i l : Option (List ℕ)) (vs : List (List ℕ)) → (o ≡ [] → ⊥) →
    HasOctetsOrNone o 128 i x → AreAnyParts vs x y → HasOctetsOrNone y 130 l z → z ≡ [] →
    AreParts (record { description = d; initial = i; any = vs; last = l }) o
are_parts o x y z d i l vs some p q t e = (
  some,
  record {
    rest = x;
    first = p;
    next = record {
      rest = y;
      first = q;
      next =
          subst (λ (r : List ℕ). HasOctetsOrNone y 130 l r) e t;
    };
  },
)

-- ---- substrings

pub substrings_parts : (o x d : List ℕ) → HasText o 4 d x → (s : SubstringsValue) × IsSubstrings s o → (v r : List ℕ)
    × HasField x 48 v r
substrings_parts o x d p (s, h) = let a = step text_part (text_unique 4) _ d s.description o x p h
    in (a.next.content, [], a.next.field)

pub substrings_end : (o x y d v : List ℕ) → HasText o 4 d x → HasField x 48 v y → (s : SubstringsValue)
    × IsSubstrings s o → y ≡ []
substrings_end o x y d v p q (s, h) =
    let a = step text_part (text_unique 4) _ d s.description o x p h in
    (same_field x v a.next.content y [] 48 48 q a.next.field).rest

pub substrings_inside : (o x y d v : List ℕ) → HasText o 4 d x → HasField x 48 v y → (s : SubstringsValue)
    × IsSubstrings s o → (s : SubstringsValue) × AreParts s v
substrings_inside o x y d v p q (s, h) =
    let a = step text_part (text_unique 4) _ d s.description o x p h in
    (s, subst (AreParts s) (sym (same_field x v a.next.content y [] 48 48 q a.next.field).content) a.next.inside)

pub are_substrings : (o x y d v : List ℕ) (s : SubstringsValue) → s.description ≡ d → HasText o 4 d x →
    HasField x 48 v y → y ≡ [] → AreParts s v → IsSubstrings s o
are_substrings o x y d v s same p q e h = record {
  rest = x;
  first = subst (λ (t : List ℕ). HasText o 4 t x) (sym same) p;
  next = record { content = v; field = subst (λ (r : List ℕ). HasField x 48 v r) e q; inside = h };
}

-- ---- extensible

pub extensible_description : (o x : List ℕ) (t : Option (List ℕ)) → HasTextOrNone o 129 t x → (e : ExtensibleValue)
    × IsExtensible e o → (u : Option (List ℕ)) × (r : List ℕ) × HasTextOrNone x 130 u r
extensible_description o x t p (e, h) = let a = step (text_or_none_part 129) (text_or_none_unique 129) _ t
    e.matching_rule o x p h in (e.description, a.next.rest, a.next.first)

pub extensible_value : (o x y : List ℕ) (t u : Option (List ℕ)) → HasTextOrNone o 129 t x → HasTextOrNone x 130 u y →
    (e : ExtensibleValue) × IsExtensible e o → (v r : List ℕ) × HasField y 131 v r
extensible_value o x y t u p q (e, h) =
    let a = step (text_or_none_part 129) (text_or_none_unique 129) _ t e.matching_rule o x p h in
    let b = step (text_or_none_part 130) (text_or_none_unique 130) _ u e.description x y q a.next in
    (e.match_value, b.next.rest, b.next.first)

pub extensible_flag : (o x y z : List ℕ) (t u : Option (List ℕ)) (v : List ℕ) → HasTextOrNone o 129 t x →
    HasTextOrNone x 130 u y → HasField y 131 v z → (e : ExtensibleValue) × IsExtensible e o → (b : Bool)
    × (r : List ℕ) × HasFlagOrFalse z 132 b r
extensible_flag o x y z t u v p q w (e, h) =
    let a = step (text_or_none_part 129) (text_or_none_unique 129) _ t e.matching_rule o x p h in
    let b = step (text_or_none_part 130) (text_or_none_unique 130) _ u e.description x y q a.next in
    let d = step (octets_part 131) (octets_unique 131) _ v e.match_value y z w b.next in
    (e.dn_attributes, [], d.next)

pub extensible_end : (o x y z n : List ℕ) (t u : Option (List ℕ)) (v : List ℕ) (f : Bool) → HasTextOrNone o 129 t x →
    HasTextOrNone x 130 u y → HasField y 131 v z → HasFlagOrFalse z 132 f n → (e : ExtensibleValue)
    × IsExtensible e o → n ≡ []
extensible_end o x y z n t u v f p q w k (e, h) =
    let a = step (text_or_none_part 129) (text_or_none_unique 129) _ t e.matching_rule o x p h in
    let b = step (text_or_none_part 130) (text_or_none_unique 130) _ u e.description x y q a.next in
    let d = step (octets_part 131) (octets_unique 131) _ v e.match_value y z w b.next in
    (flag_or_false_unique 132 f e.dn_attributes z n [] k d.next).rest
