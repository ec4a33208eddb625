-- The reading of descriptions, step by step, and their grammar: each is the other.
use Rattle.std.proofs.Common.{ℕ, zero, suc, ◌-◌, List, [], ◌∷◌, ◌++◌, Bool, true, false, cond, ◌&&◌, Option, None, Some, ◌≡◌, refl, sym, ap, ◌∙◌, subst, append-nil, length, take, nat_eq, slice_get, arith}
use Rattle.std.proofs.lemmas.Bool.{eqb-true}
use Rattle.std.proofs.lemmas.List.{length-append}
use Rattle.schema_text.specs.Words.{ends_with, is_octet}
use Rattle.schema_text.specs.Tokens.{tokens_of}
use Rattle.schema_text.specs.Arguments.{pieces, argument_of}
use Rattle.schema_text.specs.Keywords.{shape_of}
use Rattle.schema_text.specs.Descriptions.{FieldModel, DescriptionModel, keyword_at, is_flag, begun, completed, fields_from, are_in_order, in_order, numericoid_of, ordered_fields, of_pieces, inside, description_of}
use Rattle.schema_text.specs.Grammar.{IsSpaced, AreFields, no_field, a_flag, a_field, IsDescription, DescriptionsAreOfOctets}
use Rattle.schema_text.specs.declared.token.Token.{Token}
use Rattle.schema_text.specs.declared.keyword.Section.{Section}
use Rattle.schema_text.specs.declared.keyword.Keyword.{Keyword}
use Rattle.schema_text.proofs.Spelled.{tokens_spelled, push_onto, and_one, and_two}
use Rattle.schema_text.specs.Spelling.{IsSpelled}
use Rattle.schema_text.proofs.Spaced.{spaced_cut, cut_spaced}
use Rattle.std.specs.Option.{option_and_then}

none_some : {A : Type 0} {x : A} → None ≡ Some x → ⊥
none_some h = cc

some_same : {A : Type 0} {x y : A} → Some x ≡ Some y → x ≡ y
some_same h = cc

abbrev made : ℕ → List ℕ → List FieldModel → DescriptionModel
made n oid fs = record { line = n; oid = oid; fields = fs }

abbrev flag : Keyword → FieldModel
flag k = record { keyword = k; texts = [] }

abbrev field : Keyword → List (List ℕ) → FieldModel
field k xs = record { keyword = k; texts = xs }

-- fields are read so
fields_read : (s : Section) (acc : List FieldModel) {ps : List (List Token)} {fs : List FieldModel} →
    AreFields s ps fs → fields_from s acc None ps ≡ Some (acc ++ fs)
fields_read s acc no_field = ap Some (sym (append-nil acc))
fields_read s acc (a_flag {ps} {fs} p k e f q) =
    ap (λ o. begun s acc o (λ gs v. fields_from s gs v ps)) e
    ∙ ap (λ (c : Bool). cond c (fields_from s (acc ++ flag k ∷ []) None ps) (fields_from s acc (Some k) ps)) f
    ∙ fields_read s (acc ++ flag k ∷ []) q
    ∙ ap Some (push_onto acc (flag k) fs)
fields_read s acc (a_field {ps} {fs} p q k xs e f a r) =
    ap (λ o. begun s acc o (λ gs v. fields_from s gs v (q ∷ ps))) e
    ∙ ap (λ (c : Bool). cond c (fields_from s (acc ++ flag k ∷ []) None (q ∷ ps))
    (fields_from s acc (Some k) (q ∷ ps))) f
    ∙ ap (λ (o : Option (List (List ℕ))). completed acc (option_and_then (λ ys. Some (field k ys)) o)
    (λ gs v. fields_from s gs v ps)) a
    ∙ fields_read s (acc ++ field k xs ∷ []) r
    ∙ ap Some (push_onto acc (field k xs) fs)

record HasFields (s : Section) (acc : List FieldModel) (ps : List (List Token)) (gs : List FieldModel) : Type 0 where
  fs : List FieldModel
  is_all : gs ≡ acc ++ fs
  are_fields : AreFields s ps fs

put : (s : Section) (acc : List FieldModel) (f : FieldModel) (ps rest : List (List Token)) (gs : List FieldModel) →
    ((fs : List FieldModel) → AreFields s rest fs → AreFields s ps (f ∷ fs)) → HasFields s (acc ++ f ∷ []) rest gs →
    HasFields s acc ps gs
put s acc f ps rest gs more h = record {
  fs = f ∷ h.fs;
  is_all = h.is_all ∙ push_onto acc f h.fs;
  are_fields =
      more h.fs h.are_fields;
}

at_argument : (o : Option (List (List ℕ))) (s : Section) (acc : List FieldModel) (p q : List Token) (k : Keyword)
    (ps : List (List Token)) (gs : List FieldModel) → keyword_at s p ≡ Some k → is_flag (shape_of s k) ≡ false →
    argument_of (shape_of s k) q ≡ o → ((a : List FieldModel) → fields_from s a None ps ≡ Some gs →
    HasFields s a ps gs) → completed acc (option_and_then (λ ys. Some (field k ys)) o)
    (λ hs v. fields_from s hs v ps) ≡ Some gs → HasFields s acc (p ∷ q ∷ ps) gs
at_argument None s acc p q k ps gs e f a more h = absurd (none_some h)
at_argument (Some xs) s acc p q k ps gs e f a more h = put s acc (field k xs) (p ∷ q ∷ ps) ps gs
    (λ fs r. a_field p q k xs e f a r) (more (acc ++ field k xs ∷ []) h)

at_shape : (c : Bool) (s : Section) (acc : List FieldModel) (p : List Token) (k : Keyword) (ps : List (List Token))
    (gs : List FieldModel) → keyword_at s p ≡ Some k → is_flag (shape_of s k) ≡ c →
    ((a : List FieldModel) → fields_from s a None ps ≡ Some gs → HasFields s a ps gs) →
    (is_flag (shape_of s k) ≡ false → fields_from s acc (Some k) ps ≡ Some gs → HasFields s acc (p ∷ ps) gs) →
    cond c (fields_from s (acc ++ flag k ∷ []) None ps) (fields_from s acc (Some k) ps) ≡ Some gs →
    HasFields s acc (p ∷ ps) gs
at_shape true s acc p k ps gs e f more waits h = put s acc (flag k) (p ∷ ps) ps gs (λ fs r. a_flag p k e f r)
    (more (acc ++ flag k ∷ []) h)
at_shape false s acc p k ps gs e f more waits h = waits f h

at_keyword : (o : Option Keyword) (s : Section) (acc : List FieldModel) (p : List Token) (ps : List (List Token))
    (gs : List FieldModel) → keyword_at s p ≡ o → ((a : List FieldModel) → fields_from s a None ps ≡ Some gs →
    HasFields s a ps gs) → ((k : Keyword) → keyword_at s p ≡ Some k → is_flag (shape_of s k) ≡ false →
    fields_from s acc (Some k) ps ≡ Some gs → HasFields s acc (p ∷ ps) gs) →
    begun s acc o (λ hs v. fields_from s hs v ps) ≡ Some gs → HasFields s acc (p ∷ ps) gs
at_keyword None s acc p ps gs e more waits h = absurd (none_some h)
at_keyword (Some k) s acc p ps gs e more waits h = at_shape (is_flag (shape_of s k)) s acc p k ps gs e refl more
    (waits k e) h

-- what is read is fields
read_fields : (s : Section) (acc : List FieldModel) (ps : List (List Token)) (gs : List FieldModel) →
    fields_from s acc None ps ≡ Some gs → HasFields s acc ps gs
read_fields s acc [] gs h = record { fs = []; is_all = sym (some_same h) ∙ sym (append-nil acc); are_fields = no_field }
read_fields s acc (p ∷ []) gs h = at_keyword (keyword_at s p) s acc p [] gs refl (λ a g. read_fields s a [] gs g)
    (λ k e f g. absurd (none_some g)) h
read_fields s acc (p ∷ q ∷ ps) gs h =
    at_keyword (keyword_at s p) s acc p (q ∷ ps) gs refl (λ a g. read_fields s a (q ∷ ps) gs g)
    (λ k e f g. at_argument (argument_of (shape_of s k) q) s acc p q k ps gs e f refl (λ a i. read_fields s a ps gs i)
    g) h

fields_are : (s : Section) (ps : List (List Token)) (gs : List FieldModel) → fields_from s [] None ps ≡ Some gs →
    AreFields s ps gs
fields_are s ps gs h = let f = read_fields s [] ps gs h in subst (AreFields s ps) (sym f.is_all) f.are_fields

-- parentheses around octets
get_last : (body : List ℕ) (x : ℕ) → slice_get (body ++ x ∷ []) (length body) ≡ Some x
get_last [] x = refl
get_last (c ∷ body) x = get_last body x

front_of : (body : List ℕ) (x : ℕ) → take (length body) (body ++ x ∷ []) ≡ body
front_of [] x = refl
front_of (c ∷ body) x = ap (λ (y : List ℕ). c ∷ y) (front_of body x)

one_less : (body : List ℕ) (x : ℕ) → length (body ++ x ∷ []) - 1 ≡ length body
one_less body x = omega (arith, length-append body (x ∷ []))

inside_of : (body octets : List ℕ) → octets ≡ 40 ∷ body ++ 41 ∷ [] → inside octets ≡ Some body
inside_of body octets e =
    ap inside e
    ∙ ap (λ (n : ℕ). cond (is_octet 41 (slice_get (body ++ 41 ∷ []) n)) (Some (take n (body ++ 41 ∷ []))) None)
    (one_less body 41)
    ∙ ap (λ (o : Option ℕ). cond (is_octet 41 o) (Some (take (length body) (body ++ 41 ∷ []))) None) (get_last body 41)
    ∙ ap Some (front_of body 41)

last_at : (n : ℕ) (cs : List ℕ) (x : ℕ) → slice_get cs n ≡ Some x → length cs ≡ suc n → cs ≡ take n cs ++ x ∷ []
last_at zero [] x e l = absurd (none_some e)
last_at (suc n) [] x e l = absurd (none_some e)
last_at zero (c ∷ []) x e l = ap (λ (y : ℕ). y ∷ []) (some_same e)
last_at zero (c ∷ d ∷ cs) x e l = absurd (omega (arith, l))
last_at (suc n) (c ∷ cs) x e l = ap (λ (ys : List ℕ). c ∷ ys) (last_at n cs x e (omega (arith, l)))

octet_at : (o : Option ℕ) → is_octet 41 o ≡ true → o ≡ Some 41
octet_at None h = absurd (cc)
octet_at (Some x) h = ap Some (eqb-true x 41 h)

long : (c : ℕ) (cs : List ℕ) → length (c ∷ cs) ≡ suc (length (c ∷ cs) - 1)
long c cs = omega arith

ended_so : (cs : List ℕ) → ends_with 41 cs ≡ true → cs ≡ take (length cs - 1) cs ++ 41 ∷ []
ended_so [] h = absurd (cc)
ended_so (c ∷ cs) h = last_at (length (c ∷ cs) - 1) (c ∷ cs) 41 (octet_at (slice_get (c ∷ cs) (length (c ∷ cs) - 1))
    h) (long c cs)

enclosed_by : (t : Bool) (c : ℕ) (cs body : List ℕ) → (nat_eq c 40 && ends_with 41 cs) ≡ t →
    cond t (Some (take (length cs - 1) cs)) None ≡ Some body → c ∷ cs ≡ 40 ∷ body ++ 41 ∷ []
enclosed_by false c cs body e h = absurd (none_some h)
enclosed_by true c cs body e h =
    ap (λ (x : ℕ). x ∷ cs) (eqb-true c 40 (and_one _ (ends_with 41 cs) e))
    ∙ ap (λ (x : List ℕ). 40 ∷ x) (ended_so cs (and_two (nat_eq c 40) _ e))
    ∙ ap (λ (x : List ℕ). 40 ∷ x ++ 41 ∷ []) (some_same h)

enclosed : (octets body : List ℕ) → inside octets ≡ Some body → octets ≡ 40 ∷ body ++ 41 ∷ []
enclosed [] body h = absurd (none_some h)
enclosed (c ∷ cs) body h = enclosed_by (nat_eq c 40 && ends_with 41 cs) c cs body refl h

-- a description is read so
description_is : (s : Section) (octets : List ℕ) (d : DescriptionModel) → IsDescription s octets d →
    description_of d.line s octets ≡ Some d
description_is s octets d i =
    ap (λ (o : Option (List ℕ)). option_and_then (λ body. option_and_then (λ ts. of_pieces d.line s (pieces false ts))
    (tokens_of body)) o) (inside_of i.body octets i.is_enclosed)
    ∙ ap (λ (o : Option (List Token)). option_and_then (λ ts. of_pieces d.line s (pieces false ts)) o)
    ((tokens_spelled i.body i.tokens).1 i.are_tokens)
    ∙ ap (of_pieces d.line s) (spaced_cut false i.are_spaced)
    ∙ ap (λ (o : Option (List ℕ)). option_and_then (λ oid. option_and_then (λ fs. Some (made d.line oid fs))
    (ordered_fields s i.rest)) o) i.is_oid
    ∙ ap (λ (o : Option (List FieldModel)). option_and_then (λ fs. Some (made d.line d.oid fs))
    (option_and_then in_order o)) (fields_read s [] i.are_fields)
    ∙ ap (λ (b : Bool). option_and_then (λ fs. Some (made d.line d.oid fs)) (cond b (Some d.fields) None)) i.in_order

-- what is read is a description
record IsRead (s : Section) (n : ℕ) (octets : List ℕ) (d : DescriptionModel) (ps : List (List Token)) : Type 0 where
  body : List ℕ
  is_enclosed : octets ≡ 40 ∷ body ++ 41 ∷ []
  tokens : List Token
  are_tokens : IsSpelled false false body tokens
  are_spaced : IsSpaced false tokens ps

ordered : (b : Bool) (fs gs : List FieldModel) → are_in_order 0 fs ≡ b → cond b (Some fs) None ≡ Some gs →
    are_in_order 0 gs ≡ true
ordered true fs gs e h = subst (λ (x : List FieldModel). are_in_order 0 x ≡ true) (some_same h) e
ordered false fs gs e h = absurd (none_some h)

same_fields : (b : Bool) (fs gs : List FieldModel) → cond b (Some fs) None ≡ Some gs → fs ≡ gs
same_fields true fs gs h = some_same h
same_fields false fs gs h = absurd (none_some h)

order_by : (o : Option (List FieldModel)) (gs : List FieldModel) → option_and_then in_order o ≡ Some gs →
    are_in_order 0 gs ≡ true
order_by None gs h = absurd (none_some h)
order_by (Some fs) gs h = ordered (are_in_order 0 fs) fs gs refl h

fields_by : (o : Option (List FieldModel)) (gs : List FieldModel) → option_and_then in_order o ≡ Some gs → o ≡ Some gs
fields_by None gs h = absurd (none_some h)
fields_by (Some fs) gs h = ap Some (same_fields (are_in_order 0 fs) fs gs h)

by_fields : (o : Option (List FieldModel)) (s : Section) (n : ℕ) (octets oid : List ℕ) (d : DescriptionModel)
    (p : List Token) (ps : List (List Token)) → IsRead s n octets d (p ∷ ps) → numericoid_of p ≡ Some oid →
    ordered_fields s ps ≡ o → option_and_then (λ fs. Some (made n oid fs)) o ≡ Some d → IsDescription s octets d
by_fields None s n octets oid d p ps r e f h = absurd (none_some h)
by_fields (Some fs) s n octets oid d p ps r e f h =
    subst (IsDescription s octets) (some_same h)
    (record {
      body = r.body;
      is_enclosed = r.is_enclosed;
      tokens = r.tokens;
      are_tokens = r.are_tokens;
      first = p;
      rest = ps;
      are_spaced = r.are_spaced;
      is_oid = e;
      are_fields = fields_are s ps fs (fields_by (fields_from s [] None ps) fs f);
      in_order = order_by (fields_from s [] None ps) fs f;
    })

by_oid : (o : Option (List ℕ)) (s : Section) (n : ℕ) (octets : List ℕ) (d : DescriptionModel) (p : List Token)
    (ps : List (List Token)) → IsRead s n octets d (p ∷ ps) → numericoid_of p ≡ o →
    option_and_then (λ oid. option_and_then (λ fs. Some (made n oid fs)) (ordered_fields s ps)) o ≡ Some d →
    IsDescription s octets d
by_oid None s n octets d p ps r e h = absurd (none_some h)
by_oid (Some oid) s n octets d p ps r e h = by_fields (ordered_fields s ps) s n octets oid d p ps r e refl h

by_pieces : (ps : List (List Token)) (s : Section) (n : ℕ) (octets : List ℕ) (d : DescriptionModel) →
    IsRead s n octets d ps → of_pieces n s ps ≡ Some d → IsDescription s octets d
by_pieces [] s n octets d r h = absurd (none_some h)
by_pieces (p ∷ ps) s n octets d r h = by_oid (numericoid_of p) s n octets d p ps r refl h

by_tokens : (o : Option (List Token)) (s : Section) (n : ℕ) (octets body : List ℕ) (d : DescriptionModel) →
    octets ≡ 40 ∷ body ++ 41 ∷ [] → tokens_of body ≡ o → option_and_then (λ ts. of_pieces n s (pieces false ts)) o ≡
    Some d → IsDescription s octets d
by_tokens None s n octets body d c e h = absurd (none_some h)
by_tokens (Some ts) s n octets body d c e h =
    by_pieces (pieces false ts) s n octets d (record {
      body = body;
      is_enclosed = c;
      tokens = ts;
      are_tokens =
          (tokens_spelled body ts).0 e;
      are_spaced = cut_spaced false ts;
    }) h

by_inside : (o : Option (List ℕ)) (s : Section) (n : ℕ) (octets : List ℕ) (d : DescriptionModel) → inside octets ≡ o →
    option_and_then (λ body. option_and_then (λ ts. of_pieces n s (pieces false ts)) (tokens_of body)) o ≡ Some d →
    IsDescription s octets d
by_inside None s n octets d e h = absurd (none_some h)
by_inside (Some body) s n octets d e h = by_tokens (tokens_of body) s n octets body d (enclosed octets body e) refl h

pub descriptions_of_octets : DescriptionsAreOfOctets
descriptions_of_octets s octets d = (
  λ h. by_inside (inside octets) s d.line octets d refl h,
  λ i. description_is s octets d i,
)
