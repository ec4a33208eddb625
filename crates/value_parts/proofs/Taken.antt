-- Values taken out of parts.
use Rattle.std.proofs.Common.{◌≡◌, ℕ, List, [], ◌∷◌, ◌++◌, Bool, true, false, not, cond, refl, sym, ap, ◌∙◌, map, length, length-append, arith}
use Rattle.std.specs.Prelude.{◌||◌, ◌&&◌, ◌==◌}
use Rattle.std.specs.List.{list_any, list_all}
use Rattle.std.specs.Str.{bytes_eq}
use Rattle.std.proofs.lemmas.Bool.{eqb-true}
use Rattle.std.proofs.lemmas.List.{length-map, map-append}
use Rattle.ldap_match.specs.ldap_syntax.Forms.{form_of}
use Rattle.value_parts.specs.Picked.{picked}
use Rattle.value_parts.specs.Parts.{PartModel, before, whole}
use Rattle.value_parts.specs.KeptParts.{octets_in, are_beside, part_without, HaveTexts}
use Rattle.value_parts.specs.private.Fitting.{fits}
use Rattle.value_parts.proofs.Flipped.{turned, any_flipped}
use Rattle.value_parts.proofs.Picked.{map_picked}
use Rattle.value_parts.proofs.Wholes.{same_part}

both : (a b : Bool) → (a && b) ≡ true → (a ≡ true) × (b ≡ true)
both true b e = (refl, e)
both false b e = absurd (cc)

neither : (a b : Bool) → (a || b) ≡ false → (a ≡ false) × (b ≡ false)
neither true b e = absurd (cc)
neither false b e = (refl, e)

or_four : (a b c d : Bool) → ((a || b) || (c || d)) ≡ ((a || c) || (b || d))
or_four true b c d = refl
or_four false true true d = refl
or_four false true false d = refl
or_four false false c d = refl

any_or : (f g : List ℕ → Bool) (xs : List (List ℕ)) → list_any (λ x. f x || g x) xs ≡ (list_any f xs || list_any g xs)
any_or f g [] = refl
any_or f g (x ∷ xs) = ap (λ (b : Bool). (f x || g x) || b) (any_or f g xs)
    ∙ or_four (f x) (g x) (list_any f xs) (list_any g xs)

-- where no value is compared by one of the given octets, all are left
none_given : {A : Type 0} (given os : List (List ℕ)) (xs : List A) → length os ≡ length xs →
    list_any (λ q. list_any (bytes_eq q) os) given ≡ false → picked (are_beside given os) xs ≡ xs
none_given given [] [] e h = refl
none_given given [] (x ∷ xs) e h = absurd (omega arith)
none_given given (o ∷ os) [] e h = absurd (omega arith)
none_given given (o ∷ os) (x ∷ xs) e h =
    let s = neither (list_any (λ q. bytes_eq q o) given) (list_any (λ q. list_any (bytes_eq q) os) given)
    (sym (any_or (λ q. bytes_eq q o) (λ q. list_any (bytes_eq q) os) given) ∙ h) in
    ap (λ (b : Bool). cond (not b) (x ∷ picked (are_beside given os) xs) (picked (are_beside given os) xs))
    (sym (any_flipped bytes_eq turned o given) ∙ s.0)
    ∙ ap (λ (ys : List _). x ∷ ys) (none_given given os xs (omega arith) s.1)

picked_none : {A : Type 0} (ms : List Bool) (xs : List A) → length xs ≡ 0 → picked ms xs ≡ xs
picked_none ms [] e = refl
picked_none ms (x ∷ xs) e = absurd (omega arith)

no_keys : {A : Type 0} (ms ns os : List Bool) (xs ys : List A) → length xs ≡ 0 → length ys ≡ 0 →
    picked ms (xs ++ ys) ≡ picked ns xs ++ picked os ys
no_keys ms ns os [] [] e f = refl
no_keys ms ns os [] (y ∷ ys) e f = absurd (omega arith)
no_keys ms ns os (x ∷ xs) ys e f = absurd (omega arith)

picked-append : {A : Type 0} (ms ns : List Bool) (xs ys : List A) → length ms ≡ length xs → picked (ms ++ ns)
    (xs ++ ys) ≡ picked ms xs ++ picked ns ys
picked-append [] ns [] ys h = refl
picked-append [] ns (x ∷ xs) ys h = absurd (omega arith)
picked-append (m ∷ ms) ns [] ys h = absurd (omega arith)
picked-append (true ∷ ms) ns (x ∷ xs) ys h = ap (λ (l : List _). x ∷ l) (picked-append ms ns xs ys (omega arith))
picked-append (false ∷ ms) ns (x ∷ xs) ys h = picked-append ms ns xs ys (omega arith)

record Sized (keyed : Bool) (p : PartModel) : Type 0 where
  forms : length p.forms ≡ length p.values
  keys : length p.keys ≡ cond keyed (length p.values) 0

sized : (keyed : Bool) (p : PartModel) → fits keyed p ≡ true → Sized keyed p
sized keyed p h =
    let s = both (length p.forms == length p.values) (length p.keys == cond keyed (length p.values) 0) h in
    record {
      forms = eqb-true (length p.forms) (length p.values) s.0;
      keys = eqb-true (length p.keys)
          (cond keyed (length p.values) 0) s.1;
    }

octets_long : (by keyed : Bool) (p : PartModel) → (by ≡ true → keyed ≡ true) → Sized keyed p →
    length (octets_in by p) ≡ length p.values
octets_long true true p k s = s.keys
octets_long true false p k s = absurd (cc (k refl))
octets_long false keyed p k s = refl

-- a part of which no value is compared by one of the given octets stays as it is
pub part_stays : (given : List (List ℕ)) (by keyed : Bool) (p : PartModel) → (by ≡ true → keyed ≡ true) →
    fits keyed p ≡ true → list_any (λ q. list_any (bytes_eq q) (octets_in by p)) given ≡ false →
    part_without given by p ≡ p
part_stays given by keyed p k h none = same_part _ _ (none_given given (octets_in by p) p.values long none)
    (by_keys keyed s.keys) (none_given given (octets_in by p) p.forms (long ∙ sym s.forms) none)
  where
    s : Sized keyed p
    s = sized keyed p h

    long : length (octets_in by p) ≡ length p.values
    long = octets_long by keyed p k s

    by_keys : (b : Bool) → length p.keys ≡ cond b (length p.values) 0 → picked (are_beside given (octets_in by p))
        p.keys ≡ p.keys
    by_keys true e = none_given given (octets_in by p) p.keys (long ∙ sym e) none
    by_keys false e = picked_none (are_beside given (octets_in by p)) p.keys e

octets-before : (by : Bool) (p r : PartModel) → octets_in by (before p r) ≡ octets_in by p ++ octets_in by r
octets-before true p r = refl
octets-before false p r = refl

field-before : {A : Type 0} (given : List (List ℕ)) (by : Bool) (p r : PartModel) (xs ys : List A) →
    length (octets_in by p) ≡ length xs → picked (are_beside given (octets_in by (before p r))) (xs ++ ys) ≡
    picked (are_beside given (octets_in by p)) xs ++ picked (are_beside given (octets_in by r)) ys
field-before given by p r xs ys e =
    ap (λ (os : List (List ℕ)). picked (are_beside given os) (xs ++ ys)) (octets-before by p r)
    ∙ ap (λ (ms : List Bool). picked ms (xs ++ ys)) (map-append (λ x. not (list_any (bytes_eq x) given))
    (octets_in by p) (octets_in by r))
    ∙ picked-append (are_beside given (octets_in by p)) (are_beside given (octets_in by r)) xs ys
    (length-map (octets_in by p) (λ x. not (list_any (bytes_eq x) given)) ∙ e)

without-before : (given : List (List ℕ)) (by keyed : Bool) (p r : PartModel) → (by ≡ true → keyed ≡ true) →
    Sized keyed p → (keyed ≡ false → length r.keys ≡ 0) → part_without given by (before p r) ≡
    before (part_without given by p) (part_without given by r)
without-before given by keyed p r k s none = same_part _ _ (field-before given by p r p.values r.values long)
    (by_keys keyed s.keys none) (field-before given by p r p.forms r.forms (long ∙ sym s.forms))
  where
    long : length (octets_in by p) ≡ length p.values
    long = octets_long by keyed p k s

    by_keys : (b : Bool) → length p.keys ≡ cond b (length p.values) 0 → (b ≡ false → length r.keys ≡ 0) →
        picked (are_beside given (octets_in by (before p r))) (p.keys ++ r.keys) ≡
        picked (are_beside given (octets_in by p)) p.keys ++ picked (are_beside given (octets_in by r)) r.keys
    by_keys true e f = field-before given by p r p.keys r.keys (long ∙ sym e)
    by_keys false e f = no_keys _ _ _ p.keys r.keys e (f refl)

keyless : (keyed : Bool) (ps : List PartModel) → list_all (fits keyed) ps ≡ true → keyed ≡ false →
    length (whole ps).keys ≡ 0
keyless keyed [] h e = refl
keyless keyed (p ∷ ps) h e =
    let s = both (fits keyed p) (list_all (fits keyed) ps) h in
    let first : length p.keys ≡ 0 = (sized keyed p s.0).keys ∙ ap (λ (b : Bool). cond b (length p.values) 0) e in
    let rest : length (whole ps).keys ≡ 0 = keyless keyed ps s.1 e in
    length-append p.keys (whole ps).keys ∙ omega arith

-- values taken out part by part are taken out of all
pub all_without : (given : List (List ℕ)) (by keyed : Bool) (ps : List PartModel) → (by ≡ true → keyed ≡ true) →
    list_all (fits keyed) ps ≡ true → whole (map (part_without given by) ps) ≡ part_without given by (whole ps)
all_without given by keyed [] k h = refl
all_without given by keyed (p ∷ ps) k h =
    let s = both (fits keyed p) (list_all (fits keyed) ps) h in
    ap (before (part_without given by p)) (all_without given by keyed ps k s.1)
    ∙ sym (without-before given by keyed p (whole ps) k (sized keyed p s.0) (keyless keyed ps s.1))

-- the texts of what is left are those of its values
pub without_texts : (given : List (List ℕ)) (by : Bool) (p : PartModel) → HaveTexts p →
    HaveTexts (part_without given by p)
without_texts given by p h = ap (picked (are_beside given (octets_in by p))) h
    ∙ sym (map_picked form_of (are_beside given (octets_in by p)) p.values)
