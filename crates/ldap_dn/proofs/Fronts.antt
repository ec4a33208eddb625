-- Names that are the same, and names below others, by the comparison of their relative names in turn.
use Rattle.std.proofs.Common.{ℕ, suc, List, [], ◌∷◌, ◌++◌, Bool, true, ◌&&◌, nat_eq, length, ◌<◌, ◌≡◌, refl, sym, ap, ◌∙◌, arith, IsTrue, ◌↔◌}
use Rattle.std.specs.Cmp.Lexicographic.{pointwise}
use Rattle.std.specs.Str.{bytes_eq}
use Rattle.std.proofs.lemmas.Bool.{eqb-true, eq-eqb}
use Rattle.std.proofs.lemmas.Slice.Eq.{bytes_eq-Decides}
use Rattle.ldap_dn.specs.Names.{TypeAndKey, RdnModel, rdns, IsSameName, IsBelow, are_same_keys, is_front, name_eq}
use Rattle.ldap_dn.proofs.Rising.{both}

and_true : (a b : Bool) → a ≡ true → b ≡ true → (a && b) ≡ true
and_true a b e f = rw (e, f) refl

heads : {A : Type 0} (x y : A) (xs ys : List A) → x ∷ xs ≡ y ∷ ys → x ≡ y
heads x y xs ys e = cc

tails : {A : Type 0} (x y : A) (xs ys : List A) → x ∷ xs ≡ y ∷ ys → xs ≡ ys
tails x y xs ys e = cc

joined : {A : Type 0} (x y : A) (xs ys : List A) → x ≡ y → xs ≡ ys → x ∷ xs ≡ y ∷ ys
joined x y xs ys e f = cc

of : ℕ → List ℕ → TypeAndKey
of t k = record { kind = t; key = k }

made : (t u : ℕ) (k l : List ℕ) → t ≡ u → k ≡ l → of t k ≡ of u l
made t u k l e f = rw (e, f) refl

same_fields : (x y : TypeAndKey) → x.kind ≡ y.kind → x.key ≡ y.key → x ≡ y
unfolding of
same_fields x y e f = made x.kind y.kind x.key y.key e f

pub keys_same : (xs ys : List TypeAndKey) → are_same_keys xs ys ≡ true → xs ≡ ys
keys_same [] [] e = refl
keys_same [] (y ∷ ys) e = absurd (cc)
keys_same (x ∷ xs) [] e = absurd (cc)
keys_same (x ∷ xs) (y ∷ ys) e =
    let p = both (nat_eq x.kind y.kind && bytes_eq x.key y.key) (are_same_keys xs ys) e in
    let q = both (nat_eq x.kind y.kind) (bytes_eq x.key y.key) p.0 in
    joined x y xs ys (same_fields x y (eqb-true x.kind y.kind q.0) ((bytes_eq-Decides x.key y.key).0 q.1))
    (keys_same xs ys p.1)

pub same_keys : (xs ys : List TypeAndKey) → xs ≡ ys → are_same_keys xs ys ≡ true
same_keys [] [] e = refl
same_keys [] (y ∷ ys) e = absurd (cc)
same_keys (x ∷ xs) [] e = absurd (cc)
same_keys (x ∷ xs) (y ∷ ys) e =
    and_true (nat_eq x.kind y.kind && bytes_eq x.key y.key) (are_same_keys xs ys)
    (and_true (nat_eq x.kind y.kind) (bytes_eq x.key y.key)
    (eq-eqb x.kind y.kind (ap (λ (k : TypeAndKey). k.kind) (heads x y xs ys e)))
    ((bytes_eq-Decides x.key y.key).1 (ap (λ (k : TypeAndKey). k.key) (heads x y xs ys e))))
    (same_keys xs ys (tails x y xs ys e))

-- a front of the same length is the same name
pub same_from : (a b : List RdnModel) → length a ≡ length b → is_front a b ≡ true → IsSameName a b
same_from [] [] l e = refl
same_from [] (y ∷ ys) l e = absurd (omega arith)
same_from (x ∷ xs) [] l e = absurd (omega arith)
same_from (x ∷ xs) (y ∷ ys) l e =
    let p = both (are_same_keys x.keys y.keys) (is_front xs ys) e in
    joined x.keys y.keys (rdns xs) (rdns ys) (keys_same x.keys y.keys p.0) (same_from xs ys (omega arith) p.1)

pub same_front : (a b : List RdnModel) → IsSameName a b → is_front a b ≡ true
same_front [] b e = refl
same_front (x ∷ xs) [] e = absurd (cc)
same_front (x ∷ xs) (y ∷ ys) e =
    and_true (are_same_keys x.keys y.keys) (is_front xs ys)
    (same_keys x.keys y.keys (heads x.keys y.keys (rdns xs) (rdns ys) e))
    (same_front xs ys (tails x.keys y.keys (rdns xs) (rdns ys) e))

pub same_length : (a b : List RdnModel) → IsSameName a b → length a ≡ length b
same_length [] [] e = refl
same_length [] (y ∷ ys) e = absurd (cc)
same_length (x ∷ xs) [] e = absurd (cc)
same_length (x ∷ xs) (y ∷ ys) e = ap suc (same_length xs ys (tails x.keys y.keys (rdns xs) (rdns ys) e))

-- what has a shorter front stands below it
pub below_from : (a b : List RdnModel) → length b < length a → is_front b a ≡ true → IsBelow a b
below_from [] b l e = absurd (omega arith)
below_from (x ∷ xs) [] l e = (x.keys, rdns xs, refl)
below_from (x ∷ xs) (y ∷ ys) l e =
    let p = both (are_same_keys y.keys x.keys) (is_front ys xs) e in
    let q = below_from xs ys (omega arith) p.1 in
    (q.0, q.1, joined x.keys y.keys (rdns xs) (rdns ys ++ q.0 ∷ q.1) (sym (keys_same y.keys x.keys p.0)) q.2)

pub below_front : (a b : List RdnModel) → IsBelow a b → is_front b a ≡ true
below_front a [] h = refl
below_front [] (y ∷ ys) h = absurd (let e = h.2 in cc)
below_front (x ∷ xs) (y ∷ ys) h =
    and_true (are_same_keys y.keys x.keys) (is_front ys xs)
    (same_keys y.keys x.keys (sym (heads x.keys y.keys (rdns xs) (rdns ys ++ h.0 ∷ h.1) h.2)))
    (below_front xs ys (h.0, h.1, tails x.keys y.keys (rdns xs) (rdns ys ++ h.0 ∷ h.1) h.2))

pub same_answer : (a b x y : List RdnModel) (r : Bool) (m n : ℕ) → m ≡ length a → n ≡ length b → m ≡ n → x ≡ a →
    y ≡ b → r ≡ is_front x y → IsTrue r ↔ IsSameName a b
same_answer a b x y r m n l k e p q h =
    let f : r ≡ is_front a b = h ∙ ap (λ z. is_front z y) p ∙ ap (is_front a) q in
    (λ t. same_from a b (sym l ∙ e ∙ k) (sym f ∙ t), λ s. f ∙ same_front a b s)

pub below_answer : (a b x y : List RdnModel) (r : Bool) (m n : ℕ) → m ≡ length a → n ≡ length b → n < m → x ≡ a →
    y ≡ b → r ≡ is_front y x → IsTrue r ↔ IsBelow a b
below_answer a b x y r m n l k e p q h =
    let f : r ≡ is_front b a = h ∙ ap (λ z. is_front y z) p ∙ ap (λ z. is_front z a) q in
    (λ t. below_from a b (omega (arith, l, k, e)) (sym f ∙ t), λ s. f ∙ below_front a b s)

-- names are one by their relative names in turn
pub same_rdns : (a b : List RdnModel) → pointwise (λ (x y : RdnModel). are_same_keys x.keys y.keys) a b ≡
    name_eq (rdns a) (rdns b)
same_rdns [] [] = refl
same_rdns [] (y ∷ ys) = refl
same_rdns (x ∷ xs) [] = refl
same_rdns (x ∷ xs) (y ∷ ys) = ap (λ (v : Bool). are_same_keys x.keys y.keys && v) (same_rdns xs ys)
