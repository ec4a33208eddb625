-- The laws of the order of relative names.
use Rattle.std.proofs.Common.{List, [], ◌∷◌, Bool, nat_eq, ◌≡◌, refl, sym, ap, ◌∙◌, Ordering}
use Rattle.std.specs.Prelude.{◌&&◌}
use Rattle.std.specs.Str.{bytes_eq}
use Rattle.std.specs.Ordering.{nat_cmp, is_eq, ordering_then, eq_by_cmp}
use Rattle.std.specs.Cmp.{IsEquivalence, IsTotalOrder, nat_cmp_total, on_total, then_total, eq_by_cmp_equiv, unsigned_ties}
use Rattle.std.specs.Cmp.Lexicographic.{slice_cmp, nat_list_cmp_total, lists_total, texts_ties}
use Rattle.ldap_dn.specs.Names.{TypeAndKey, RdnModel, are_same_keys}
use Rattle.ldap_dn.specs.Ordered.{key_order, rdn_order}

-- two orders in turn find no difference exactly where each finds none
pub is_eq-then : (a b : Ordering) → is_eq (ordering_then a b) ≡ is_eq a && is_eq b
is_eq-then a b = elim a as (λ v. is_eq (ordering_then v b) ≡ is_eq v && is_eq b)
    [ Ordering.Less ↦ refl | Ordering.Equal ↦ refl | Ordering.Greater ↦ refl ]

-- types with keys are in a total order
pub key_total : IsTotalOrder key_order
key_total = then_total (on_total (λ (k : TypeAndKey). k.kind) nat_cmp_total) (on_total (λ (k : TypeAndKey). k.key)
    nat_list_cmp_total)

-- relative names are in a total order, by their types and keys
pub rdn_total : IsTotalOrder rdn_order
rdn_total = on_total (λ (r : RdnModel). r.keys) (lists_total key_total)

-- the order finds no difference between types with keys exactly where they are the same
pub key_ties : (x y : TypeAndKey) → (nat_eq x.kind y.kind && bytes_eq x.key y.key) ≡ is_eq (key_order x y)
key_ties x y = ap (λ (b : Bool). b && bytes_eq x.key y.key) (unsigned_ties x.kind y.kind)
    ∙ ap (λ (b : Bool). is_eq (nat_cmp x.kind y.kind) && b) (texts_ties x.key y.key)
    ∙ sym (is_eq-then (nat_cmp x.kind y.kind) (slice_cmp nat_cmp x.key y.key))

keys_ties : (xs ys : List TypeAndKey) → are_same_keys xs ys ≡ is_eq (slice_cmp key_order xs ys)
keys_ties [] [] = refl
keys_ties [] (y ∷ ys) = refl
keys_ties (x ∷ xs) [] = refl
keys_ties (x ∷ xs) (y ∷ ys) =
    ap (λ (b : Bool). b && are_same_keys xs ys) (key_ties x y)
    ∙ ap (λ (b : Bool). is_eq (key_order x y) && b) (keys_ties xs ys)
    ∙ sym (is_eq-then (key_order x y) (slice_cmp key_order xs ys))

-- the order finds no difference between relative names exactly where their types and keys are the same
pub rdn_ties : (a b : RdnModel) → are_same_keys a.keys b.keys ≡ is_eq (rdn_order a b)
rdn_ties a b = keys_ties a.keys b.keys

-- an equality that is where the order says so is an equivalence
pub tied : {K : Type 0} {R : K → K → Ordering} (E : K → K → Bool) → ((x y : K) → E x y ≡ is_eq (R x y)) →
    IsTotalOrder R → IsEquivalence E
tied {K} {R} E h t =
    let e : IsEquivalence (eq_by_cmp R) = eq_by_cmp_equiv t in
    record {
      refl = λ x. h x x ∙ e.refl x;
      symm = λ x y. h x y ∙ e.symm x y ∙ sym (h y x);
      congr = λ x y z g. h x z
          ∙ e.congr x y z (sym (h x y) ∙ g) ∙ sym (h y z);
    }

-- to have the same type and key is an equivalence
pub key_equiv : IsEquivalence (λ (x y : TypeAndKey). nat_eq x.kind y.kind && bytes_eq x.key y.key)
key_equiv = tied {K = TypeAndKey} {R = key_order} (λ (x y : TypeAndKey). nat_eq x.kind y.kind && bytes_eq x.key y.key)
    key_ties key_total

-- to have the same types and keys is an equivalence of relative names
pub rdn_equiv : IsEquivalence (λ (a b : RdnModel). are_same_keys a.keys b.keys)
rdn_equiv = tied {K = RdnModel} {R = rdn_order} (λ (a b : RdnModel). are_same_keys a.keys b.keys) rdn_ties rdn_total
