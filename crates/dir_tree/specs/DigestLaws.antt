-- The laws of the order of relative names by their digests first.
use Rattle.std.proofs.Common.{◌≡◌, ℕ, Bool, true, false, List, [], ◌∷◌, refl, sym, ap, ◌∙◌, nat_eq}
use Rattle.std.specs.Prelude.{◌&&◌}
use Rattle.std.specs.Ordering.{nat_cmp, is_eq}
use Rattle.std.specs.Cmp.{IsTotalOrder, nat_cmp_total, on_total, then_total, unsigned_ties}
use Rattle.std.specs.Str.{bytes_eq}
use Rattle.std.proofs.lemmas.Bool.{eqb-true, eq-eqb}
use Rattle.std.proofs.lemmas.Slice.Eq.{bytes_eq-Decides}
use Rattle.dir_entry.specs.ldap_dn.Names.{TypeAndKey, RdnModel, are_same_keys}
use Rattle.dir_entry.specs.ldap_dn.Ordered.{rdn_order}
use Rattle.dir_entry.specs.ldap_dn.OrderLaws.{is_eq-then, rdn_total, rdn_ties}
use Rattle.dir_entry.specs.ldap_dn.Digests.{digest_of}
use Rattle.dir_tree.specs.Digests.{digested_order}

pub both : (a b : Bool) → (a && b) ≡ true → (a ≡ true) × (b ≡ true)
both true b e = (refl, e)
both false b e = absurd (cc)

of : ℕ → List ℕ → TypeAndKey
of t k = record { kind = t; key = k }

made : (t u : ℕ) (k l : List ℕ) → t ≡ u → k ≡ l → of t k ≡ of u l
made t u k l e f = rw (e, f) refl

same_fields : (x y : TypeAndKey) → x.kind ≡ y.kind → x.key ≡ y.key → x ≡ y
unfolding of
same_fields x y e f = made x.kind y.kind x.key y.key e f

-- types with keys that are the same by their test are equal
pub keys_same : (xs ys : List TypeAndKey) → are_same_keys xs ys ≡ true → xs ≡ ys
keys_same [] [] e = refl
keys_same [] (y ∷ ys) e = absurd (cc)
keys_same (x ∷ xs) [] e = absurd (cc)
keys_same (x ∷ xs) (y ∷ ys) e =
    let p = both (nat_eq x.kind y.kind && bytes_eq x.key y.key) (are_same_keys xs ys) e in
    let q = both (nat_eq x.kind y.kind) (bytes_eq x.key y.key) p.0 in
    let head : x ≡ y = same_fields x y (eqb-true x.kind y.kind q.0) ((bytes_eq-Decides x.key y.key).0 q.1) in
    let tail : xs ≡ ys = keys_same xs ys p.1 in
    cc (head, tail)

-- relative names are in a total order, by their digests first
pub digested_total : IsTotalOrder digested_order
digested_total = then_total (on_total (λ (r : RdnModel). digest_of r.keys) nat_cmp_total) rdn_total

-- this order finds no difference between relative names exactly where their types and keys are the same
pub digested_ties : (a b : RdnModel) → are_same_keys a.keys b.keys ≡ is_eq (digested_order a b)
digested_ties a b =
    by (are_same_keys a.keys b.keys) refl
    ∙ ap (λ (v : Bool). nat_eq (digest_of a.keys) (digest_of b.keys) && v) (rdn_ties a b)
    ∙ ap (λ (v : Bool). v && is_eq (rdn_order a b)) (unsigned_ties (digest_of a.keys) (digest_of b.keys))
    ∙ sym (is_eq-then (nat_cmp (digest_of a.keys) (digest_of b.keys)) (rdn_order a b))
  where
    none : (v : Bool) → false ≡ (v && false)
    none true = refl
    none false = refl

    by : (s : Bool) → are_same_keys a.keys b.keys ≡ s → s ≡ (nat_eq (digest_of a.keys) (digest_of b.keys) && s)
    by true e = sym (ap (λ (v : Bool). v && true) (eq-eqb (digest_of a.keys) (digest_of b.keys)
        (ap digest_of (keys_same a.keys b.keys e))))
    by false e = none (nat_eq (digest_of a.keys) (digest_of b.keys))
