-- What digests say of octets.
use Rattle.std.proofs.Common.{◌≡◌, ℕ, ◌<◌, List, [], ◌∷◌, Bool, true, false, refl, sym, ap, ◌∙◌, map, length, get_or, zero, suc, arith}
use Rattle.std.specs.Str.{bytes_eq}
use Rattle.std.proofs.lemmas.Slice.Eq.{bytes_eq-Decides}
use Rattle.value_parts.specs.Digests.{digest_of}

-- octets of different digests are different
pub told_apart : (q k : List ℕ) (d e : ℕ) → d ≡ digest_of q → e ≡ digest_of k → (d ≡ e → ⊥) → bytes_eq q k ≡ false
told_apart q k d e p r h = by (bytes_eq q k) refl
  where
    by : (b : Bool) → bytes_eq q k ≡ b → b ≡ false
    by true f = absurd (h (p ∙ ap digest_of ((bytes_eq-Decides q k).0 f) ∙ sym r))
    by false f = refl

-- the digest in a place
pub digest_at : (ds : List ℕ) (ks : List (List ℕ)) (i d : ℕ) (k : List ℕ) → ds ≡ map digest_of ks → i < length ks →
    get_or ds i d ≡ digest_of (get_or ks i k)
digest_at ds ks i d k e h = ap (λ (l : List ℕ). get_or l i d) e ∙ at ks i h
  where
    at : (ks : List (List ℕ)) (i : ℕ) → i < length ks → get_or (map digest_of ks) i d ≡ digest_of (get_or ks i k)
    at [] i h = absurd (omega arith)
    at (x ∷ xs) zero h = refl
    at (x ∷ xs) (suc i) h = at xs i (omega arith)
