-- Names that call a class.
use Rattle.std.proofs.Common.{ℕ, ◌+◌, zero, suc, List, [], ◌∷◌, Bool, true, false, cond, ◌||◌, Some, is_some, IsSome, ◌≡◌, refl, ap, ◌∙◌, map}
use Rattle.std.specs.List.{position_from, slice_get}
use Rattle.std.specs.Char.{to_ascii_lowercase}
use Rattle.std.specs.Str.{bytes_eq}
use Rattle.std.proofs.lemmas.Slice.Eq.{bytes_eq-Decides}
use Rattle.ldap_schema.specs.Schema.{ClassModel, SchemaModel, is_called, first_name_of, class_named}

pub same_octets : (xs : List ℕ) → bytes_eq xs xs ≡ true
same_octets xs = (bytes_eq-Decides xs xs).1 refl

pub or_true : (a b : Bool) → a ≡ true → (a || b) ≡ true
or_true true b h = refl
or_true false b h = absurd (cc)

pub calls_itself : (oid : List ℕ) (names : List (List ℕ)) → is_called (first_name_of oid names) oid names ≡ true
calls_itself oid [] = or_true _ _ (same_octets oid)
calls_itself oid (n ∷ ns) = called_second (bytes_eq n oid) _ (or_true _ _ (same_octets (map to_ascii_lowercase n)))
  where
    called_second : (a b : Bool) → b ≡ true → (a || b) ≡ true
    called_second true b h = refl
    called_second false b h = h

found_by : {K : Type 0} (p : K → Bool) (k : ℕ) (x : K) (xs : List K) (b : Bool) → p x ≡ b →
    (b ≡ false → is_some (position_from p (k + 1) xs) ≡ true) → is_some (position_from p k (x ∷ xs)) ≡ true
found_by p k x xs true e h = ap (λ (z : Bool). is_some (cond z (Some k) (position_from p (k + 1) xs))) e
found_by p k x xs false e h = ap (λ (z : Bool). is_some (cond z (Some k) (position_from p (k + 1) xs))) e ∙ h refl

found_at : {K : Type 0} (p : K → Bool) (xs : List K) (i k : ℕ) (x : K) → slice_get xs i ≡ Some x → p x ≡ true →
    is_some (position_from p k xs) ≡ true
found_at p [] zero k x e h = absurd (cc)
found_at p [] (suc i) k x e h = absurd (cc)
found_at p (y ∷ xs) zero k x e h = found_by p k y xs (p y) refl (λ z. absurd (let s : y ≡ x = cc in let t : p y ≡
    true = ap p s ∙ h in cc))
found_at p (y ∷ xs) (suc i) k x e h = found_by p k y xs (p y) refl (λ z. found_at p xs i (k + 1) x e h)

pub class_found : (s : SchemaModel) (i : ℕ) (c : ClassModel) → slice_get s.classes i ≡ Some c →
    IsSome (class_named s (first_name_of c.oid c.names))
class_found s i c e = found_at (λ (x : ClassModel). is_called (first_name_of c.oid c.names) x.oid x.names) s.classes i
    0 c e (calls_itself c.oid c.names)
