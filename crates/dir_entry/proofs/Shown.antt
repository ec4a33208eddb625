-- Tests on attributes with their keys, as tests without them.
use Rattle.std.proofs.Common.{ℕ, List, [], ◌∷◌, Bool, ◌||◌, ◌≡◌, refl, ap, map, nat_eq}
use Rattle.std.specs.List.{list_any}
use Rattle.dir_entry.specs.Entry.{AttributeModel, KeyedAttribute, shown, attributes_of}
use Rattle.dir_entry.specs.Adding.{has_type}

pub any_of_map : {A B : Type 0} (p : B → Bool) (f : A → B) (xs : List A) → list_any p (map f xs) ≡
    list_any (λ x. p (f x)) xs
any_of_map p f [] = refl
any_of_map p f (x ∷ xs) = ap (λ (b : Bool). p (f x) || b) (any_of_map p f xs)

pub has_type_shown : (t : ℕ) (e : List KeyedAttribute) → has_type t (attributes_of e) ≡
    list_any (λ a. nat_eq a.kind t) e
has_type_shown t e = any_of_map (λ (a : AttributeModel). nat_eq a.kind t) shown e
