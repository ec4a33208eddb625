-- Attributes completed one after the other.
use Rattle.std.proofs.Common.{ℕ, List, [], ◌∷◌, ◌++◌, Bool, true, false, not, nat_eq, ◌≡◌, refl, ap, sym, subst, ◌∙◌, map, arith}
use Rattle.std.proofs.lemmas.Bool.Decides.{nat_tests}
use Rattle.dir_entry.specs.ldap_schema.Schema.{SchemaModel}
use Rattle.dir_entry.specs.ldap_match.Keyed.{AreKeysOf}
use Rattle.dir_entry.specs.Entry.{AttributeModel, KeyedAttribute, shown, attributes_of, IsKeyedBy}
use Rattle.entry_updates.specs.Classes.{completed_attribute, completed}
use Rattle.dir_entry.proofs.Keyed.{keyed_push}

pub same_kind : (a b : ℕ) → false ≡ not (nat_eq a b) → b ≡ a
same_kind a b h = by_test a b (nat_eq a b) refl h
  where
    by_test : (a b : ℕ) (t : Bool) → nat_eq a b ≡ t → false ≡ not t → b ≡ a
    by_test a b true e h = grind (arith, nat_tests, e)
    by_test a b false e h = absurd (cc)

pushed_out : {A C : Type 0} (f : A → C) (old : List A) (x : A) (t : List C) → map f (old ++ x ∷ []) ++ t ≡
    map f old ++ f x ∷ t
pushed_out f [] x t = refl
pushed_out f (o ∷ old) x t = ap (λ (z : List _). f o ∷ z) (pushed_out f old x t)

pub completed_more : (s : SchemaModel) (done new rest before : List KeyedAttribute) (x y : KeyedAttribute)
    (whole : List AttributeModel) → new ≡ done ++ y ∷ [] → shown y ≡ completed_attribute s (shown x) → before ≡ x ∷ rest
    → attributes_of done ++ completed s (attributes_of before) ≡ whole → attributes_of new ++ completed s
    (attributes_of rest) ≡ whole
completed_more s done new rest before x y whole pushed same opened so_far =
    ap (λ (z : List KeyedAttribute). attributes_of z ++ completed s (attributes_of rest)) pushed
    ∙ pushed_out shown done y (completed s (attributes_of rest))
    ∙ ap (λ (z : AttributeModel). attributes_of done ++ z ∷ completed s (attributes_of rest)) same
    ∙ ap (λ (z : List KeyedAttribute). attributes_of done ++ completed s (attributes_of z)) (sym opened)
    ∙ so_far

pub keyed_more : (s : SchemaModel) (all done new rest before : List KeyedAttribute) (x y : KeyedAttribute) →
    new ≡ done ++ y ∷ [] → before ≡ x ∷ rest → (AreKeysOf s x.kind x.values x.keys → AreKeysOf s y.kind y.values y.keys)
    → (IsKeyedBy s all → IsKeyedBy s done × IsKeyedBy s before) → IsKeyedBy s all → IsKeyedBy s new × IsKeyedBy s rest
keyed_more s all done new rest before x y pushed opened keyed so_far h =
    let k = so_far h in
    let o : IsKeyedBy s (x ∷ rest) = subst (IsKeyedBy s) opened k.1 in
    (subst (IsKeyedBy s) (sym pushed) (keyed_push s done y (keyed o.0) k.0), o.1)
