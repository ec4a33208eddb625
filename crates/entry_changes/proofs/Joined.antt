-- Values of relative names, a step at a time.
use Rattle.std.proofs.Common.{ℕ, List, [], ◌∷◌, Bool, true, false, cond, not, ◌||◌, Result, Ok, Err, IfOk, IfErr, ◌≡◌, ap, ap₂, sym, subst, ◌∙◌}
use Rattle.std.specs.List.{list_any}
use Rattle.dir_entry.specs.ldap_schema.Schema.{SchemaModel}
use Rattle.dir_entry.specs.ldap_dn.Names.{TypeAndValue}
use Rattle.dir_entry.specs.Entry.{AttributeModel}
use Rattle.dir_entry.specs.Adding.{Refuses}
use Rattle.entry_changes.specs.Editing.{with_added, with_deleted}
use Rattle.entry_changes.specs.Naming.{has_value, with_value, is_same_value, without_value}
use Rattle.dir_entry.specs.declared.fault.EntryError.{EntryError}

-- a value that is not held is added
pub joins : (s : SchemaModel) (p : TypeAndValue) (e : List AttributeModel) (kind : ℕ) (values : List (List ℕ)) →
    has_value s e p ≡ false → kind ≡ p.kind → values ≡ p.value ∷ [] → with_value s p e ≡ with_added s kind values e
joins s p e kind values h k v =
    ap (λ (b : Bool). cond b (Ok e) (with_added s p.kind (p.value ∷ []) e)) h
    ∙ ap₂ (λ (t : ℕ) (vs : List (List ℕ)). with_added s t vs e) (sym k) (sym v)

-- a value that is held and not in the new name is deleted
pub leaves : (s : SchemaModel) (new : List TypeAndValue) (p : TypeAndValue) (e : List AttributeModel) (kind : ℕ)
    (values : List (List ℕ)) → list_any (is_same_value s p) new ≡ false → has_value s e p ≡ true → kind ≡ p.kind →
    values ≡ p.value ∷ []
    → without_value s new p e ≡ with_deleted s kind values e
leaves s new p e kind values n h k v =
    ap₂ (λ (a b : Bool). cond (a || not b) (Ok e) (with_deleted s p.kind (p.value ∷ []) e)) n h
    ∙ ap₂ (λ (t : ℕ) (vs : List (List ℕ)). with_deleted s t vs e) (sym k) (sym v)

pub ok_by : {E : Type 0} {A : Type 0} (r : Result A E) (f : A → List AttributeModel)
    (x y : Result (List AttributeModel) ℕ) → x ≡ y → IfOk r (λ e. y ≡ Ok (f e)) → IfOk r (λ e. x ≡ Ok (f e))
ok_by (Ok a) f x y h k = h ∙ k
ok_by (Err a) f x y h k = tt

pub refused_by : {A : Type 0} (r : Result A EntryError) (x y : Result (List AttributeModel) ℕ) → x ≡ y →
    IfErr r (λ e. Refuses e y) → IfErr r (λ e. Refuses e x)
refused_by (Ok a) x y h k = tt
refused_by (Err a) x y h k = subst (Refuses a) (sym h) k
