-- Values that are joined, part by part.
use Rattle.std.proofs.Common.{ℕ, List, [], ◌∷◌, ◌++◌, Option, None, Some, ◌≡◌, refl, ap, sym, ◌∙◌, append_assoc}
use Rattle.dir_entry.specs.ldap_schema.Schema.{SchemaModel, class_named}
use Rattle.entry_updates.specs.Classes.{classes_named, with_some}

classes_joined : (s : SchemaModel) (xs ys : List (List ℕ)) → classes_named s (xs ++ ys) ≡ classes_named s xs ++
    classes_named s ys
classes_joined s [] ys = refl
classes_joined s (x ∷ xs) ys = by (class_named s x) (classes_joined s xs ys)
  where
    by : (o : Option ℕ) → classes_named s (xs ++ ys) ≡ classes_named s xs ++ classes_named s ys →
        with_some o (classes_named s (xs ++ ys)) ≡ with_some o (classes_named s xs) ++ classes_named s ys
    by None ih = ih
    by (Some c) ih = ap (λ (l : List ℕ). c ∷ l) ih

pub classes_step : (s : SchemaModel) (old new : List ℕ) (rest part others all : List (List ℕ)) →
    new ≡ old ++ classes_named s part → rest ≡ part ++ others → old ++ classes_named s rest ≡ classes_named s all →
    new ++ classes_named s others ≡ classes_named s all
classes_step s old new rest part others all n r so_far =
    ap (λ (l : List ℕ). l ++ classes_named s others) n
    ∙ append_assoc old (classes_named s part) (classes_named s others)
    ∙ ap (λ (l : List ℕ). old ++ l) (sym (ap (classes_named s) r ∙ classes_joined s part others))
    ∙ so_far
