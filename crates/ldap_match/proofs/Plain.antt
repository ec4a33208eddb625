-- Rules that are of another family than names.
use Rattle.std.proofs.Common.{ℕ, List, true, Option, None, Some, is_some, Result, Ok, Err, OnOk, ◌≡◌, refl}
use Rattle.ldap_dn.specs.ldap_syntax.Meaning.{Meaning}
use Rattle.ldap_dn.specs.ldap_words.declared.rule.Family.{Family}
use Rattle.ldap_dn.specs.ldap_words.declared.rule.Family.TheVariants as family
use Rattle.ldap_dn.specs.ldap_words.declared.rule.Rule.{Rule}
use Rattle.ldap_dn.specs.ldap_syntax.declared.fault.ValueError.{ValueError}
use Rattle.ldap_dn.specs.ldap_syntax.declared.fault.ValueError.TheVariants.{NotInSyntax}
use Rattle.ldap_dn.specs.ldap_schema.Schema.{SchemaModel}
use Rattle.ldap_dn.specs.Meaning as plain
use Rattle.ldap_dn.specs.Keyed as plain_keys
use Rattle.ldap_match.specs.Meaning.{meaning, meaning_by}
use Rattle.ldap_match.specs.Keyed.{key_at, key_by}

means : (s : SchemaModel) (r : Rule) (f : Family) (v : List ℕ) → (f ≡ family.Name → ⊥) → meaning_by s r f v ≡
    plain.meaning_by s r f v
means s r family.Name v h = absurd (h refl)
means s r family.Identifier v h = refl
means s r family.Ignore v h = refl
means s r family.Exact v h = refl
means s r family.Numeric v h = refl
means s r family.Boolean v h = refl
means s r family.Integer v h = refl
means s r family.Octet v h = refl
means s r family.Telephone v h = refl
means s r family.Time v h = refl
means s r family.Ia5 v h = refl
means s r family.Ia5Exact v h = refl

-- what is no name means what it means without names, and has that key
pub plain_meaning : (s : SchemaModel) (r : Rule) (v : List ℕ) → (r.family ≡ family.Name → ⊥) → meaning s r v ≡
    plain.meaning s r v
plain_meaning s r v h = means s r r.family v h

keyed : (s : SchemaModel) (r : Rule) (f : Family) (v : List ℕ) → (f ≡ family.Name → ⊥) → key_by s r f v ≡
    plain_keys.key_by s r f v
keyed s r family.Name v h = absurd (h refl)
keyed s r family.Identifier v h = refl
keyed s r family.Ignore v h = refl
keyed s r family.Exact v h = refl
keyed s r family.Numeric v h = refl
keyed s r family.Boolean v h = refl
keyed s r family.Integer v h = refl
keyed s r family.Octet v h = refl
keyed s r family.Telephone v h = refl
keyed s r family.Time v h = refl
keyed s r family.Ia5 v h = refl
keyed s r family.Ia5Exact v h = refl

pub plain_key : (s : SchemaModel) (r : Rule) (v : List ℕ) → (r.family ≡ family.Name → ⊥) → key_at s r v ≡
    plain_keys.key_at s r v
plain_key s r v h = keyed s r r.family v h

some_there : (o : Option Meaning) → (o ≡ None → ⊥) → is_some o ≡ true
some_there None h = absurd (h refl)
some_there (Some m) h = refl

-- what is refused wherever it means nothing means something where it isn't refused
pub meant_at_ok : {T : Type 0} (r : Result T ValueError) (o : Option Meaning) → (o ≡ None → r ≡ Err NotInSyntax) →
    OnOk r (is_some o ≡ true)
meant_at_ok (Ok x) o h = some_there o (λ none. ok_err (h none))
  where
    ok_err : {A B : Type 0} {a : A} {b : B} → Ok a ≡ Err b → ⊥
    ok_err e = cc
meant_at_ok (Err e) o h = tt
