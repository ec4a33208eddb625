-- Keys that are there because a meaning is.
use Rattle.std.proofs.Common.{ℕ, List, Bool, true, false, cond, Option, None, Some, is_some, ◌≡◌, refl, sym, subst, ◌⊎◌, inl, inr}
use Rattle.ldap_words.specs.Numbers.{is_integer}
use Rattle.ldap_words.specs.Identifiers.{is_numericoid}
use Rattle.ldap_syntax.specs.Times.{is_time}
use Rattle.ldap_syntax.specs.Syntaxes.{is_in_syntax, is_boolean}
use Rattle.ldap_syntax.specs.Meaning.{Meaning, meaning_in, meaning}
use Rattle.ldap_syntax.specs.Keys.{number_key, key_in, key_at}
use Rattle.ldap_words.specs.declared.rule.Family.{Family}
use Rattle.ldap_words.specs.declared.rule.Family.TheVariants as family
use Rattle.ldap_words.specs.declared.rule.Rule.{Rule}

pub none_is : {A : Type 0} (o : Option A) → is_some o ≡ false → o ≡ None
none_is None e = refl
none_is (Some x) e = absurd (cc)

keyed_when : (b : Bool) (o : Option Meaning) (k : Option (List ℕ)) (x : List ℕ) → is_some (cond b o None) ≡ true →
    (is_some o ≡ true → k ≡ Some x) → cond b k None ≡ Some x
keyed_when true o k x h f = f h
keyed_when false o k x h f = absurd (cc)

same_test : {A : Type 0} (b : Bool) (m : A) (x : List ℕ) → is_some (cond b (Some m) None) ≡ true →
    cond b (Some x) None ≡ Some x
same_test true m x h = refl
same_test false m x h = absurd (cc)

-- the key of a value in a family is these octets, where the value means something
abbrev IsKey : List ℕ → List ℕ → Family → Type 0
IsKey v x f = is_some (meaning_in f v) ≡ true → key_in f v ≡ Some x

keyed : (r : Rule) (v x : List ℕ) (f : Family) → r.family ≡ f → IsKey v x f → is_some (meaning r v) ≡ true →
    key_at r v ≡ Some x
keyed r v x f e k h = keyed_when (is_in_syntax r.syntax v) (meaning_in r.family v) (key_in r.family v) x h
    (subst (IsKey v x) (sym e) k)

pub integer_key : (r : Rule) (v : List ℕ) → r.family ≡ family.Integer → is_some (meaning r v) ≡ true →
    key_at r v ≡ Some (number_key v)
integer_key r v e h = keyed r v (number_key v) family.Integer e (same_test (is_integer v) _ (number_key v)) h

abbrev pub StaysAsItIs : Family → Type 0
StaysAsItIs f = (f ≡ family.Identifier)
    ⊎ ((f ≡ family.Name) ⊎ ((f ≡ family.Boolean) ⊎ ((f ≡ family.Octet) ⊎ (f ≡ family.Time))))

pub plain_key : (r : Rule) (v : List ℕ) → StaysAsItIs r.family → is_some (meaning r v) ≡ true → key_at r v ≡ Some v
plain_key r v (inl e) h = keyed r v v family.Identifier e (same_test (is_numericoid v) _ v) h
plain_key r v (inr (inl e)) h = keyed r v v family.Name e (λ m. absurd (cc)) h
plain_key r v (inr (inr (inl e))) h = keyed r v v family.Boolean e (same_test (is_boolean v) _ v) h
plain_key r v (inr (inr (inr (inl e)))) h = keyed r v v family.Octet e (λ m. refl) h
plain_key r v (inr (inr (inr (inr e)))) h = keyed r v v family.Time e (same_test (is_time v) _ v) h
