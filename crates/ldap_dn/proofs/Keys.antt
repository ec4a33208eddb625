-- The key of a value that means something.
use Rattle.std.proofs.Common.{ℕ, List, Option, None, Some, Result, Err, IsOk, Bool, true, false, IsUtf8, ◌≡◌, refl, ap, sym}
use Rattle.std.proofs.lemmas.Str.{is_utf8-from_IsUtf8, IsUtf8-from_is_utf8}
use Rattle.std.specs.Str.{is_utf8}
use Rattle.ldap_syntax.specs.Meaning.{Meaning}
use Rattle.ldap_dn.specs.Texts.{meant, text_of}

pub meant_found : (m : Option Meaning) (k : Option (List ℕ)) (x : List ℕ) → (m ≡ None → ⊥) → k ≡ Some x →
    meant m k ≡ Some x
meant_found None k x some e = absurd (some refl)
meant_found (Some m) k x some e = e

not_true : (b : Bool) → (b ≡ true → ⊥) → b ≡ false
not_true true h = absurd (h refl)
not_true false h = refl

pub text_found : (o : List ℕ) {t : List ℕ} → t ≡ o → IsUtf8 t → text_of o ≡ Some t
text_found o {t} e u = rw (is_utf8-from_IsUtf8 o (rw e at u)) (ap Some (sym e))

pub text_missing : (o : List ℕ) → (IsUtf8 o → ⊥) → text_of o ≡ None
text_missing o h = rw (not_true (is_utf8 o) (λ e. h (IsUtf8-from_is_utf8 o e))) refl

pub err_not_ok : {A B : Type 0} (r : Result A B) {x : B} → r ≡ Err x → IsOk r → ⊥
err_not_ok r e h = cc
