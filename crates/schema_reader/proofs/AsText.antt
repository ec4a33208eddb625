-- Octets that are text, and octets that are not.
use Rattle.std.proofs.Common.{ℕ, List, [], Result, Err, IsOk, Bool, true, false, cond, IsUtf8, ◌≡◌, refl, ap, sym, ◌∙◌}
use Rattle.std.proofs.lemmas.Str.{is_utf8-from_IsUtf8, IsUtf8-from_is_utf8}
use Rattle.std.specs.Str.{is_utf8}
use Rattle.schema_reader.specs.Described.{as_text}

not_true : (b : Bool) → (b ≡ true → ⊥) → b ≡ false
not_true true h = absurd (h refl)
not_true false h = refl

pub text_found : (o t : List ℕ) → t ≡ o → IsUtf8 t → t ≡ as_text o
text_found o t e u = e ∙ sym (ap (λ b. cond b o []) (is_utf8-from_IsUtf8 o (rw e at u)))

pub text_missing : (o : List ℕ) → (IsUtf8 o → ⊥) → [] ≡ as_text o
text_missing o h = sym (ap (λ b. cond b o []) (not_true (is_utf8 o) (λ e. h (IsUtf8-from_is_utf8 o e))))

pub err_not_ok : {A B : Type 0} (r : Result A B) {x : B} → r ≡ Err x → IsOk r → ⊥
err_not_ok r e h = cc
