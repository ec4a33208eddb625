-- Whether octets are UTF-8, as a test.
use Rattle.std.proofs.Common.{◌≡◌, ℕ, List, true, false, refl}
use Rattle.std.proofs.lemmas.Str.{IsUtf8-from_is_utf8, is_utf8-from_IsUtf8}
use Rattle.std.specs.Str.{IsUtf8, is_utf8}

pub utf8_true : (octets : List ℕ) → IsUtf8 octets → is_utf8 octets ≡ true
utf8_true octets text = is_utf8-from_IsUtf8 octets text

pub utf8_false : (octets : List ℕ) → ¬ (IsUtf8 octets) → is_utf8 octets ≡ false
utf8_false octets none =
    elim (is_utf8 octets) as (λ b. is_utf8 octets ≡ b → is_utf8 octets ≡ false)
    [ true ↦ λ e. absurd (none (IsUtf8-from_is_utf8 octets e)) | false ↦ λ e. e ] refl
