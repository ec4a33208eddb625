-- Text of ASCII is in form KC, and folding it is making its capitals small.
use Rattle.std.proofs.Common.{ℕ, ◌<◌, List, Bool, true, false, not, cond, All, IsAscii, chars, map, filter, ◌≡◌, ap, ◌∙◌, arith}
use Rattle.std.proofs.lemmas.List.Elements.{All-map, All-filter, All-weaker}
use Rattle.std.proofs.lemmas.Bool.Decides.{nat_tests}
use Rattle.std.specs.Char.{to_ascii_lowercase}
use Rattle.unicode_normalization.specs.Forms.{Nfkc, nfkc}
use Rattle.unicode_normalization.proofs.FormsLemmas.{normalize-ascii}
use Rattle.caseless.specs.Caseless.{default_case_fold}
use Rattle.caseless.proofs.CaselessLemmas.{default_case_fold-ascii, All-chars}
use Rattle.ldap_syntax.specs.Text.{is_white, is_control, mapped_character, mapped, normal, folded}

abbrev IsSmall : ℕ → Type 0
IsSmall c = c < 128

space_or : (b : Bool) (c : ℕ) → c < 128 → cond b 32 c < 128
space_or true c h = omega arith
space_or false c h = h

mapped_small : (cs : List ℕ) → All IsSmall cs → All IsSmall (mapped cs)
mapped_small cs all =
    let kept = filter (λ c. not (is_control c)) cs in
    All-map IsSmall mapped_character kept (All-weaker IsSmall (λ c. IsSmall (mapped_character c))
    (λ c h. space_or (is_white c) c h) kept (All-filter (λ c. not (is_control c)) IsSmall cs all))

lower_small : (c : ℕ) → c < 128 → to_ascii_lowercase c < 128
lower_small c h = grind (arith, nat_tests)

small_lowered : (cs : List ℕ) → All IsSmall cs → All IsSmall (map to_ascii_lowercase cs)
small_lowered cs all = All-map IsSmall to_ascii_lowercase cs (All-weaker IsSmall (λ c. IsSmall (to_ascii_lowercase c))
    (λ c h. lower_small c h) cs all)

pub normal_ascii : (bs : List ℕ) → IsAscii bs → normal (chars bs) ≡ mapped (chars bs)
normal_ascii bs ascii = normalize-ascii Nfkc (mapped (chars bs)) (mapped_small (chars bs) (All-chars bs ascii))

pub folded_ascii : (bs : List ℕ) → IsAscii bs → folded (chars bs) ≡ map to_ascii_lowercase (mapped (chars bs))
folded_ascii bs ascii =
    let small = mapped_small (chars bs) (All-chars bs ascii) in
    ap (λ (x : List ℕ). nfkc (default_case_fold x)) (normal_ascii bs ascii)
    ∙ ap nfkc (default_case_fold-ascii (mapped (chars bs)) small)
    ∙ normalize-ascii Nfkc (map to_ascii_lowercase (mapped (chars bs))) (small_lowered (mapped (chars bs)) small)
