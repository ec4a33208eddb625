-- What is written piece by piece is the whole.
use Rattle.std.proofs.Common.{◌≡◌, ℕ, ◌<◌, ◌≤◌, true, ltb, min, List, [], ◌∷◌, ◌++◌, drop, length, Result, Ok, Err, sym, ap, append_assoc, ◌∙◌, arith}
use Rattle.std.proofs.Math.Seq.{drop-append_seam}
use Rattle.std.proofs.lemmas.Bool.{cond_both, ltb-true, ltb-false}
use Rattle.std.proofs.lemmas.List.{append-nil}
use Rattle.std.specs.Prelude.{IsErrOf, OnOk, ◌↔◌}
use Rattle.ldap_ber.specs.Element.{element_bytes, length_octets}

-- an error is the same, whatever stands beside it
pub same_error : {T U E : Type 0} (e f : E) → IsErrOf {T = U} (Err e) f → IsErrOf {T = T} (Err e) f
same_error {T} {U} {E} e f h = let same : e ≡ f = cc in ap (λ (k : E). let r : Result T E = Err k in r) same

three_pieces : (old a b d one two new : List ℕ) → one ≡ old ++ a → two ≡ one ++ b → new ≡ two ++ d →
    new ≡ old ++ (a ++ b ++ d)
three_pieces old a b d one two new e₁ e₂ e₃ =
    let two_is : two ≡ old ++ (a ++ b) = e₂ ∙ ap (λ (x : List ℕ). x ++ b) e₁ ∙ append_assoc old a b in
    e₃ ∙ ap (λ (x : List ℕ). x ++ d) two_is ∙ append_assoc old (a ++ b) d

pub three : {T E : Type 0} (r : Result T E) (old a b d one two new : List ℕ) → one ≡ old ++ a → two ≡ one ++ b →
    OnOk r (new ≡ two ++ d) → OnOk r (new ≡ old ++ (a ++ b ++ d))
three (Ok v) old a b d one two new e₁ e₂ e₃ = three_pieces old a b d one two new e₁ e₂ e₃
three (Err e) old a b d one two new e₁ e₂ e₃ = tt

-- what is put behind octets leaves them in front
pub kept_front : (new old more : List ℕ) → new ≡ old ++ more → new ≡ old ++ drop (length old) new
kept_front new old more e = e ∙ ap (λ (x : List ℕ). old ++ x)
    (sym (ap (drop (length old)) e ∙ drop-append_seam old more))

pub kept_same : (new old : List ℕ) → new ≡ old → new ≡ old ++ drop (length old) new
kept_same new old e = kept_front new old [] (e ∙ sym (append-nil old))

pub kept_more : (new one old more : List ℕ) → one ≡ old ++ more → new ≡ one ++ drop (length one) new →
    new ≡ old ++ drop (length old) new
kept_more new one old more e₁ e₂ =
    kept_front new old (more ++ drop (length one) new) (e₂ ∙ ap (λ (x : List ℕ). x ++ drop (length one) new) e₁
    ∙ append_assoc old more (drop (length one) new))

-- ---- a head, and the content behind it

-- what was written was not too long
pub in_range : {T E : Type 0} (v : T) (e : E) (n limit : ℕ) → (IsErrOf (Ok v) e ↔ (limit ≤ n)) → n < limit
in_range v e n limit h =
    cond_both (ltb n limit) true true (λ _. n < limit) (λ t. ltb-true n limit t)
    (λ t. absurd (let impossible : IsErrOf (Ok v) e = h.1 (ltb-false n limit t) in cc))

pub two : {T E : Type 0} (r : Result T E) (old a b one new : List ℕ) → one ≡ old ++ a → OnOk r (new ≡ one ++ b) →
    OnOk r (new ≡ old ++ (a ++ b))
two (Ok v) old a b one new e₁ e₂ = e₂ ∙ ap (λ (x : List ℕ). x ++ b) e₁ ∙ append_assoc old a b
two (Err e) old a b one new e₁ e₂ = tt

-- the head says the length of the content
pub headed : {T E : Type 0} (r : Result T E) (old one new : List ℕ) (first n limit : ℕ) (content : List ℕ) →
    n ≡ min (length content) limit → n < limit
    → one ≡ old ++ first ∷ length_octets n → OnOk r (new ≡ one ++ content) →
    OnOk r (new ≡ old ++ element_bytes first content)
headed r old one new first n limit content measured small e₁ e₂ =
    let same : n ≡ length content = omega (arith, measured, small) in
    two r old (first ∷ length_octets (length content)) content one new
    (e₁ ∙ ap (λ (k : ℕ). old ++ first ∷ length_octets k) same) e₂
