-- What is written behind a head, piece by piece, is the message.
use Rattle.std.proofs.Common.{◌≡◌, ℕ, ◌+◌, ◌<◌, ◌≤◌, List, [], ◌∷◌, ◌++◌, length, min, ap, ◌∙◌, ◌⊎◌, inl, inr, append_assoc, arith}
use Rattle.std.proofs.lemmas.List.{length-append}
use Rattle.ldap_requests.specs.ldap_ber.Element.{length_octets, element_bytes}
use Rattle.ldap_requests.specs.ldap_ber.Written.{number_bytes}
use Rattle.ldap_requests.proofs.ldap_ber.RowsWritten.{element_long}
use Rattle.ldap_msg.specs.private.Written.{enveloped}

-- the length of three parts, up to a limit
pub three_measure : (a b k : List ℕ) (m n limit sum total : ℕ) → m ≡ length a → n ≡ min (length b) limit →
    sum ≡ min (m + n) limit → total ≡ min (sum + length k) limit
    → total ≡ min (length (a ++ b ++ k)) limit
three_measure a b k m n limit sum total e₁ e₂ e₃ e₄ =
    omega (arith, e₁, e₂, e₃, e₄, length-append a b, length-append (a ++ b) k)

regroup : (h n f c k : List ℕ) → (((h ++ n) ++ f) ++ c) ++ k ≡ h ++ ((n ++ (f ++ c)) ++ k)
regroup h n f c k = simp append_assoc

behind : (o h c k : List ℕ) → ((o ++ h) ++ c) ++ k ≡ o ++ ((h ++ c) ++ k)
behind o h c k = simp append_assoc

-- the whole message behind what was there, once all its parts are written
pub whole : (id first n total limit : ℕ) (content ending old one two new : List ℕ) → min n limit ≡
    min (length content) limit → n < limit
    → total ≡ min (length (enveloped id (element_bytes first content) ending)) limit → total < limit
    → one ≡ old ++ ((48 ∷ length_octets total) ++ number_bytes 2 id ++ (first ∷ length_octets n)) →
    two ≡ one ++ content → new ≡ two ++ ending
    → new ≡ old ++ element_bytes 48 (enveloped id (element_bytes first content) ending)
whole id first n total limit content ending old one two new measured small measured_all small_all e₁ e₂ e₃ =
    let all : List ℕ = enveloped id (element_bytes first content) ending in
    let same : n ≡ length content = omega (arith, measured, small) in
    let same_all : total ≡ length all = omega (arith, measured_all, small_all) in
    let head : List ℕ = ((48 ∷ length_octets (length all)) ++ number_bytes 2 id) ++ (first ∷ length_octets
    (length content)) in
    let there : one ≡ old ++ head =
    e₁ ∙ ap (λ (t : ℕ). old ++ (((48 ∷ length_octets t) ++ number_bytes 2 id) ++ (first ∷ length_octets n))) same_all
    ∙ ap (λ (t : ℕ). old ++ (((48 ∷ length_octets (length all)) ++ number_bytes 2 id) ++ (first ∷ length_octets t)))
    same in
    e₃ ∙ ap (λ (x : List ℕ). x ++ ending) e₂ ∙ ap (λ (x : List ℕ). (x ++ content) ++ ending) there
    ∙ behind old head content ending
    ∙ ap (λ (x : List ℕ). old ++ x) (regroup (48 ∷ length_octets (length all)) (number_bytes 2 id)
    (first ∷ length_octets (length content)) content ending)

-- the same of a buffer that was empty
pub whole_alone : (id first n total limit : ℕ) (content ending old one two new : List ℕ) → old ≡ [] → min n limit ≡
    min (length content) limit → n < limit
    → total ≡ min (length (enveloped id (element_bytes first content) ending)) limit → total < limit
    → one ≡ old ++ ((48 ∷ length_octets total) ++ number_bytes 2 id ++ (first ∷ length_octets n)) →
    two ≡ one ++ content → new ≡ two ++ ending
    → new ≡ element_bytes 48 (enveloped id (element_bytes first content) ending)
whole_alone id first n total limit content ending old one two new none measured small measured_all small_all e₁ e₂ e₃ =
    whole id first n total limit content ending old one two new measured small measured_all small_all e₁ e₂ e₃
    ∙ ap (λ (x : List ℕ). x ++ element_bytes 48 (enveloped id (element_bytes first content) ending)) none

-- a message is at least as long as each of its parts
pub operation_long : (id : ℕ) (operation ending : List ℕ) (n : ℕ) → n ≤ length operation →
    n ≤ length (enveloped id operation ending)
operation_long id operation ending n h =
    omega (arith, h, length-append (number_bytes 2 id) operation, length-append (number_bytes 2 id ++ operation) ending)

pub content_long : (id first : ℕ) (content ending : List ℕ) (n : ℕ) → n ≤ length content →
    n ≤ length (enveloped id (element_bytes first content) ending)
content_long id first content ending n h = operation_long id (element_bytes first content) ending n
    (element_long first content n h)

-- where a length was too long, the message is
pub too_long : (id first n total limit : ℕ) (content ending : List ℕ) → min n limit ≡ min (length content) limit
    → total ≡ min (length (enveloped id (element_bytes first content) ending)) limit → (limit ≤ n) ⊎ (limit ≤ total)
    → limit ≤ length (enveloped id (element_bytes first content) ending)
too_long id first n total limit content ending measured measured_all (inl h) = content_long id first content ending
    limit (omega (arith, measured, h))
too_long id first n total limit content ending measured measured_all (inr h) = omega (arith, measured_all, h)

-- what stands before an operation's content, behind what was there
pub begun : (a b d old room one two new : List ℕ) → room ≡ old → one ≡ room ++ a → two ≡ one ++ b → new ≡ two ++ d →
    new ≡ old ++ (a ++ b ++ d)
begun a b d old room one two new e₀ e₁ e₂ e₃ =
    e₃ ∙ ap (λ (x : List ℕ). x ++ d) (e₂ ∙ ap (λ (x : List ℕ). x ++ b) (e₁ ∙ ap (λ (x : List ℕ). x ++ a) e₀))
    ∙ behind old a b d
