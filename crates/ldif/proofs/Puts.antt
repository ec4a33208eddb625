-- LDIF and messages: what a loop has put, and what is left.
use Rattle.std.proofs.Common.{◌≡◌, ℕ, suc, ◌+◌, ◌<◌, List, ◌∷◌, ◌++◌, length, drop, get_or, sym, ap, ap₂, ◌∙◌, subst, inr, arith, drop-cons}
use Rattle.std.proofs.lemmas.List.{append_assoc}
use Rattle.ldif.specs.Records.{RecordModel}
use Rattle.ldap_msg.specs.Written.{message_bytes}
use Rattle.ldif.specs.Adds.{add_message, adds_from}
use Rattle.ldif.specs.HexLines.{hex_line, message_lines}
use Rattle.ldif.specs.Imports.{HasTooLong}

one_more : (i : ℕ) → suc i ≡ i + 1
one_more i = omega arith

-- the first of what is left, and the rest
first_left : {A : Type 0} (xs : List A) (i : ℕ) (x : A) → i < length xs → x ≡ get_or xs i x →
    drop i xs ≡ x ∷ drop (i + 1) xs
first_left xs i x lt is = drop-cons xs i x lt ∙ ap₂ (λ y k. y ∷ drop k xs) (sym is) (one_more i)

-- The lines of one record more.
pub lines_next : (rs : List RecordModel) (i id : ℕ) (r : RecordModel) (before after whole : List ℕ) → i < length rs →
    r ≡ get_or rs i r → id ≡ i + 1
    → before ++ message_lines (adds_from (i + 1) (drop i rs)) ≡ whole → after ≡ before ++ hex_line
    (message_bytes (add_message id r))
    → after ++ message_lines (adds_from (i + 1 + 1) (drop (i + 1) rs)) ≡ whole
lines_next rs i id r before after whole lt is same put more =
    let rest = message_lines (adds_from (i + 1 + 1) (drop (i + 1) rs)) in
    let line = hex_line (message_bytes (add_message (i + 1) r)) in
    ap (λ l. l ++ rest) (more ∙ ap (λ k. before ++ hex_line (message_bytes (add_message k r))) same)
    ∙ append_assoc before line rest
    ∙ ap (λ (l : List RecordModel). before ++ message_lines (adds_from (i + 1) l)) (sym (first_left rs i r lt is)) ∙ put

-- One that is too long is left, if one of the rest is.
pub too_long_next : (rs : List RecordModel) (i : ℕ) (r : RecordModel) → i < length rs → r ≡ get_or rs i r →
    HasTooLong (adds_from (i + 1 + 1) (drop (i + 1) rs)) → HasTooLong (adds_from (i + 1) (drop i rs))
too_long_next rs i r lt is long = subst (λ (l : List RecordModel). HasTooLong (adds_from (i + 1) l))
    (sym (first_left rs i r lt is)) (inr long)
