-- LDIF: the text of lines.
use Rattle.std.proofs.Common.{◌≡◌, ℕ, suc, ◌+◌, ◌<◌, List, [], ◌∷◌, ◌++◌, length, drop, get_or, refl, sym, ap, ◌∙◌, append_assoc, add-one, drop-cons}
use Rattle.ldif.specs.Records.{RecordModel}
use Rattle.ldif.specs.Written.{lines_text, record_lines, records_lines}

pub lines_text_append : (xs ys : List (List ℕ)) → lines_text (xs ++ ys) ≡ lines_text xs ++ lines_text ys
lines_text_append [] ys = refl
lines_text_append (x ∷ xs) ys = ap (λ t. x ++ 10 ∷ t) (lines_text_append xs ys)
    ∙ sym (append_assoc x (10 ∷ lines_text xs) (lines_text ys))

-- one more record is written
pub record_written : (rs : List RecordModel) (i : ℕ) (r : RecordModel) (out new : List ℕ) → i < length rs →
    r ≡ get_or rs i r → new ≡ out ++ lines_text (record_lines r)
    → new ++ lines_text (records_lines (drop (i + 1) rs)) ≡ out ++ lines_text (records_lines (drop i rs))
record_written rs i r out new h is put =
    let cut : drop i rs ≡ r ∷ drop (i + 1) rs = rw add-one (drop-cons rs i r h ∙ ap (λ x. x ∷ drop (suc i) rs)
    (sym is)) in
    ap (λ x. x ++ lines_text (records_lines (drop (i + 1) rs))) put
    ∙ append_assoc out (lines_text (record_lines r)) (lines_text (records_lines (drop (i + 1) rs)))
    ∙ ap (λ x. out ++ x) (sym (lines_text_append (record_lines r) (records_lines (drop (i + 1) rs))))
    ∙ ap (λ x. out ++ lines_text (records_lines x)) (sym cut)
