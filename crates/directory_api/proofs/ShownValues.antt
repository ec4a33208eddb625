-- Octet strings, one more at the end or one part more: what they take, and what is written of them.
use Rattle.std.proofs.Common.{◌≡◌, ℕ, ◌+◌, ◌<◌, ◌≤◌, List, [], ◌∷◌, ◌++◌, length, min, get_or, take, drop, refl, ap, sym, subst, ◌∙◌, append_assoc, arith}
use Rattle.std.proofs.lemmas.List.{append-nil, length-append, map-id}
use Rattle.ldap_msg.specs.ldap_ber.Element.{element_bytes}
use Rattle.ldap_msg.specs.ldap_ber.Rows.{row_bytes}
use Rattle.ldap_msg.proofs.ldap_ber.RowsWritten.{row_step, row_long, row_measure, element_long}

-- one more value is written
pub value_step : (old now new : List ℕ) (xs : List (List ℕ)) (i : ℕ) (x : List ℕ) → i < length xs → x ≡ get_or xs i x
    → now ≡ old ++ row_bytes (element_bytes 4) (take i xs) → new ≡ now ++ element_bytes 4 x →
    new ≡ old ++ row_bytes (element_bytes 4) (take (i + 1) xs)
value_step old now new xs i x lt is so_far step =
    subst (λ (ys : List (List ℕ)). new ≡ old ++ row_bytes (element_bytes 4) ys) (map-id (take (i + 1) xs))
    (row_step (element_bytes 4) (λ v. v) old now new xs i x lt is
    (subst (λ (ys : List (List ℕ)). now ≡ old ++ row_bytes (element_bytes 4) ys) (sym (map-id (take i xs)))
    so_far) step)

-- the values are at least as long as each of them
pub value_long : (xs : List (List ℕ)) (i : ℕ) (x : List ℕ) (n : ℕ) → i < length xs → x ≡ get_or xs i x →
    n ≤ length x → n ≤ length (row_bytes (element_bytes 4) xs)
value_long xs i x n lt is long =
    subst (λ (ys : List (List ℕ)). n ≤ length (row_bytes (element_bytes 4) ys)) (map-id xs)
    (row_long (element_bytes 4) (λ v. v) xs i x n lt is (element_long 4 x n long))

-- one more value is measured, up to a limit
pub value_measure : (xs : List (List ℕ)) (i : ℕ) (x : List ℕ) (limit now one new : ℕ) → i < length xs →
    x ≡ get_or xs i x
    → now ≡ min (length (row_bytes (element_bytes 4) (take i xs))) limit → one ≡ min (length (element_bytes 4 x))
    limit → new ≡ min (now + one) limit
    → new ≡ min (length (row_bytes (element_bytes 4) (take (i + 1) xs))) limit
value_measure xs i x limit now one new lt is so_far this sum =
    subst (λ (ys : List (List ℕ)). new ≡ min (length (row_bytes (element_bytes 4) ys)) limit) (map-id (take (i + 1) xs))
    (row_measure (element_bytes 4) (λ v. v) xs i x limit now one new lt is
    (subst (λ (ys : List (List ℕ)). now ≡ min (length (row_bytes (element_bytes 4) ys)) limit)
    (sym (map-id (take i xs))) so_far) this sum)

-- ---- part by part

row_append : (xs ys : List (List ℕ)) → row_bytes (element_bytes 4) (xs ++ ys) ≡ row_bytes (element_bytes 4) xs ++
    row_bytes (element_bytes 4) ys
row_append [] ys = refl
row_append (x ∷ xs) ys =
    ap (λ (bs : List ℕ). element_bytes 4 x ++ bs) (row_append xs ys)
    ∙ sym (append_assoc (element_bytes 4 x) (row_bytes (element_bytes 4) xs) (row_bytes (element_bytes 4) ys))

split_length : (left here rest : List (List ℕ)) → left ≡ here ++ rest → length (row_bytes (element_bytes 4) left) ≡
    length (row_bytes (element_bytes 4) here) + length (row_bytes (element_bytes 4) rest)
split_length left here rest e =
    ap (λ (xs : List (List ℕ)). length (row_bytes (element_bytes 4) xs)) e ∙ ap length (row_append here rest)
    ∙ length-append (row_bytes (element_bytes 4) here) (row_bytes (element_bytes 4) rest)

-- one part more is measured, up to a limit
pub measured_more : (left here rest : List (List ℕ)) (limit now one new whole : ℕ) → left ≡ here ++ rest →
    one ≡ min (length (row_bytes (element_bytes 4) here)) limit → new ≡ min (now + one) limit
    → min (now + length (row_bytes (element_bytes 4) left)) limit ≡ whole
    → min (new + length (row_bytes (element_bytes 4) rest)) limit ≡ whole
measured_more left here rest limit now one new whole e this sum so_far =
    let split = split_length left here rest e in omega (arith, split, this, sum, so_far)

-- all parts are measured
pub measured_all : (left : List (List ℕ)) (limit now whole : ℕ) → left ≡ [] → now ≤ limit
    → min (now + length (row_bytes (element_bytes 4) left)) limit ≡ whole → now ≡ whole
measured_all left limit now whole e within so_far =
    let none : length (row_bytes (element_bytes 4) left) ≡ 0 = ap (λ (xs : List (List ℕ)).
    length (row_bytes (element_bytes 4) xs)) e in
    omega (arith, none, within, so_far)

-- no part is written yet
pub written_first : (old : List ℕ) (left all : List (List ℕ)) → left ≡ all
    → old ++ row_bytes (element_bytes 4) left ≡ old ++ row_bytes (element_bytes 4) all
written_first old left all e = ap (λ (xs : List (List ℕ)). old ++ row_bytes (element_bytes 4) xs) e

-- one part more is written
pub written_more : (old now new : List ℕ) (left here rest all : List (List ℕ)) → left ≡ here ++ rest
    → new ≡ now ++ row_bytes (element_bytes 4) here
    → now ++ row_bytes (element_bytes 4) left ≡ old ++ row_bytes (element_bytes 4) all
    → new ++ row_bytes (element_bytes 4) rest ≡ old ++ row_bytes (element_bytes 4) all
written_more old now new left here rest all e step so_far =
    ap (λ (bs : List ℕ). bs ++ row_bytes (element_bytes 4) rest) step
    ∙ append_assoc now (row_bytes (element_bytes 4) here) (row_bytes (element_bytes 4) rest)
    ∙ ap (λ (bs : List ℕ). now ++ bs)
    (sym (row_append here rest) ∙ ap (row_bytes (element_bytes 4)) (sym e))
    ∙ so_far

-- all parts are written
pub written_all : (old now : List ℕ) (left all : List (List ℕ)) → left ≡ []
    → now ++ row_bytes (element_bytes 4) left ≡ old ++ row_bytes (element_bytes 4) all
    → now ≡ old ++ row_bytes (element_bytes 4) all
written_all old now left all e so_far =
    sym (append-nil now) ∙ ap (λ (xs : List (List ℕ)). now ++ row_bytes (element_bytes 4) xs) (sym e) ∙ so_far

-- the values are at least as long as those of a part
pub part_long : (old now : List ℕ) (left here rest all : List (List ℕ)) (n : ℕ) → left ≡ here ++ rest
    → now ++ row_bytes (element_bytes 4) left ≡ old ++ row_bytes (element_bytes 4) all
    → now ≡ old ++ drop (length old) now → n ≤ length (row_bytes (element_bytes 4) here)
    → n ≤ length (row_bytes (element_bytes 4) all)
part_long old now left here rest all n e so_far kept long =
    let split = split_length left here rest e in
    let both : length now + length (row_bytes (element_bytes 4) left) ≡ length old + length (row_bytes
    (element_bytes 4) all) =
    sym (length-append now (row_bytes (element_bytes 4) left)) ∙ ap length so_far ∙ length-append old
    (row_bytes (element_bytes 4) all) in
    let front : length now ≡ length old + length (drop (length old) now) = ap length kept
    ∙ length-append old (drop (length old) now) in
    omega (arith, split, both, front, long)
