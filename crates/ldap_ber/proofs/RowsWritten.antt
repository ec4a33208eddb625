-- The octets of a row with one more value at its end.
use Rattle.std.proofs.Common.{◌≡◌, ℕ, zero, suc, ◌+◌, ◌<◌, ◌≤◌, List, [], ◌∷◌, ◌++◌, length, min, get_or, take, map, sym, ap, ◌∙◌, append_assoc, arith}
use Rattle.std.proofs.lemmas.List.{append-nil, take_more, map_push, length-append}
use Rattle.ldap_ber.specs.Element.{element_bytes, length_octets}
use Rattle.ldap_ber.specs.Rows.{row_bytes}

bytes_push : {V : Type 0} (bytes : V → List ℕ) (vs : List V) (v : V) → row_bytes bytes (vs ++ v ∷ []) ≡
    row_bytes bytes vs ++ bytes v
bytes_push bytes [] v = append-nil (bytes v)
bytes_push bytes (w ∷ ws) v = ap (λ (x : List ℕ). bytes w ++ x) (bytes_push bytes ws v)
    ∙ sym (append_assoc (bytes w) (row_bytes bytes ws) (bytes v))

row_more : {A V : Type 0} (bytes : V → List ℕ) (f : A → V) (xs : List A) (i : ℕ) (d : A) → i < length xs →
    row_bytes bytes (map f (take (i + 1) xs)) ≡ row_bytes bytes (map f (take i xs)) ++ bytes (f (get_or xs i d))
row_more {A} {V} bytes f xs i d lt =
    ap (λ (ys : List A). row_bytes bytes (map f ys)) (take_more xs i d lt)
    ∙ ap (row_bytes bytes) (map_push f (take i xs) (get_or xs i d)) ∙ bytes_push bytes (map f (take i xs))
    (f (get_or xs i d))

pub row_step : {A V : Type 0} (bytes : V → List ℕ) (f : A → V) (old now new : List ℕ) (xs : List A) (i : ℕ) (x : A) →
    i < length xs → x ≡ get_or xs i x
    → now ≡ old ++ row_bytes bytes (map f (take i xs)) → new ≡ now ++ bytes (f x) → new ≡ old ++ row_bytes bytes
    (map f (take (i + 1) xs))
row_step {A} {V} bytes f old now new xs i x lt is so_far step =
    step ∙ ap (λ (s : List ℕ). s ++ bytes (f x)) so_far ∙ append_assoc old (row_bytes bytes (map f (take i xs)))
    (bytes (f x))
    ∙ ap (λ (s : List ℕ). old ++ s) (ap (λ (y : A). row_bytes bytes (map f (take i xs)) ++ bytes (f y)) is
    ∙ sym (row_more bytes f xs i x lt))

long_at : {A V : Type 0} (bytes : V → List ℕ) (f : A → V) (xs : List A) (i : ℕ) (d : A) → i < length xs →
    length (bytes (f (get_or xs i d))) ≤ length (row_bytes bytes (map f xs))
long_at bytes f [] i d lt = absurd (omega arith)
long_at bytes f (x ∷ xs) zero d lt = omega (arith, length-append (bytes (f x)) (row_bytes bytes (map f xs)))
long_at bytes f (x ∷ xs) (suc i) d lt =
    omega (arith, length-append (bytes (f x)) (row_bytes bytes (map f xs)), long_at bytes f xs i d (omega arith))

-- a row is at least as long as each of its values
pub row_long : {A V : Type 0} (bytes : V → List ℕ) (f : A → V) (xs : List A) (i : ℕ) (x : A) (n : ℕ) → i < length xs →
    x ≡ get_or xs i x → n ≤ length (bytes (f x)) → n ≤ length (row_bytes bytes (map f xs))
row_long {A} {V} bytes f xs i x n lt is long =
    let same : length (bytes (f x)) ≡ length (bytes (f (get_or xs i x))) = ap (λ (y : A). length (bytes (f y))) is in
    omega (arith, same, long_at bytes f xs i x lt)

-- an element is at least as long as its content
pub element_long : (first : ℕ) (content : List ℕ) (n : ℕ) → n ≤ length content →
    n ≤ length (element_bytes first content)
element_long first content n long = omega (arith, length-append (length_octets (length content)) content)

-- the length of a row with one more value, up to a limit
pub row_measure : {A V : Type 0} (bytes : V → List ℕ) (f : A → V) (xs : List A) (i : ℕ) (x : A) (limit now one new :
    ℕ) → i < length xs → x ≡ get_or xs i x
    → now ≡ min (length (row_bytes bytes (map f (take i xs)))) limit → one ≡ min (length (bytes (f x))) limit →
    new ≡ min (now + one) limit
    → new ≡ min (length (row_bytes bytes (map f (take (i + 1) xs)))) limit
row_measure {A} {V} bytes f xs i x limit now one new lt is so_far this sum =
    let whole : length (row_bytes bytes (map f (take (i + 1) xs))) ≡ length (row_bytes bytes (map f (take i xs))) +
    length (bytes (f x)) =
    ap length (row_more bytes f xs i x lt) ∙ length-append (row_bytes bytes (map f (take i xs)))
    (bytes (f (get_or xs i x)))
    ∙ ap (λ (y : A). length (row_bytes bytes (map f (take i xs))) + length (bytes (f y))) (sym is) in
    omega (arith, whole, so_far, this, sum)
