-- Keys of names as they are put together.
use Rattle.std.proofs.Common.{ℕ, ◌+◌, ◌<◌, List, [], ◌∷◌, ◌++◌, ◌≡◌, ap, sym, ◌∙◌, drop, length, get_or, append_assoc}
use Rattle.std.proofs.Math.Seq.{drop-append_seam}
use Rattle.std.proofs.lemmas.List.{at_drop_more}

begun : (o : List ℕ) {n : List ℕ} (y : List ℕ) → n ≡ o ++ y → n ≡ o ++ drop (length o) n
begun o {n} y e = e ∙ ap (λ (x : List ℕ). o ++ x) (sym (ap (drop (length o)) e ∙ drop-append_seam o y))

-- octets that begin with those before still do where nothing was put
pub kept_same : (o : List ℕ) {b n : List ℕ} → n ≡ b → b ≡ o ++ drop (length o) b → n ≡ o ++ drop (length o) n
kept_same o {b} {n} e k = begun o (drop (length o) b) (e ∙ k)

-- and where more was put
pub kept_more : (o : List ℕ) {b n : List ℕ} (x : List ℕ) → n ≡ b ++ x → b ≡ o ++ drop (length o) b →
    n ≡ o ++ drop (length o) n
kept_more o {b} {n} x e k = begun o (drop (length o) b ++ x) (e ∙ ap (λ (z : List ℕ). z ++ x) k
    ∙ append_assoc o (drop (length o) b) x)

-- the next thing of a list was put, a 1 before it
pub one_more : {A : Type 0} (all : List A → List ℕ) (f : A → List ℕ) →
    ((x : A) (xs : List A) → all (x ∷ xs) ≡ 1 ∷ f x ++ all xs)
    → (xs : List A) (i : ℕ) (d : A) (out : List ℕ) {mid n total : List ℕ} → i < length xs → mid ≡ out ++ 1 ∷ [] →
    n ≡ mid ++ f (get_or xs i d)
    → out ++ all (drop i xs) ≡ total → n ++ all (drop (i + 1) xs) ≡ total
one_more {A = A} all f step xs i d out {mid} {n} {total} lt one next h =
    let more = all (drop (i + 1) xs) in
    ap (λ (z : List ℕ). z ++ more) (next ∙ ap (λ (z : List ℕ). z ++ f (get_or xs i d)) one)
    ∙ append_assoc (out ++ 1 ∷ []) (f (get_or xs i d)) more
    ∙ append_assoc out (1 ∷ []) (f (get_or xs i d) ++ more)
    ∙ sym (at_drop_more (λ (l : List A). out ++ all l) xs i d lt ∙ ap (λ (z : List ℕ). out ++ z)
    (step (get_or xs i d) (drop (i + 1) xs)))
    ∙ h
