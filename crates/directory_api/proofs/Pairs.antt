-- A look and a gate along a talk with both.
use Rattle.std.proofs.Common.{◌≡◌, ◌≤◌, ℕ, ◌+◌, min, arith, List, [], ◌∷◌, ap, subst}
use Rattle.directory_api.specs.Talk.{Exchange, asked_role, learned, searched, compared, updated, Along, ends, goes}
use Rattle.directory_api.specs.Pairs.{both, reads_of, asked_of_gate, PairGoesAlong}
use Rattle.directory_api.specs.Counting.{updates_of, updates_in, greatest_count, Counts, PairCounts}

-- a talk that begins where a value stays
stayed : {D T : Type 0} (allows : D → Exchange T → D → Type 0) (d m e : D) (xs : List (Exchange T)) → m ≡ d →
    Along allows m xs e → Along allows d xs e
stayed {T = T} allows d m e xs q along = subst (λ x. Along allows x xs e) q along

go : {L G T : Type 0} (look : L → Exchange T → L → Type 0) (gate : G → Exchange T → G → Type 0) (d e : L × G)
    (talk : List (Exchange T)) →
    Along (both look gate) d talk e → Along look d.0 (reads_of talk) e.0 × Along gate d.1 (asked_of_gate talk) e.1
go look gate d e [] ends = (ends, ends)
go look gate d e (asked_role r t ∷ xs) (goes {e = m} x rest) =
    let after = go look gate m e xs rest in
    (stayed look d.0 m.0 e.0 (reads_of xs) x.1 after.0, goes x.0 after.1)
go look gate d e (learned t ∷ xs) (goes {e = m} x rest) =
    let after = go look gate m e xs rest in
    (goes x.0 after.0, stayed gate d.1 m.1 e.1 (asked_of_gate xs) x.1 after.1)
go look gate d e (searched n q f ∷ xs) (goes {e = m} x rest) =
    let after = go look gate m e xs rest in
    (goes x.0 after.0, stayed gate d.1 m.1 e.1 (asked_of_gate xs) x.1 after.1)
go look gate d e (compared n q f ∷ xs) (goes {e = m} x rest) =
    let after = go look gate m e xs rest in
    (goes x.0 after.0, stayed gate d.1 m.1 e.1 (asked_of_gate xs) x.1 after.1)
go look gate d e (updated c n u f ∷ xs) (goes {e = m} x rest) =
    let after = go look gate m e xs rest in
    (stayed look d.0 m.0 e.0 (reads_of xs) x.1 after.0, goes x.0 after.1)

pub pair_goes_along : {L G T : Type 0} (look : L → Exchange T → L → Type 0) (gate : G → Exchange T → G → Type 0) →
    PairGoesAlong look gate
pair_goes_along look gate = go look gate

none_more : (n m : ℕ) → n ≤ m → n ≡ min (n + 0) m
none_more n m p = omega (arith, p)

and_on : (a b c x xs m : ℕ) → b ≡ min (a + x) m → c ≡ min (b + xs) m → c ≡ min (a + (x + xs)) m
and_on a b c x xs m p q = omega (arith, p, q)

fits : (a b x m : ℕ) → b ≡ min (a + x) m → b ≤ m
fits a b x m p = omega (arith, p)

same_count : (a b m : ℕ) → a ≤ m → b ≡ a → b ≡ min (a + 0) m
same_count a b m p q = omega (arith, p, q)

-- one exchange with a pair
step : {L G T : Type 0} (look : L → Exchange T → L → Type 0) (gate : G → Exchange T → G → Type 0) (count : G → ℕ) →
    Counts count gate →
    (d e : L × G) (x : Exchange T) → count d.1 ≤ greatest_count → both look gate d x e →
    count e.1 ≡ min (count d.1 + updates_of x) greatest_count
step look gate count counts d e (asked_role r t) p x = counts d.1 e.1 (asked_role r t) x.0
step look gate count counts d e (learned t) p x = same_count (count d.1) (count e.1) greatest_count p (ap count x.1)
step look gate count counts d e (searched n q f) p x = same_count (count d.1) (count e.1) greatest_count p
    (ap count x.1)
step look gate count counts d e (compared n q f) p x = same_count (count d.1) (count e.1) greatest_count p
    (ap count x.1)
step look gate count counts d e (updated c n u f) p x = counts d.1 e.1 (updated c n u f) x.0

pub pair_counts : {L G T : Type 0} (look : L → Exchange T → L → Type 0) (gate : G → Exchange T → G → Type 0)
    (count : G → ℕ) → Counts count gate →
    PairCounts look gate count
pair_counts look gate count counts d e [] p ends = none_more (count d.1) greatest_count p
pair_counts look gate count counts d e (x ∷ xs) p (goes {e = m} s rest) =
    let one = step look gate count counts d m x p s in
    and_on (count d.1) (count m.1) (count e.1) (updates_of x) (updates_in xs) greatest_count one
    (pair_counts look gate count counts m e xs (fits (count d.1) (count m.1) (updates_of x) greatest_count one) rest)
