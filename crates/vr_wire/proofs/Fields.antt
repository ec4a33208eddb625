-- Frames: what is cut from the front is what was spelled, and what was spelled is cut again: numbers, clusters,
-- clients, payloads.
use Rattle.std.proofs.Common.{◌≡◌, ℕ, zero, suc, ◌+◌, ◌/◌, ◌%◌, ◌^◌, ◌<◌, ◌≤◌, Bool, true, false, cond, nat_lt, nat_le, List, []}
use Rattle.std.proofs.Common.{◌∷◌, ◌++◌, length, get_or, take, drop, Option, Some, None, refl, sym, ap, subst, ◌∙◌, append_assoc, arith, inl, inr}
use Rattle.std.specs.Int.{w32, w64, from_be_bytes, to_be_bytes}
use Rattle.std.proofs.lemmas.Bool.{cases_lt, ltb-true, lt-ltb, le-leb, leb-true}
use Rattle.std.proofs.lemmas.List.{take_at, drop_at, take-append-drop, length-append, length-take, get_or-drop, get_or-take, get_or_past}
use Rattle.std.proofs.lemmas.Nat.{be_bytes_4, be_bytes_8, from_be_bytes-to_be_bytes_4, from_be_bytes-to_be_bytes_8}
use Rattle.vr_wire.specs.Frames.{number, short}
use Rattle.view_store.specs.Cluster.{IsCluster, cluster_octets}
use Rattle.vr_wire.specs.private.Cutting.{then, cut_octet, cut_octets, small_number, cut_number, cut_short, known_cluster, cut_cluster}

abbrev pub IsBytes : List ℕ → Type 0
IsBytes bytes = (i : ℕ) → get_or bytes i 0 < 256

pub IsBytes-drop : (n : ℕ) (bytes : List ℕ) → IsBytes bytes → IsBytes (drop n bytes)
IsBytes-drop n bytes h i = rw get_or-drop (h (n + i))

pub IsBytes-take : (n : ℕ) (bytes : List ℕ) → IsBytes bytes → IsBytes (take n bytes)
IsBytes-take n bytes h i =
    elim (cases_lt i n) [
      | inl lt ↦ rw (get_or-take n bytes i 0 lt) (h i)
      | inr le ↦ rw (get_or_past (take n bytes) i 0 (omega (arith, length-take n bytes))) (omega arith)
    ]

pub IsBytes-rest : (b : ℕ) (bytes : List ℕ) → IsBytes (b ∷ bytes) → IsBytes bytes
IsBytes-rest b bytes h i = h (suc i)

-- the value of a step that did not fail
pub then_some : {A B : Type 0} (r : Option A) (f : A → Option B) (y : B) → then r f ≡ Some y → (x : A) × (r ≡ Some x)
    × (f x ≡ Some y)
then_some (Some x) f y e = (x, refl, e)
then_some None f y e = absurd cc

-- tests that did not fail
pub guard_some : {A : Type 0} (b : Bool) (x y : A) → cond b (Some x) None ≡ Some y → (b ≡ true) × (x ≡ y)
guard_some true x y e = (refl, cc)
guard_some false x y e = absurd cc

pub guard_none : {A : Type 0} (b : Bool) (x y : A) → cond b None (Some x) ≡ Some y → (b ≡ false) × (x ≡ y)
guard_none true x y e = absurd cc
guard_none false x y e = (refl, cc)

abbrev there : {A : Type 0} → A → Option A
there x = Some x

pub some_is : {A : Type 0} (x y : A) → there x ≡ there y → x ≡ y
some_is x y e = cc

-- what a reader took from the front
pub record Takes (bytes text rest : List ℕ) : Type 0 where
  pub parts : bytes ≡ text ++ rest
  pub rest_fits : IsBytes rest

pub Takes-then : (a x b y c : List ℕ) → Takes a x b → Takes b y c → Takes a (x ++ y) c
Takes-then a x b y c p q = record {
  parts = p.parts ∙ ap (λ (t : List ℕ). x ++ t) q.parts ∙ sym (append_assoc x y c);
  rest_fits = q.rest_fits;
}

-- ---- octets

pub octet_takes : (bytes : List ℕ) (x : ℕ × List ℕ) → IsBytes bytes → cut_octet bytes ≡ Some x →
    Takes bytes (x.0 ∷ []) x.1
unfolding cut_octet
octet_takes [] x fits e = absurd cc
octet_takes (b ∷ bytes) x fits e =
    subst (λ (y : ℕ × List ℕ). Takes (b ∷ bytes) (y.0 ∷ []) y.1) (some_is (b, bytes) x e)
    (record { parts = refl; rest_fits = IsBytes-rest b bytes fits })

pub octet_again : (b : ℕ) (rest : List ℕ) → cut_octet (b ∷ rest) ≡ Some (b, rest)
unfolding cut_octet
octet_again b rest = refl

pub octets_take : (n : ℕ) (bytes : List ℕ) (x : List ℕ × List ℕ) → IsBytes bytes → cut_octets n bytes ≡ Some x →
    Takes bytes x.0 x.1 × (length x.0 ≡ n) × IsBytes x.0
unfolding cut_octets
octets_take n bytes x fits e =
    let g = guard_some (nat_le n (length bytes)) (take n bytes, drop n bytes) x e in
    let long : n ≤ length bytes = leb-true n (length bytes) g.0 in
    subst (λ (y : List ℕ × List ℕ). Takes bytes y.0 y.1 × (length y.0 ≡ n) × IsBytes y.0) g.1 (
      record {
        parts = sym (take-append-drop n bytes);
        rest_fits = IsBytes-drop n bytes fits;
      },
      omega (arith, length-take n bytes, long),
      IsBytes-take n bytes fits,
    )

pub octets_again : (n : ℕ) (front rest : List ℕ) → length front ≡ n → cut_octets n (front ++ rest) ≡ Some (front, rest)
unfolding cut_octets
octets_again n front rest len =
    let long : nat_le n (length (front ++ rest)) ≡ true = le-leb n (length (front ++ rest))
    (omega (arith, length-append front rest, len)) in
    rw (long, take_at front rest n len, drop_at front rest n len) refl

-- ---- numbers

pub number_takes : (bytes : List ℕ) (x : ℕ × List ℕ) → IsBytes bytes → cut_number bytes ≡ Some x →
    Takes bytes (number x.0) x.1 × (x.0 < 2 ^ 63)
unfolding cut_number
number_takes bytes x fits e =
    let a = then_some (cut_octets 8 bytes) (λ o. small_number (from_be_bytes w64 o.0) o.1) x e in
    let o = octets_take 8 bytes a.0 fits a.1 in
    let g = guard_some (nat_lt (from_be_bytes w64 a.0.0) (2 ^ 63)) (from_be_bytes w64 a.0.0, a.0.1) x a.2 in
    let small : from_be_bytes w64 a.0.0 < 2 ^ 63 = ltb-true (from_be_bytes w64 a.0.0) (2 ^ 63) g.0 in
    let back : number (from_be_bytes w64 a.0.0) ≡ a.0.0 = be_bytes_8 a.0.0 (from_be_bytes w64 a.0.0) o.1 o.2 refl in
    let front : Takes bytes (number (from_be_bytes w64 a.0.0)) a.0.1 = subst (λ (t : List ℕ). Takes bytes t a.0.1)
    (sym back) o.0 in
    subst (λ (y : ℕ × List ℕ). Takes bytes (number y.0) y.1 × (y.0 < 2 ^ 63)) g.1 (front, small)

pub number_again : (n : ℕ) (rest : List ℕ) → n < 2 ^ 63 → cut_number (number n ++ rest) ≡ Some (n, rest)
unfolding cut_number
number_again n rest lt = rw (
  octets_again 8 (number n) rest refl,
  from_be_bytes-to_be_bytes_8 n (omega
      (arith, lt)),
  lt-ltb n (2 ^ 63) lt,
) refl

pub short_takes : (bytes : List ℕ) (x : ℕ × List ℕ) → IsBytes bytes → cut_short bytes ≡ Some x →
    Takes bytes (short x.0) x.1 × (x.0 < 2 ^ 32)
unfolding cut_short
short_takes bytes x fits e =
    let a = then_some (cut_octets 4 bytes) (λ f. Some (from_be_bytes w32 f.0, f.1)) x e in
    let o = octets_take 4 bytes a.0 fits a.1 in
    let back : short (from_be_bytes w32 a.0.0) ≡ a.0.0 = be_bytes_4 a.0.0 (from_be_bytes w32 a.0.0) o.1 o.2 refl in
    let below : (bs : List ℕ) → IsBytes bs → from_be_bytes w32 bs < 2 ^ 32 = λ bs h. omega (arith, h 0, h 1, h 2, h 3)
    in
    let front : Takes bytes (short (from_be_bytes w32 a.0.0)) a.0.1 = subst (λ (t : List ℕ). Takes bytes t a.0.1)
    (sym back) o.0 in
    subst (λ (y : ℕ × List ℕ). Takes bytes (short y.0) y.1 × (y.0 < 2 ^ 32)) (some_is (from_be_bytes w32 a.0.0, a.0.1)
    x a.2) (front, below a.0.0 o.2)

pub short_again : (n : ℕ) (rest : List ℕ) → n < 2 ^ 32 → cut_short (short n ++ rest) ≡ Some (n, rest)
unfolding cut_short
short_again n rest lt = rw (octets_again 4 (short n) rest refl, from_be_bytes-to_be_bytes_4 n lt) refl

-- ---- clusters

-- a number that six octets hold has zeros in the first two of eight
heads : (a b : ℕ) (t : List ℕ) → a ≡ 0 → b ≡ 0 → a ∷ b ∷ t ≡ 0 ∷ 0 ∷ t
heads a b t ea eb = ap (λ (x : ℕ). x ∷ b ∷ t) ea ∙ ap (λ (x : ℕ). 0 ∷ x ∷ t) eb

first_octet : (n : ℕ) → n < 2 ^ 48 → n / 72057594037927936 % 256 ≡ 0
first_octet n lt = omega arith

second_octet : (n : ℕ) → n < 2 ^ 48 → n / 281474976710656 % 256 ≡ 0
second_octet n lt = omega arith

six_octets : (n : ℕ) → n < 2 ^ 48 → to_be_bytes w64 n ≡ 0 ∷ 0 ∷ cluster_octets n
six_octets n lt = heads (n / 72057594037927936 % 256) (n / 281474976710656 % 256) (cluster_octets n)
    (first_octet n lt) (second_octet n lt)

pub read_cluster : (n : ℕ) → n < 2 ^ 48 → from_be_bytes w64 (0 ∷ 0 ∷ cluster_octets n) ≡ n
read_cluster n lt = sym (ap (λ (l : List ℕ). from_be_bytes w64 l) (six_octets n lt)) ∙ from_be_bytes-to_be_bytes_8 n
    (omega (arith, lt))

six_below : (bs : List ℕ) → IsBytes bs → from_be_bytes w64 (0 ∷ 0 ∷ bs) < 2 ^ 48
six_below bs h = omega (arith, h 0, h 1, h 2, h 3, h 4, h 5)

IsBytes-zero : (bs : List ℕ) → IsBytes bs → IsBytes (0 ∷ bs)
IsBytes-zero bs h zero = omega arith
IsBytes-zero bs h (suc i) = h i

-- six octets are those of their number
pub written_six : (bs : List ℕ) → length bs ≡ 6 → IsBytes bs → cluster_octets (from_be_bytes w64 (0 ∷ 0 ∷ bs)) ≡ bs
written_six bs len h =
    ap (λ (l : List ℕ). drop 2 l) (be_bytes_8 (0 ∷ 0 ∷ bs) (from_be_bytes w64 (0 ∷ 0 ∷ bs)) (omega (arith, len))
    (IsBytes-zero (0 ∷ bs) (IsBytes-zero bs h)) refl)

pub cluster_takes : (bytes : List ℕ) (x : ℕ × List ℕ) → IsBytes bytes → cut_cluster bytes ≡ Some x →
    Takes bytes (cluster_octets x.0) x.1 × IsCluster x.0
unfolding cut_cluster
cluster_takes bytes x fits e =
    let a = then_some (cut_octets 6 bytes) (λ o. known_cluster (from_be_bytes w64 (0 ∷ 0 ∷ o.0)) o.1) x e in
    let o = octets_take 6 bytes a.0 fits a.1 in
    let n = from_be_bytes w64 (0 ∷ 0 ∷ a.0.0) in
    let g = guard_some (nat_lt 0 n) (n, a.0.1) x a.2 in
    let least : 0 < n = ltb-true 0 n g.0 in
    let below : n < 2 ^ 48 = six_below a.0.0 o.2 in
    let front : Takes bytes (cluster_octets n) a.0.1 = subst (λ (t : List ℕ). Takes bytes t a.0.1)
    (sym (written_six a.0.0 o.1 o.2)) o.0 in
    subst (λ (y : ℕ × List ℕ). Takes bytes (cluster_octets y.0) y.1 × IsCluster y.0) g.1
    (front, (omega (arith, least), below))

pub cluster_again : (n : ℕ) (rest : List ℕ) → IsCluster n → cut_cluster (cluster_octets n ++ rest) ≡ Some (n, rest)
unfolding cut_cluster
cluster_again n rest h =
    let least : nat_lt 0 n ≡ true = lt-ltb 0 n (omega (arith, h.0)) in
    rw (octets_again 6 (cluster_octets n) rest refl, read_cluster n h.1, least) refl
