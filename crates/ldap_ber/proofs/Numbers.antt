-- Octets, and how large a number is that they spell.
use Rattle.std.proofs.Common.{◌≡◌, ℕ, zero, suc, ◌+◌, ◌*◌, ◌^◌, ◌<◌, ◌≤◌, List, [], ◌∷◌, length, take, get_or, map, arith, pow-add, add-zero}
use Rattle.std.proofs.Math.Pow.{pow_mono}
use Rattle.std.proofs.lemmas.List.Sums.{fold_push}
use Rattle.std.proofs.lemmas.List.{take_more, map_push}
use Rattle.std.specs.List.{fold}
use Rattle.ldap_ber.specs.Number.{number}
use Rattle.ldap_ber.specs.Element.{AreOctets}

pub grows : (n b i : ℕ) → n < 2 ^ (8 * i) → b < 256 → n * 256 + b < 2 ^ (8 * (i + 1))
grows n b i small octet =
    let e : 8 * (i + 1) ≡ 8 * i + 8 = omega arith in
    rw (e, pow-add) (omega arith)

pub fits : (n b i len : ℕ) → n < 2 ^ (8 * i) → b < 256 → i < len → len ≤ 8 → n * 256 + b < 2 ^ 64
fits n b i len small octet lt le =
    let below : 8 * (i + 1) ≤ 64 = omega arith in
    let most : 2 ^ (8 * (i + 1)) ≤ 2 ^ 64 = pow_mono below in
    omega (arith, grows n b i small octet, most)

pub number_more : (xs : List ℕ) (i : ℕ) → i < length xs → number (take (i + 1) xs) ≡ number (take i xs) * 256 + get_or
    xs i 0
number_more xs i lt = rw (take_more xs i 0 lt) (fold_push (λ n b. n * 256 + b) 0 (take i xs) (get_or xs i 0))

pub number_more_map : (f : ℕ → ℕ) (xs : List ℕ) (i : ℕ) → i < length xs → number (map f (take (i + 1) xs)) ≡
    number (map f (take i xs)) * 256 + f (get_or xs i 0)
number_more_map f xs i lt = rw (take_more xs i 0 lt, map_push f (take i xs) (get_or xs i 0))
    (fold_push (λ n b. n * 256 + b) 0 (map f (take i xs)) (f (get_or xs i 0)))

pub octets_from : (bs : List ℕ) → ((i : ℕ) → get_or bs i 0 < 256) → AreOctets bs
octets_from [] h = tt
octets_from (b ∷ bs) h = (h 0, octets_from bs (λ i. h (suc i)))

pub octets-take : (n : ℕ) (bs : List ℕ) → AreOctets bs → AreOctets (take n bs)
octets-take zero bs h = tt
octets-take (suc n) [] h = tt
octets-take (suc n) (b ∷ bs) h = (h.0, octets-take n bs h.1)

pub fold_below : (n k : ℕ) (bs : List ℕ) → n < 2 ^ k → AreOctets bs → fold (λ n b. n * 256 + b) n bs < 2 ^
    (k + 8 * length bs)
fold_below n k [] small octets = rw add-zero small
fold_below n k (b ∷ bs) small octets =
    let octet : b < 256 = octets.0 in
    let next : n * 256 + b < 2 ^ (k + 8) = rw pow-add (omega arith) in
    let e : k + 8 * length (b ∷ bs) ≡ (k + 8) + 8 * length bs = omega arith in
    rw e (fold_below (n * 256 + b) (k + 8) bs next octets.1)

-- eight octets whose first bit is not set
pub number_positive : (a : ℕ) (bs : List ℕ) → a < 128 → AreOctets bs → length bs < 8 → number (a ∷ bs) < 2 ^ 63
number_positive a bs low octets short =
    let first : 0 * 256 + a < 2 ^ 7 = omega arith in
    let below : 7 + 8 * length bs ≤ 63 = omega arith in
    let most : 2 ^ (7 + 8 * length bs) ≤ 2 ^ 63 = pow_mono below in
    omega (arith, fold_below (0 * 256 + a) 7 bs first octets, most)
