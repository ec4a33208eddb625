-- LDIF and messages: one more message means something.
use Rattle.std.proofs.Common.{◌≡◌, ℕ, ◌+◌, ◌<◌, List, [], ◌∷◌, ◌++◌, Vec, Global, length, map, take, get_or, sym, ap, ◌∙◌, subst}
use Rattle.std.proofs.lemmas.List.{take_more, map-append}
use Rattle.ldif.specs.declared.meant.Meant.{Meant}
use Rattle.ldif.specs.Exports.{Means, AllMean}

all_mean_more : (os : List (List ℕ)) (ms : List Meant) (o : List ℕ) (m : Meant) → AllMean os ms → Means o m →
    AllMean (os ++ o ∷ []) (ms ++ m ∷ [])
all_mean_more [] [] o m all h = (h, tt)
all_mean_more [] (x ∷ ms) o m all h = absurd all
all_mean_more (x ∷ os) [] o m all h = absurd all
all_mean_more (x ∷ os) (y ∷ ms) o m all h = (all.0, all_mean_more os ms o m all.1 h)

-- the octets of a vector
abbrev items_of : Vec ℕ Global → List ℕ
items_of v = v.items

pub mean_more : (vs : List (Vec ℕ Global)) (i : ℕ) (v : Vec ℕ Global) (ms new : List Meant) (m : Meant) →
    i < length vs → v ≡ get_or vs i v
    → AllMean (map items_of (take i vs)) ms → Means v.items m → new ≡ ms ++ m ∷ [] →
    AllMean (map items_of (take (i + 1) vs)) new
mean_more vs i v ms new m lt is all h put =
    let cut : take (i + 1) vs ≡ take i vs ++ v ∷ [] = take_more vs i v lt
    ∙ ap (λ (x : Vec ℕ Global). take i vs ++ x ∷ []) (sym is) in
    let mapped : map items_of (take (i + 1) vs) ≡ map items_of (take i vs) ++ v.items ∷ [] =
    ap (λ (xs : List (Vec ℕ Global)). map items_of xs) cut ∙ map-append items_of (take i vs) (v ∷ []) in
    subst (λ (xs : List Meant). AllMean (map items_of (take (i + 1) vs)) xs) (sym put)
    (subst (λ (os : List (List ℕ)). AllMean os (ms ++ m ∷ [])) (sym mapped) (all_mean_more (map items_of (take i vs))
    ms v.items m all h))
