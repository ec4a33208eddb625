-- Keys of names tell names apart.
use Rattle.std.proofs.Common.{ℕ, ◌<◌, ◌/◌, ◌%◌, List, [], ◌∷◌, ◌++◌, ◌≡◌, refl, sym, ap, ap₂, ◌∙◌, append_assoc, reverse, arith}
use Rattle.std.proofs.lemmas.List.{reverse-reverse, reverse-append}
use Rattle.std.proofs.lemmas.Int.Digits.{same_from_digits_of, digits_of_step}
use Rattle.std.specs.Int.Digits.{digits_of}
use Rattle.ldap_dn.specs.Names.{TypeAndKey, rdns}
use Rattle.ldap_dn.specs.NameKeys.{listed, itself, number_octets, pair_octets, name_key, NameKeysAreOfNames}

-- what stands at the front, and what follows, can be told
record IsTold {A : Type 0} (f : A → List ℕ) : Type 0 where
  same : (x y : A) (r s : List ℕ) → f x ++ r ≡ f y ++ s → (x ≡ y) × (r ≡ s)

tail_same : (a b : ℕ) (r s : List ℕ) → a ∷ r ≡ b ∷ s → r ≡ s
tail_same a b r s e = cc

head_same : (a b : ℕ) (r s : List ℕ) → a ∷ r ≡ b ∷ s → a ≡ b
head_same a b r s e = cc

itself_told : IsTold itself
itself_told = record { same = λ x y r s e. (head_same x y r s e, tail_same x y r s e) }

listed_same : {A : Type 0} (f : A → List ℕ) → IsTold f → (xs ys : List A) (r s : List ℕ) → listed f xs ++ r ≡
    listed f ys ++ s → (xs ≡ ys) × (r ≡ s)
listed_same f t [] [] r s e = (refl, tail_same 0 0 r s e)
listed_same f t [] (y ∷ ys) r s e = absurd (cc)
listed_same f t (x ∷ xs) [] r s e = absurd (cc)
listed_same f t (x ∷ xs) (y ∷ ys) r s e =
    let inner : f x ++ (listed f xs ++ r) ≡ f y ++ (listed f ys ++ s) = sym (append_assoc (f x) (listed f xs) r)
    ∙ tail_same 1 1 _ _ e ∙ append_assoc (f y) (listed f ys) s in
    let first = t.same x y (listed f xs ++ r) (listed f ys ++ s) inner in
    let rest = listed_same f t xs ys r s first.1 in
    (ap₂ (λ (z : _) (zs : List _). z ∷ zs) first.0 rest.0, rest.1)

listed_told : {A : Type 0} (f : A → List ℕ) → IsTold f → IsTold (listed f)
listed_told f t = record { same = λ xs ys r s e. listed_same f t xs ys r s e }

number_same : (m n : ℕ) (r s : List ℕ) → number_octets m ++ r ≡ number_octets n ++ s → (m ≡ n) × (r ≡ s)
number_same m n r s e =
    let l = listed_same itself itself_told (reverse (digits_of 256 m)) (reverse (digits_of 256 n)) r s e in
    let digits : digits_of 256 m ≡ digits_of 256 n = sym (reverse-reverse (digits_of 256 m)) ∙ ap reverse l.0
    ∙ reverse-reverse (digits_of 256 n) in
    (same_from_digits_of 256 m n (omega arith) digits, l.1)

made : ℕ → List ℕ → TypeAndKey
made k v = record { kind = k; key = v }

pair_same : (x y : TypeAndKey) (r s : List ℕ) → pair_octets x ++ r ≡ pair_octets y ++ s → (x ≡ y) × (r ≡ s)
unfolding made
pair_same x y r s e =
    let inner : number_octets x.kind ++ (listed itself x.key ++ r) ≡ number_octets
    y.kind ++ (listed itself y.key ++ s) = sym (append_assoc (number_octets x.kind) (listed itself x.key) r)
    ∙ e ∙ append_assoc (number_octets y.kind) (listed itself y.key) s in
    let first = number_same x.kind y.kind (listed itself x.key ++ r) (listed itself y.key ++ s) inner in
    let rest = listed_same itself itself_told x.key y.key r s first.1 in
    (ap₂ (λ (k : ℕ) (v : List ℕ). made k v) first.0 rest.0, rest.1)

pair_told : IsTold pair_octets
pair_told = record { same = λ x y r s e. pair_same x y r s e }

names_same : (a b : List (List TypeAndKey)) → name_key a ≡ name_key b → a ≡ b
names_same a b e = (listed_same (listed pair_octets) (listed_told pair_octets pair_told) a b [] []
    (ap (λ (x : List ℕ). x ++ []) e)).0

pub keys_of_names : NameKeysAreOfNames
keys_of_names a b = (λ e. names_same (rdns a) (rdns b) e, λ e. ap name_key e)

-- one more digit of a number
pub digit_more : (n : ℕ) (old mid new all : List ℕ) → 0 < n → mid ≡ old ++ 1 ∷ [] → new ≡ mid ++ (n % 256) ∷ [] →
    old ++ number_octets n ≡ all → new ++ number_octets (n / 256) ≡ all
digit_more n old mid new all lt first second so_far =
    let ds : List ℕ = digits_of 256 (n / 256) in
    let d : ℕ = n % 256 in
    let e : number_octets n ≡ 1 ∷ d ∷ number_octets (n / 256) = ap (λ (x : List ℕ). listed itself (reverse x))
    (digits_of_step 256 n (omega arith) lt) ∙ ap (listed itself) (reverse-append ds (d ∷ [])) in
    ap (λ (x : List ℕ). x ++ number_octets (n / 256)) (second ∙ ap (λ (x : List ℕ). x ++ d ∷ []) first)
    ∙ append_assoc (old ++ 1 ∷ []) (d ∷ []) (number_octets (n / 256))
    ∙ append_assoc old (1 ∷ []) (d ∷ number_octets (n / 256))
    ∙ ap (λ (x : List ℕ). old ++ x) (sym e)
    ∙ so_far
