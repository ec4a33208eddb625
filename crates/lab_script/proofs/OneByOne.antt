-- A list that is read one by one.
use Rattle.std.proofs.Common.{◌≡◌, ℕ, suc, ◌+◌, ◌<◌, ◌≤◌, Bor, List, [], ◌∷◌, ◌++◌, map, length, drop, get_or, Option, Some, None, option_map, refl, sym, ap, ◌∙◌, append_assoc, append-nil, add-one, drop-cons}
use Rattle.std.proofs.lemmas.List.{drop_all}
use Rattle.lab_script.specs.Each.{before, all_of}

-- what is read already, and then the rest
abbrev pub after : {B : Type 0} → List B → Option (List B) → Option (List B)
after xs o = option_map (λ ys. xs ++ ys) o

-- one more in front of the rest is one more at the end of what is read
one_over : {B : Type 0} (done : List B) (e : B) (o : Option (List B)) → after done (before (Some e) o) ≡
    after (done ++ e ∷ []) o
one_over done e None = refl
one_over done e (Some ys) = ap Some (sym (append_assoc done (e ∷ []) ys))

-- nothing is read
after_nothing : {B : Type 0} (o : Option (List B)) → after [] o ≡ o
after_nothing None = refl
after_nothing (Some ys) = refl

-- One more is read.
pub more : {A B : Type 0} (f : A → Option B) (xs : List A) (i : ℕ) (d : A) (done : List B) (e : B)
    (all : Option (List B)) → after done (all_of f (drop i xs)) ≡ all → i < length xs → Some e ≡ f (get_or xs i d) →
    after (done ++ e ∷ []) (all_of f (drop (i + 1) xs)) ≡ all
more f xs i d done e all h lt is =
    sym (one_over done e (all_of f (drop (i + 1) xs))) ∙ ap (λ o. after done (before o (all_of f (drop (i + 1) xs)))) is
    ∙ ap (λ (k : ℕ). after done (before (f (get_or xs i d)) (all_of f (drop k xs)))) (add-one i)
    ∙ sym (ap (λ l. after done (all_of f l)) (drop-cons xs i d lt)) ∙ h

-- One says nothing.
pub nothing : {A B : Type 0} (f : A → Option B) (xs : List A) (i : ℕ) (d : A) (done : List B)
    (all : Option (List B)) → after done (all_of f (drop i xs)) ≡ all → i < length xs → None ≡ f (get_or xs i d) →
    all ≡ None
nothing f xs i d done all h lt is =
    sym h ∙ ap (λ l. after done (all_of f l)) (drop-cons xs i d lt)
    ∙ sym (ap (λ o. after done (before o (all_of f (drop (suc i) xs)))) is)

-- All is read.
pub all_read : {A B : Type 0} (f : A → Option B) (xs : List A) (i : ℕ) (done : List B) (all : Option (List B)) →
    after done (all_of f (drop i xs)) ≡ all → length xs ≤ i → Some done ≡ all
all_read f xs i done all h le = ap Some (sym (append-nil done))
    ∙ sym (ap (λ l. after done (all_of f l)) (drop_all i xs le)) ∙ h

-- texts behind references say what the texts say
same : {B : Type 0} (f : List ℕ → Option B) (ts : List (Bor (List ℕ))) → all_of (λ t. f t.now) ts ≡
    all_of f (map {A = Bor (List ℕ)} {B = List ℕ} (λ t. t.now) ts)
same f [] = refl
same f (t ∷ ts) = ap (before (f t.now)) (same f ts)

-- At first all texts are left.
pub texts_begin : {B : Type 0} (f : List ℕ → Option B) (ts : List (Bor (List ℕ))) (texts : List (List ℕ)) →
    map {A = Bor (List ℕ)} {B = List ℕ} (λ t. t.now) ts ≡ texts →
    after [] (all_of (λ (t : Bor (List ℕ)). f t.now) ts) ≡ all_of f texts
texts_begin f ts texts e = after_nothing (all_of (λ t. f t.now) ts) ∙ same f ts ∙ ap (all_of f) e

-- One more text.
pub text_more : {B : Type 0} (f : List ℕ → Option B) (ts : List (Bor (List ℕ))) (i : ℕ) (t : Bor (List ℕ))
    (done : List B) (v : B) (all : Option (List B)) →
    after done (all_of (λ (q : Bor (List ℕ)). f q.now) (drop i ts)) ≡ all → i < length ts → t ≡ get_or ts i t →
    Some v ≡ f t.now → after (done ++ v ∷ []) (all_of (λ (q : Bor (List ℕ)). f q.now) (drop (i + 1) ts)) ≡ all
text_more f ts i t done v all h lt is he = more (λ q. f q.now) ts i t done v all h lt
    (he ∙ ap (λ (q : Bor (List ℕ)). f q.now) is)

-- A text that says nothing.
pub text_none : {B : Type 0} (f : List ℕ → Option B) (ts : List (Bor (List ℕ))) (i : ℕ) (t : Bor (List ℕ))
    (done : List B) (all : Option (List B)) → after done (all_of (λ (q : Bor (List ℕ)). f q.now) (drop i ts)) ≡ all →
    i < length ts → t ≡ get_or ts i t → f t.now ≡ None → all ≡ None
text_none f ts i t done all h lt is he = nothing (λ q. f q.now) ts i t done all h lt (sym he
    ∙ ap (λ (q : Bor (List ℕ)). f q.now) is)
