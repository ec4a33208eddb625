-- Lines that are written, in another order of their parts, and one behind the other. Octets come in, facts go out.
use Rattle.std.proofs.Common.{◌≡◌, ◌++◌, ◌≤◌, ◌<◌, ◌+◌, ℕ, List, [], ◌∷◌, Option, Result, OnOk, flat_map, get_or, length, map, take, refl, sym, ap, ◌∙◌, subst, append_assoc}
use Rattle.std.specs.Io.KnownBytes.{Appends}
use Rattle.std.proofs.KnownBytes.{Appends-trans}
use Rattle.std.proofs.lemmas.List.{append-nil, length-map, map-append, take_all, take_more}
use Rattle.std.proofs.lemmas.Grind.{flat_map-append}
use Rattle.dird_commands.specs.private.Replies.{answer_line}

-- a text that is this one
pub text_as : {T E : Type 0} (r : Result T E) (a b : Option (List ℕ)) (xs ys : List ℕ) → xs ≡ ys →
    OnOk r (Appends a b xs) → OnOk r (Appends a b ys)
text_as r a b xs ys e h = let P : List ℕ → Type 0 = λ z. OnOk r (Appends a b z) in subst P e h

-- a line of three parts, and one of ten
pub three_parts : (a x b end : List ℕ) → a ++ (x ++ (b ++ end)) ≡ (a ++ x ++ b) ++ end
three_parts a x b end = simp append_assoc

pub ten_parts : (a x b y d z e v f w end : List ℕ)
    → a ++ (x ++ (b ++ (y ++ (d ++ (z ++ (e ++ (v ++ (f ++ (w ++ end))))))))) ≡
    (a ++ x ++ b ++ y ++ d ++ z ++ e ++ v ++ f ++ w) ++ end
ten_parts a x b y d z e v f w end = simp append_assoc

flat_map-map : {A B : Type 0} (view : A → B) (f : B → List ℕ) (es : List A) → flat_map (λ e. f (view e)) es ≡
    flat_map f (map view es)
flat_map-map view f [] = refl
flat_map-map view f (e ∷ es) = ap (λ ys. f (view e) ++ ys) (flat_map-map view f es)

-- the names of all entries behind the line of their answer
pub answer_done : {A B : Type 0} (at n code : ℕ) (view : A → B) (f : B → List ℕ) (es all : List A) (i : ℕ)
    (a m b : Option (List ℕ)) → n ≡ code → es ≡ all → length es ≤ i
    → Appends a m (answer_line at n (length es)) → Appends m b (flat_map (λ e. f (view e)) (take i es))
    → Appends a b (answer_line at code (length (map view all)) ++ flat_map f (map view all))
answer_done at n code view f es all i a m b same is end p q =
    subst (Appends a b)
    (ap (λ k. answer_line at k (length es) ++ flat_map (λ e. f (view e)) (take i es)) same
    ∙ ap (λ (ys : List _). answer_line at code (length es) ++ flat_map (λ e. f (view e)) ys) (take_all i es end)
    ∙ ap (λ (ys : List _). answer_line at code (length ys) ++ flat_map (λ e. f (view e)) ys) is
    ∙ ap (λ n. answer_line at code n ++ flat_map (λ e. f (view e)) all) (sym (length-map all view))
    ∙ ap (λ ys. answer_line at code (length (map view all)) ++ ys) (flat_map-map view f all))
    (Appends-trans a m b (answer_line at n (length es)) (flat_map (λ e. f (view e)) (take i es)) p q)

-- one more thing that is written
pub one_more : {A B : Type 0} (view : A → B) (f : B → List ℕ) (xs : List A) (i : ℕ) (x : A)
    (a m b : Option (List ℕ)) → i < length xs → x ≡ get_or xs i x
    → Appends a m (flat_map f (map view (take i xs))) → Appends m b (f (view x)) →
    Appends a b (flat_map f (map view (take (i + 1) xs)))
one_more view f xs i x a m b lt is p q =
    subst (Appends a b)
    (sym
    (ap (λ (ys : List _). flat_map f (map view ys)) (take_more xs i x lt ∙ ap (λ (y : _). take i xs ++ y ∷ []) (sym is))
    ∙ ap (flat_map f) (map-append view (take i xs) (x ∷ []))
    ∙ flat_map-append f (map view (take i xs)) (view x ∷ [])
    ∙ ap (λ ys. flat_map f (map view (take i xs)) ++ ys) (append-nil (f (view x)))))
    (Appends-trans a m b (flat_map f (map view (take i xs))) (f (view x)) p q)
