-- Names read off by going up.
use Rattle.std.proofs.Common.{◌≡◌, ℕ, zero, suc, ◌-◌, ◌+◌, length, length-append, List, [], ◌∷◌, ◌++◌, map, reverse, refl, sym, ap, ◌∙◌, arith, append_assoc, Option, Some, None, slice_get}
use Rattle.std.proofs.lemmas.List.{reverse-append, map-append}
use Rattle.dir_entry.specs.ldap_dn.Names.{RdnModel}
use Rattle.dir_tree.specs.declared.place.Place.{Place}
use Rattle.dir_tree.specs.declared.place.Place.TheVariants.{Root, Under}
use Rattle.dir_tree.specs.Superiors.{Places, name_in, name_up}

pub name_next : (i i' k : ℕ) (p : Places) (o : Option Place) → i ≡ suc i' → o ≡ p k → name_up i p k ≡
    name_in (name_up i' p) o
name_next i i' k p o h e = ap (λ (m : ℕ). name_up m p k) h ∙ ap (name_in (name_up i' p)) (sym e)

reverse-push : (l : List RdnModel) (r : RdnModel) → reverse (l ++ r ∷ []) ≡ r ∷ reverse l
reverse-push l r = reverse-append l (r ∷ [])

slice-next : (l : List RdnModel) (r : RdnModel) (n : ℕ) → (n ≡ 0 → ⊥) → slice_get (r ∷ l) n ≡ slice_get l (n - 1)
slice-next l r n h = by n h
  where
    less : (m : ℕ) → suc m - 1 ≡ m
    less m = omega arith

    by : (n : ℕ) → (n ≡ 0 → ⊥) → slice_get (r ∷ l) n ≡ slice_get l (n - 1)
    by zero h = absurd (h refl)
    by (suc m) h = ap (slice_get l) (sym (less m))

-- one step above an entry's own relative name
pub above_next : (i i' k a n : ℕ) (p : Places) (f : Place) (r : RdnModel) (whole : Option RdnModel) → i ≡ suc i' →
    Some f ≡ p k → f ≡ Under a r → (n ≡ 0 → ⊥) → slice_get (reverse (name_up i p k)) n ≡ whole →
    slice_get (reverse (name_up i' p a)) (n - 1) ≡ whole
above_next i i' k a n p f r whole h e g z inv =
    sym (slice-next (reverse (name_up i' p a)) r n z) ∙ ap (λ (l : List RdnModel). slice_get l n)
    (sym (reverse-push (name_up i' p a) r))
    ∙ ap (λ (l : List RdnModel). slice_get (reverse l) n)
    (sym (name_next i i' k p (Some (Under a r)) h (ap (λ (x : Place). Some x) (sym g) ∙ e))) ∙ inv

-- a relative name more, the last first
pub up_next : (i i' k a : ℕ) (p : Places) (f : Place) (r : RdnModel) (done more : List RdnModel)
    (whole : List RdnModel) → i ≡ suc i' → Some f ≡ p k → f ≡ Under a r → more ≡ done ++ r ∷ []
    → name_up i p k ++ reverse done ≡ whole → name_up i' p a ++ reverse more ≡ whole
up_next i i' k a p f r done more whole h e g m inv =
    ap (λ (l : List RdnModel). name_up i' p a ++ reverse l) m ∙ ap (λ (l : List RdnModel). name_up i' p a ++ l)
    (reverse-push done r)
    ∙ sym (append_assoc (name_up i' p a) (r ∷ []) (reverse done))
    ∙ ap (λ (l : List RdnModel). l ++ reverse done)
    (sym (name_next i i' k p (Some (Under a r)) h (ap (λ (x : Place). Some x) (sym g) ∙ e))) ∙ inv

-- the root's name behind all
pub up_root : (i i' k : ℕ) (p : Places) (f : Place) (n : List RdnModel) (done more whole : List RdnModel) →
    i ≡ suc i' → Some f ≡ p k → f ≡ Root n → more ≡ done ++ reverse n → name_up i p k ++ reverse done ≡ whole →
    reverse more ≡ whole
up_root i i' k p f n done more whole h e g m inv =
    ap reverse m ∙ reverse-append done (reverse n) ∙ ap (λ (l : List RdnModel). l ++ reverse done) (twice n)
    ∙ ap (λ (l : List RdnModel). l ++ reverse done)
    (sym (name_next i i' k p (Some (Root n)) h (ap (λ (x : Place). Some x) (sym g) ∙ e))) ∙ inv
  where
    twice : (l : List RdnModel) → reverse (reverse l) ≡ l
    twice [] = refl
    twice (x ∷ l) = ap reverse (reverse-append (x ∷ []) l) ∙ reverse-push (reverse l) x
        ∙ ap (λ (m : List RdnModel). x ∷ m) (twice l)

pub up_none : (i i' k : ℕ) (p : Places) (done whole : List RdnModel) → i ≡ suc i' → None ≡ p k →
    name_up i p k ++ reverse done ≡ whole → reverse done ≡ whole
up_none i i' k p done whole h e inv = ap (λ (l : List RdnModel). l ++ reverse done)
    (sym (name_next i i' k p None h e)) ∙ inv

mapped-back : {A B : Type 0} (f : A → B) (l : List A) → map f (reverse l) ≡ reverse (map f l)
mapped-back f [] = refl
mapped-back {A} {B} f (x ∷ l) = ap (map f) (reverse-append (x ∷ []) l) ∙ map-append f (reverse l) (x ∷ [])
    ∙ ap (λ (m : List B). m ++ f x ∷ []) (mapped-back f l) ∙ sym (reverse-append (f x ∷ []) (map f l))

-- a list put the other way round
pub turned_back : {A B : Type 0} (f : A → B) (l m : List A) (whole : List B) → m ≡ reverse l → reverse (map f l) ≡
    whole → map f m ≡ whole
turned_back f l m whole h e = ap (map f) h ∙ mapped-back f l ∙ e

-- a list with one more
pub pushed : {A B : Type 0} (f : A → B) (l m : List A) (x : A) (y : B) → m ≡ l ++ x ∷ [] → f x ≡ y →
    map f m ≡ map f l ++ y ∷ []
pushed {A} {B} f l m x y h e = ap (map f) h ∙ map-append f l (x ∷ []) ∙ ap (λ (z : B). map f l ++ z ∷ []) e

-- ---- counted

behind-none : (n : ℕ) → n ≡ 0 + n
behind-none n = omega arith

one-longer : (x y n whole : ℕ) → x ≡ y + 1 → x + n ≡ whole → y + (n + 1) ≡ whole
one-longer x y n whole e f = omega arith

turned-sum : (x m n whole : ℕ) → x ≡ m → x + n ≡ whole → n + m ≡ whole
turned-sum x m n whole e f = omega arith

one-name : (l : List RdnModel) (r : RdnModel) → length (l ++ r ∷ []) ≡ length l + 1
one-name l r = length-append l (r ∷ [])

-- nothing is left
pub count_none : (i i' k n whole : ℕ) (p : Places) → i ≡ suc i' → None ≡ p k → length (name_up i p k) + n ≡ whole →
    n ≡ whole
count_none i i' k n whole p h e inv = behind-none n ∙ ap (λ (l : List RdnModel). length l + n)
    (sym (name_next i i' k p None h e)) ∙ inv

-- the root's name is left
pub count_root : (i i' k m n whole : ℕ) (p : Places) (f : Place) (name : List RdnModel) → i ≡ suc i' → Some f ≡ p k →
    f ≡ Root name → m ≡ length name → length (name_up i p k) + n ≡ whole → n + m ≡ whole
count_root i i' k m n whole p f name h e g c inv =
    turned-sum (length (name_up i p k)) m n whole
    (ap length (name_next i i' k p (Some (Root name)) h (ap (λ (x : Place). Some x) (sym g) ∙ e)) ∙ sym c) inv

-- a relative name more is counted
pub count_next : (i i' k a n whole : ℕ) (p : Places) (f : Place) (r : RdnModel) → i ≡ suc i' → Some f ≡ p k →
    f ≡ Under a r → length (name_up i p k) + n ≡ whole → length (name_up i' p a) + (n + 1) ≡ whole
count_next i i' k a n whole p f r h e g inv =
    one-longer (length (name_up i p k)) (length (name_up i' p a)) n whole
    (ap length (name_next i i' k p (Some (Under a r)) h (ap (λ (x : Place). Some x) (sym g) ∙ e))
    ∙ one-name (name_up i' p a) r) inv
