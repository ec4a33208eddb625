-- Names, and which begins which.
use Rattle.std.proofs.Common.{◌≡◌, ℕ, zero, suc, ◌-◌, ◌≤◌, Bool, true, false, cond, List, [], ◌∷◌, ◌++◌, length, take, drop, append-nil, refl, sym, ap, ◌∙◌, subst, arith, nat_eq, Some, None}
use Rattle.std.specs.Prelude.{◌&&◌, ◌||◌}
use Rattle.std.specs.Bool.{Decides}
use Rattle.std.specs.Cmp.{IsEquivalence}
use Rattle.std.specs.Cmp.Lexicographic.{lists_equiv, pointwise_decides}
use Rattle.std.specs.Str.{bytes_eq}
use Rattle.std.proofs.Math.Seq.{take-length}
use Rattle.std.proofs.lemmas.Bool.{eq-eqb}
use Rattle.std.proofs.lemmas.List.{length-take-le, take-map, drop-map, length-map, map-append, take_rest}
use Rattle.std.proofs.lemmas.Slice.Eq.{bytes_eq-Decides}
use Rattle.dir_entry.specs.ldap_dn.Names.{TypeAndKey, RdnModel, rdns, are_same_keys, is_front}
use Rattle.dir_entry.specs.ldap_dn.OrderLaws.{rdn_equiv}
use Rattle.dir_tree.specs.Directory.{NameKey, name_eq, begins, above}
pub use Rattle.dir_tree.specs.DigestLaws.{both}
use Rattle.dir_tree.specs.DigestLaws.{keys_same}

pub and_true : (a b : Bool) → a ≡ true → b ≡ true → (a && b) ≡ true
and_true a b e f = rw (e, f) refl

own_keys : (xs : List TypeAndKey) → are_same_keys xs xs ≡ true
own_keys [] = refl
own_keys (x ∷ xs) = and_true (nat_eq x.kind x.kind && bytes_eq x.key x.key) (are_same_keys xs xs)
    (and_true (nat_eq x.kind x.kind) (bytes_eq x.key x.key) (eq-eqb x.kind x.kind refl)
    ((bytes_eq-Decides x.key x.key).1 refl)) (own_keys xs)

-- lists of types with keys are told apart by their test
pub part_decides : (a b : List TypeAndKey) → Decides (are_same_keys a b) (a ≡ b)
part_decides a b = (keys_same a b, λ e. subst (λ (l : List TypeAndKey). are_same_keys a l ≡ true) e (own_keys a))

abbrev of_keys : List TypeAndKey → RdnModel
of_keys k = record { keys = k; spelling = [] }

keys_equiv : IsEquivalence are_same_keys
keys_equiv = record {
  refl = λ x. rdn_equiv.refl (of_keys x);
  symm = λ x y. rdn_equiv.symm (of_keys x) (of_keys y);
  congr = λ x y z h. rdn_equiv.congr (of_keys x) (of_keys y) (of_keys z) h;
}

-- names are told apart by an equivalence
pub names : IsEquivalence name_eq
names = lists_equiv keys_equiv

pub name_decides : (a b : NameKey) → Decides (name_eq a b) (a ≡ b)
name_decides a b = pointwise_decides part_decides a b

pub name_eq-refl : (a : NameKey) → name_eq a a ≡ true
name_eq-refl a = (name_decides a a).1 refl

pub and-false : (b : Bool) → (b && false) ≡ false
and-false b = elim b as (λ v. (v && false) ≡ false) [ true ↦ refl | false ↦ refl ]

-- a front begins the whole
pub begins-take : (n : NameKey) (i : ℕ) → begins (take i n) n ≡ true
begins-take [] zero = refl
begins-take [] (suc i) = refl
begins-take (y ∷ ys) zero = refl
begins-take (y ∷ ys) (suc i) = ap (λ (b : Bool). b && begins (take i ys) ys) ((part_decides y y).1 refl)
    ∙ begins-take ys i

-- what begins is a front
pub begins-is : (q n : NameKey) → begins q n ≡ true → q ≡ take (length q) n
begins-is [] n h = refl
begins-is (x ∷ xs) [] h = absurd (cc h)
begins-is (x ∷ xs) (y ∷ ys) h = both x y xs ys (are_same_keys x y) refl (begins xs ys) refl h (begins-is xs ys)
  where
    both : (x y : List TypeAndKey) (xs ys : NameKey) → (a : Bool) → a ≡ are_same_keys x y → (b : Bool) →
        b ≡ begins xs ys → (a && b) ≡ true → (begins xs ys ≡ true → xs ≡ take (length xs) ys) →
        (x ∷ xs) ≡ take (suc (length xs)) (y ∷ ys)
    both x y xs ys true e b f g rest =
        let one : x ≡ y = (part_decides x y).0 (sym e) in
        let more : xs ≡ take (length xs) ys = rest (sym f ∙ g) in
        cc (one, more)
    both x y xs ys false e b f g rest = absurd (cc g)

pub begins-own : (n : NameKey) → begins n n ≡ true
begins-own [] = refl
begins-own (x ∷ xs) = ap (λ (b : Bool). b && begins xs xs) ((part_decides x x).1 refl) ∙ begins-own xs

-- a shorter beginning begins a longer one
pub begins-front : (p q : NameKey) (m : ℕ) → length p ≤ m → begins p q ≡ true → begins p (take m q) ≡ true
begins-front [] q m l h = refl
begins-front (x ∷ xs) [] m l h = absurd (cc h)
begins-front (x ∷ xs) (y ∷ ys) zero l h = absurd (omega arith)
begins-front (x ∷ xs) (y ∷ ys) (suc m) l h =
    let e = both (are_same_keys x y) (begins xs ys) h in
    and_true (are_same_keys x y) (begins xs (take m ys)) e.0 (begins-front xs ys m (omega arith) e.1)

pub begins-through : (p q r : NameKey) → begins p q ≡ true → begins q r ≡ true → begins p r ≡ true
begins-through [] q r h g = refl
begins-through (x ∷ xs) [] r h g = absurd (cc h)
begins-through (x ∷ xs) (y ∷ ys) [] h g = absurd (cc g)
begins-through (x ∷ xs) (y ∷ ys) (z ∷ zs) h g =
    let e = both (are_same_keys x y) (begins xs ys) h in
    let f = both (are_same_keys y z) (begins ys zs) g in
    let one : x ≡ y = (part_decides x y).0 e.0 in
    and_true (are_same_keys x z) (begins xs zs) (ap (λ (k : List TypeAndKey). are_same_keys k z) one ∙ f.0)
    (begins-through xs ys zs e.1 f.1)

pub begins-long : (p q : NameKey) → begins p q ≡ true → length p ≤ length q
begins-long [] q h = omega arith
begins-long (x ∷ xs) [] h = absurd (cc h)
begins-long (x ∷ xs) (y ∷ ys) h = let l : length xs ≤ length ys = begins-long xs ys
    (both (are_same_keys x y) (begins xs ys) h).1 in omega arith

pub above-long : (q : NameKey) → length (above q) ≡ length q - 1
above-long q = length-take-le (length q - 1) q (omega arith)

-- a beginning of the same length is the same name
pub begins-all : (p q : NameKey) → begins p q ≡ true → length q ≤ length p → p ≡ q
begins-all p q h l = begins-is p q h ∙ ap (λ (k : ℕ). take k q) (let g : length p ≤ length q = begins-long p q h
    in let e : length p ≡ length q = omega arith in e) ∙ take-length q

pub or_else : (a b : Bool) → (a || b) ≡ true → a ≡ false → b ≡ true
or_else true b h e = absurd (cc e)
or_else false b h e = h

-- the name above a name, from its relative names
pub above_rdns : (n : List RdnModel) (i : ℕ) → i ≡ length n - 1 → rdns (take i n) ≡ above (rdns n)
above_rdns n i h = ap (λ (k : ℕ). rdns (take k n)) h ∙ sym (take-map (λ (r : RdnModel). r.keys) (length n - 1) n)
    ∙ ap (λ (k : ℕ). take (k - 1) (rdns n)) (sym (length-map n (λ (r : RdnModel). r.keys)))

-- what a name begins is the name and what stands behind it
pub split : (o q : NameKey) → begins o q ≡ true → q ≡ o ++ drop (length o) q
split [] q h = refl
split (x ∷ xs) [] h = absurd (cc h)
split (x ∷ xs) (y ∷ ys) h =
    let e = both (are_same_keys x y) (begins xs ys) h in
    let one : x ≡ y = (part_decides x y).0 e.0 in
    let more : ys ≡ xs ++ drop (length xs) ys = split xs ys e.1 in
    let tail : (y ∷ ys) ≡ y ∷ (xs ++ drop (length xs) ys) = ap (λ (l : NameKey). y ∷ l) more in
    tail ∙ ap (λ (k : List TypeAndKey). k ∷ (xs ++ drop (length xs) ys)) (sym one)

pub begins-joined : (n r : NameKey) → begins n (n ++ r) ≡ true
begins-joined [] r = refl
begins-joined (x ∷ xs) r = and_true (are_same_keys x x) (begins xs (xs ++ r)) ((part_decides x x).1 refl)
    (begins-joined xs r)

pub behind-joined : (n r : NameKey) → drop (length n) (n ++ r) ≡ r
behind-joined [] r = refl
behind-joined (x ∷ xs) r = behind-joined xs r

less_one : (k : ℕ) → suc k - 1 ≡ k
less_one k = omega arith

-- above a longer name
above-cons : (x : List TypeAndKey) (y : List TypeAndKey) (ys : NameKey) → above (x ∷ y ∷ ys) ≡ x ∷ above (y ∷ ys)
above-cons x y ys =
    ap (λ (k : ℕ). take k (x ∷ y ∷ ys)) (less_one (suc (length ys)))
    ∙ ap (λ (k : ℕ). x ∷ take k (y ∷ ys)) (sym (less_one (length ys)))

pub above-joined : (n : NameKey) (x : List TypeAndKey) (r : NameKey) → above (n ++ x ∷ r) ≡ n ++ above (x ∷ r)
above-joined [] x r = refl
above-joined (y ∷ []) x r = above-cons y x r
above-joined (y ∷ z ∷ ns) x r = above-cons y z (ns ++ x ∷ r) ∙ ap (λ (l : NameKey). y ∷ l) (above-joined (z ∷ ns) x r)

pub cancelled : (n a b : NameKey) → n ++ a ≡ n ++ b → a ≡ b
cancelled n a b h = sym (behind-joined n a) ∙ ap (drop (length n)) h ∙ behind-joined n b

pub front_begins : (a b : List RdnModel) → is_front a b ≡ begins (rdns a) (rdns b)
front_begins [] b = refl
front_begins (x ∷ xs) [] = refl
front_begins (x ∷ xs) (y ∷ ys) = ap (λ (v : Bool). are_same_keys x.keys y.keys && v) (front_begins xs ys)

pub front_long : (a b : List RdnModel) (v : Bool) → v ≡ true → v ≡ is_front a b → length a ≤ length b
front_long a b v t h =
    let on : begins (rdns a) (rdns b) ≡ true = sym (front_begins a b) ∙ sym h ∙ t in
    let l : length (rdns a) ≤ length (rdns b) = begins-long (rdns a) (rdns b) on in
    let la : length (rdns a) ≡ length a = length-map a (λ (r : RdnModel). r.keys) in
    let lb : length (rdns b) ≡ length b = length-map b (λ (r : RdnModel). r.keys) in
    omega arith

-- what comes behind a front, by keys
pub behind_keys : (front name : List RdnModel) → rdns (drop (length front) name) ≡ drop (length (rdns front))
    (rdns name)
behind_keys front name = sym (drop-map (λ (r : RdnModel). r.keys) (length front) name)
    ∙ ap (λ (k : ℕ). drop k (rdns name)) (sym (length-map front (λ (r : RdnModel). r.keys)))

pub behind_some : (b : Bool) (x y : List RdnModel) → Some x ≡ cond b (Some y) None → (b ≡ true) × (x ≡ y)
behind_some true x y h = (refl, cc h)
behind_some false x y h = absurd (cc h)

pub behind_is : (f s name path : List RdnModel) → f ≡ s → Some path ≡ cond (begins (rdns f) (rdns name))
    (Some (drop (length f) name)) None → (begins (rdns s) (rdns name) ≡ true)
    × (rdns path ≡ drop (length (rdns s)) (rdns name))
behind_is f s name path e h =
    let t = behind_some (begins (rdns f) (rdns name)) path (drop (length f) name) h in (
      ap (λ (x : List RdnModel). begins (rdns x) (rdns name)) (sym e) ∙ t.0,
      ap rdns t.1 ∙ behind_keys f name ∙ ap (λ (x : List RdnModel). drop (length (rdns x)) (rdns name)) e,
    )

pub behind_on : (front name : List RdnModel) (v : Bool) → v ≡ true → v ≡ is_front front name →
    Some (take (length name - length front) (drop (length front) name)) ≡ cond (begins (rdns front) (rdns name))
    (Some (drop (length front) name)) None
behind_on front name v t h =
    ap (λ (l : List RdnModel). Some l) (take_rest name (length front))
    ∙ sym (ap (λ (b : Bool). cond b (Some (drop (length front) name)) None) (sym (front_begins front name) ∙ sym h
    ∙ t))

pub behind_off : (front name : List RdnModel) (v : Bool) → v ≡ false → v ≡ is_front front name →
    None ≡ cond (begins (rdns front) (rdns name)) (Some (drop (length front) name)) None
behind_off front name v t h = sym (ap (λ (b : Bool). cond b (Some (drop (length front) name)) None)
    (sym (front_begins front name) ∙ sym h ∙ t))

-- the last of a name

pub record IsLast (name : List RdnModel) : Type 0 where
  pub front : List RdnModel
  pub rdn : RdnModel
  pub is : name ≡ front ++ rdn ∷ []
  pub last : drop (length name - 1) name ≡ rdn ∷ []

pub last-split : (name : List RdnModel) → (name ≡ [] → ⊥) → IsLast name
last-split [] h = absurd (h refl)
last-split (x ∷ []) h = record { front = []; rdn = x; is = refl; last = ap (λ (m : ℕ). drop m (x ∷ [])) (less_one 0) }
last-split (x ∷ y ∷ l) h =
    let e = last-split (y ∷ l) (λ g. cc g) in
    record {
      front = x ∷ e.front;
      rdn = e.rdn;
      is = ap (λ (m : List RdnModel). x ∷ m) e.is;
      last = ap (λ (m : ℕ). drop m (x ∷ y ∷ l)) (less_one (suc (length l))) ∙ ap (λ (m : ℕ). drop m (y ∷ l))
          (sym (less_one (length l))) ∙ e.last;
    }

pub last-key : (name : List RdnModel) (e : IsLast name) → rdns name ≡ rdns e.front ++ e.rdn.keys ∷ []
last-key name e = ap rdns e.is ∙ map-append (λ (r : RdnModel). r.keys) e.front (e.rdn ∷ [])

pub last-above : (name : List RdnModel) (e : IsLast name) → above (rdns name) ≡ rdns e.front
last-above name e = ap (λ (q : NameKey). above q) (last-key name e) ∙ above-joined (rdns e.front) e.rdn.keys []
    ∙ append-nil (rdns e.front)
