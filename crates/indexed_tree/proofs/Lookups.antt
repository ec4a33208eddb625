-- An entry that is found by its name: its number, its name and its keys.
use Rattle.std.proofs.Common.{◌≡◌, ◌<◌, ◌≤◌, ℕ, zero, suc, List, [], ◌∷◌, ◌++◌, length, take, drop, refl, sym, ap, ap₂, ◌∙◌, subst, arith, Bool, true, false, cond, ◌&&◌, Option, Some, None, nat_eq, is_some}
use Rattle.std.specs.Option.{option_map}
use Rattle.std.specs.Str.{bytes_eq}
use Rattle.std.specs.Cmp.Lexicographic.{pointwise}
use Rattle.std.specs.Cmp.Derive.Mapped.{pointwise-map}
use Rattle.std.proofs.lemmas.Bool.{eqb-true, eq-eqb}
use Rattle.std.proofs.lemmas.Slice.Eq.{bytes_eq-Decides}
use Rattle.dir_index.specs.ldap_schema.Schema.{SchemaModel}
use Rattle.dir_index.specs.ldap_dn.Names.{TypeAndKey, RdnModel, rdns, are_same_keys}
use Rattle.dir_index.specs.dir_entry.Entry.{KeyedAttribute, IsKeyedBy}
use Rattle.directory_api.specs.dir_tree.Directory.{NameKey, Entered, name_eq, begins, find, front, front_from, entry_at, AllAbove, NumbersRise}
use Rattle.indexed_tree.specs.Stored.{AreKeyedBy}

-- its number is above any that is below all
pub found_above : (n : ℕ) (q : NameKey) (d : List Entered) (k : ℕ) → AllAbove n d →
    option_map (λ (e : Entered). e.number) (find q d) ≡ Some k → n < k
found_above n q [] k a h = absurd (cc h)
found_above n q (e ∷ es) k a h = by (name_eq q (rdns e.name)) (found_above n q es k a.1) h
  where
    by : (b : Bool) → (option_map (λ (x : Entered). x.number) (find q es) ≡ Some k → n < k) →
        option_map (λ (x : Entered). x.number) (cond b (Some e) (find q es)) ≡ Some k → n < k
    by true ih h = let same : e.number ≡ k = cc h in subst (λ (m : ℕ). n < m) same a.0
    by false ih h = ih h

-- it is the entry of its number
pub found_at : (q : NameKey) (d : List Entered) (k : ℕ) → NumbersRise d → option_map (λ (e : Entered). e.number)
    (find q d) ≡ Some k → entry_at k d ≡ find q d
found_at q [] k r h = absurd (cc h)
found_at q (e ∷ es) k r h = by (name_eq q (rdns e.name)) (found_at q es k r.1) h
  where
    by : (b : Bool) → (option_map (λ (x : Entered). x.number) (find q es) ≡ Some k → entry_at k es ≡ find q es)
        → option_map (λ (x : Entered). x.number) (cond b (Some e) (find q es)) ≡ Some k →
        cond (nat_eq k e.number) (Some e) (entry_at k es) ≡ cond b (Some e) (find q es)
    by true ih h =
        let same : e.number ≡ k = cc h in
        let own : nat_eq k e.number ≡ true = grind (arith, same) in
        ap (λ (c : Bool). cond c (Some e) (entry_at k es)) own
    by false ih h =
        let lt : e.number < k = found_above e.number q es k r.0 h in
        let apart : nat_eq k e.number ≡ false = grind (arith, lt) in
        ap (λ (c : Bool). cond c (Some e) (entry_at k es)) apart ∙ ih h

-- its attributes
pub found_entry : {A : Type 0} (f : Entered → A) (q : NameKey) (d : List Entered) (k : ℕ) (a : A) → NumbersRise d →
    option_map (λ (e : Entered). e.number) (find q d) ≡ Some k → Some a ≡ option_map f (entry_at k d) →
    Some a ≡ option_map f (find q d)
found_entry f q d k a r h g = g ∙ ap (λ (o : Option Entered). option_map f o) (found_at q d k r h)

-- an entry that was found is the entry of its number
pub found_somewhere : {A : Type 0} (f : Entered → A) (q : NameKey) (d : List Entered) (k : ℕ) → NumbersRise d →
    option_map (λ (e : Entered). e.number) (find q d) ≡ Some k → None ≡ option_map f (entry_at k d) → ⊥
found_somewhere {A} f q d k r h g = by (find q d) h (g ∙ ap (λ (o : Option Entered). option_map f o)
    (found_at q d k r h))
  where
    by : (o : Option Entered) → option_map (λ (e : Entered). e.number) o ≡ Some k →
        ◌≡◌ {A = Option A} None (option_map f o) → ⊥
    by None h g = cc h
    by (Some e) h g = cc g

abbrev made : ℕ → List RdnModel → List KeyedAttribute → Entered
made k n a = record { number = k; name = n; entry = a }

-- it stands where its name is
pub found_standing : (q : NameKey) (d : List Entered) (k : ℕ) (a : List KeyedAttribute) (n : List RdnModel) →
    NumbersRise d → Some k ≡ option_map (λ (e : Entered). e.number) (find q d) →
    Some a ≡ option_map (λ (e : Entered). e.entry) (find q d)
    → Some n ≡ option_map (λ (e : Entered). e.name) (entry_at k d) →
    Some (record { number = k; name = n; entry = a }) ≡ find q d
found_standing q d k a n r h g m = by (find q d) h g
    (m ∙ ap (λ (o : Option Entered). option_map (λ (e : Entered). e.name) o) (found_at q d k r (sym h)))
  where
    by : (o : Option Entered) → Some k ≡ option_map (λ (e : Entered). e.number) o →
        Some a ≡ option_map (λ (e : Entered). e.entry) o → Some n ≡ option_map (λ (e : Entered). e.name) o →
        Some (record { number = k; name = n; entry = a }) ≡ o
    by None f g m = absurd (cc f)
    by (Some e) f g m =
        let number : k ≡ e.number = cc f in
        let entry : a ≡ e.entry = cc g in
        let name : n ≡ e.name = cc m in
        ap (λ (x : ℕ). Some (made x n a)) number ∙ ap₂ (λ (x : List RdnModel) (y : List KeyedAttribute).
        Some (made e.number x y)) name entry

-- its name is the one that was looked for
pub found_name : (q : NameKey) (d : List Entered) (x : Entered) → find q d ≡ Some x → name_eq q (rdns x.name) ≡ true
found_name q [] x h = absurd (cc h)
found_name q (e ∷ es) x h = by (name_eq q (rdns e.name)) refl (found_name q es x) h
  where
    by : (b : Bool) → name_eq q (rdns e.name) ≡ b → (find q es ≡ Some x → name_eq q (rdns x.name) ≡ true) →
        cond b (Some e) (find q es) ≡ Some x → name_eq q (rdns x.name) ≡ true
    by true t ih h = let same : e ≡ x = cc h in subst (λ (y : Entered). name_eq q (rdns y.name) ≡ true) same t
    by false t ih h = ih h

-- its keys are those of its values
pub found_keyed : (s : SchemaModel) (q : NameKey) (d : List Entered) (x : Entered) → AreKeyedBy s d →
    find q d ≡ Some x → IsKeyedBy s x.entry
found_keyed s q [] x k h = absurd (cc h)
found_keyed s q (e ∷ es) x k h = by (name_eq q (rdns e.name)) (found_keyed s q es x k.1) h
  where
    by : (b : Bool) → (find q es ≡ Some x → IsKeyedBy s x.entry) → cond b (Some e) (find q es) ≡ Some x →
        IsKeyedBy s x.entry
    by true ih h = let same : e ≡ x = cc h in subst (λ (y : Entered). IsKeyedBy s y.entry) same k.0
    by false ih h = ih h

-- its keys, where its attributes are known alone
pub found_keys : (s : SchemaModel) (q : NameKey) (d : List Entered) (a : List KeyedAttribute) → AreKeyedBy s d →
    Some a ≡ option_map (λ (e : Entered). e.entry) (find q d) → IsKeyedBy s a
found_keys s q d a keyed h = by (find q d) refl h
  where
    by : (o : Option Entered) → find q d ≡ o → Some a ≡ option_map (λ (e : Entered). e.entry) o → IsKeyedBy s a
    by None f g = absurd (cc g)
    by (Some e) f g = let same : e.entry ≡ a = cc g in subst (λ (x : List KeyedAttribute). IsKeyedBy s x) same
        (found_keyed s q d e keyed f)

both : (a b : Bool) → (a && b) ≡ true → (a ≡ true) × (b ≡ true)
both true b e = (refl, e)
both false b e = absurd (cc e)

of : ℕ → List ℕ → TypeAndKey
of t k = record { kind = t; key = k }

same_fields : (x y : TypeAndKey) → x.kind ≡ y.kind → x.key ≡ y.key → x ≡ y
unfolding of
same_fields x y e f = ap₂ of e f

keys_same : (xs ys : List TypeAndKey) → are_same_keys xs ys ≡ true → xs ≡ ys
keys_same [] [] e = refl
keys_same [] (y ∷ ys) e = absurd (cc e)
keys_same (x ∷ xs) [] e = absurd (cc e)
keys_same (x ∷ xs) (y ∷ ys) e =
    let p = both (nat_eq x.kind y.kind && bytes_eq x.key y.key) (are_same_keys xs ys) e in
    let q = both (nat_eq x.kind y.kind) (bytes_eq x.key y.key) p.0 in
    ap₂ (λ (z : TypeAndKey) (zs : List TypeAndKey). z ∷ zs) (same_fields x y (eqb-true x.kind y.kind q.0)
    ((bytes_eq-Decides x.key y.key).0 q.1)) (keys_same xs ys p.1)

-- names that are one by the test are one
pub names_same : (a b : NameKey) → name_eq a b ≡ true → a ≡ b
names_same [] [] e = refl
names_same [] (y ∷ ys) e = absurd (cc e)
names_same (x ∷ xs) [] e = absurd (cc e)
names_same (x ∷ xs) (y ∷ ys) e =
    let p = both (are_same_keys x y) (name_eq xs ys) e in ap₂ (λ (z : List TypeAndKey) (zs : NameKey). z ∷ zs)
    (keys_same x y p.0) (names_same xs ys p.1)

pub rdns_join : (a b : List RdnModel) → rdns (a ++ b) ≡ rdns a ++ rdns b
rdns_join [] b = refl
rdns_join (x ∷ a) b = ap (λ (l : NameKey). x.keys ∷ l) (rdns_join a b)

pub rdns_take : (i : ℕ) (a : List RdnModel) → rdns (take i a) ≡ take i (rdns a)
rdns_take zero a = refl
rdns_take (suc i) [] = refl
rdns_take (suc i) (x ∷ a) = ap (λ (l : NameKey). x.keys ∷ l) (rdns_take i a)

pub cut : (i : ℕ) (a : List RdnModel) → take i a ++ drop i a ≡ a
cut zero a = refl
cut (suc i) [] = refl
cut (suc i) (x ∷ a) = ap (λ (l : List RdnModel). x ∷ l) (cut i a)

-- a name whose own relative name stands behind another spelling of what is above it
pub placed_same : (i : ℕ) (name above : List RdnModel) → rdns above ≡ rdns (take i name) →
    rdns (above ++ drop i name) ≡ rdns name
placed_same i name above h =
    rdns_join above (drop i name)
    ∙ ap (λ (q : NameKey). q ++ rdns (drop i name)) h
    ∙ sym (rdns_join (take i name) (drop i name))
    ∙ ap rdns (cut i name)

-- names are told apart by their relative names in turn
pub names_equal : (a b : List RdnModel) → pointwise (λ (x y : RdnModel). are_same_keys x.keys y.keys) a b ≡
    name_eq (rdns a) (rdns b)
names_equal a b = sym (pointwise-map (λ (r : RdnModel). r.keys) are_same_keys a b)

keys_own : (a : List TypeAndKey) → are_same_keys a a ≡ true
keys_own [] = refl
keys_own (x ∷ a) = whole (nat_eq x.kind x.kind) (bytes_eq x.key x.key) (are_same_keys a a) (eq-eqb x.kind x.kind refl)
    ((bytes_eq-Decides x.key x.key).1 refl) (keys_own a)
  where
    whole : (b c e : Bool) → b ≡ true → c ≡ true → e ≡ true → (b && c && e) ≡ true
    whole true true true f g h = refl
    whole true true false f g h = absurd (cc h)
    whole true false e f g h = absurd (cc g)
    whole false c e f g h = absurd (cc f)

turned : (a b : List TypeAndKey) → are_same_keys a b ≡ are_same_keys b a
turned a b = by (are_same_keys a b) (are_same_keys b a) refl refl
  where
    by : (c e : Bool) → are_same_keys a b ≡ c → are_same_keys b a ≡ e → c ≡ e
    by true true f g = refl
    by false false f g = refl
    by true false f g = absurd (cc (sym g ∙ subst (λ (z : List TypeAndKey). are_same_keys b z ≡ true)
        (sym (keys_same a b f)) (keys_own b)))
    by false true f g = absurd (cc (sym f ∙ subst (λ (z : List TypeAndKey). are_same_keys a z ≡ true)
        (sym (keys_same b a g)) (keys_own a)))

-- a front is told by its own length
pub front_is : (f w : List RdnModel) → length f ≤ length w → name_eq (rdns (take (length f) w)) (rdns f) ≡
    begins (rdns f) (rdns w)
front_is [] w l = refl
front_is (x ∷ f) [] l = absurd (omega arith)
front_is (x ∷ f) (y ∷ w) l = ap₂ (λ (a b : Bool). a && b) (turned y.keys x.keys)
    (front_is f w (lower (length f) (length w) l))
  where
    lower : (m n : ℕ) → suc m ≤ suc n → m ≤ n
    lower m n l = omega arith

pub front_is_not : (f w : List RdnModel) → length w < length f → begins (rdns f) (rdns w) ≡ false
front_is_not [] w l = absurd (omega arith)
front_is_not (x ∷ f) [] l = refl
front_is_not (x ∷ f) (y ∷ w) l = by (are_same_keys x.keys y.keys) (front_is_not f w (lower (length w) (length f) l))
  where
    lower : (m n : ℕ) → suc m < suc n → m < n
    lower m n l = omega arith

    by : (b : Bool) → begins (rdns f) (rdns w) ≡ false → (b && begins (rdns f) (rdns w)) ≡ false
    by true ih = ih
    by false ih = refl

pub length_rdns : (a : List RdnModel) → length (rdns a) ≡ length a
length_rdns [] = refl
length_rdns (x ∷ a) = ap (λ (k : ℕ). suc k) (length_rdns a)

-- the longest front is no longer than the name
pub front_bound : (name : List RdnModel) (d : List Entered) → front (rdns name) d ≤ length name
front_bound name d = subst (λ (n : ℕ). front (rdns name) d ≤ n) (length_rdns name) (bounded (length (rdns name)))
  where
    bounded : (i : ℕ) → front_from i (rdns name) d ≤ i
    bounded zero = omega arith
    bounded (suc i) = by (is_some (find (take (suc i) (rdns name)) d)) (bounded i)
      where
        by : (b : Bool) → front_from i (rdns name) d ≤ i → cond b (suc i) (front_from i (rdns name) d) ≤ suc i
        by true ih = omega arith
        by false ih = omega (arith, ih)

-- an entry is found by its own name
pub found_own : (q : NameKey) (d : List Entered) (x : Entered) → find q d ≡ Some x → find (rdns x.name) d ≡ Some x
found_own q d x h = ap (λ (n : NameKey). find n d) (sym (names_same q (rdns x.name) (found_name q d x h))) ∙ h

pub found_same : (q : NameKey) (d : List Entered) (x : Entered) → find q d ≡ Some x → rdns x.name ≡ q
found_same q d x h = sym (names_same q (rdns x.name) (found_name q d x h))
