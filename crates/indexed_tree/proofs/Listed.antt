-- The tree's entries as indexes see them: each change of the tree is a change of what is listed.
use Rattle.std.proofs.Common.{◌≡◌, ◌<◌, ℕ, List, [], ◌∷◌, ◌++◌, refl, sym, ap, ◌∙◌, subst, arith, Bool, true, false, cond, not, Option, None, Some, nat_eq, inl, inr}
use Rattle.std.specs.Option.{option_map}
use Rattle.std.proofs.lemmas.Bool.{eqb-true, eq-eqb, ne_eqb}
use Rattle.dir_index.specs.ldap_dn.Names.{RdnModel, rdns}
use Rattle.dir_index.specs.dir_entry.Entry.{KeyedAttribute}
use Rattle.dir_index.specs.Postings.{Indexed}
use Rattle.dir_index.specs.Whole as index
use Rattle.dir_index.specs.Whole.{PostingsModel, AreOf, HasEntry, without, with_attributes}
use Rattle.directory_api.specs.dir_tree.Directory.{NameKey, Entered, name_eq, find, entry_at, unnumbered, replaced, moved, AllBelow, AllAbove, NumbersRise, NamesDiffer}
use Rattle.indexed_tree.proofs.Lookups.{names_same}
use Rattle.indexed_tree.specs.Listed.{listed, listed_of}

pub listed_push : (d : List Entered) (e : Entered) → listed_of (d ++ e ∷ []) ≡ listed_of d ++ listed e ∷ []
listed_push [] e = refl
listed_push (x ∷ d) e = ap (λ (l : List Indexed). listed x ∷ l) (listed_push d e)

pub listed_below : (k : ℕ) (d : List Entered) → AllBelow k d → index.AllBelow k (listed_of d)
listed_below k [] h = tt
listed_below k (e ∷ d) h = (h.0, listed_below k d h.1)

pub listed_held : (k : ℕ) (d : List Entered) (x : Entered) → entry_at k d ≡ Some x → HasEntry (listed_of d) k x.entry
listed_held k [] x h = absurd (cc h)
listed_held k (e ∷ d) x h = by (nat_eq k e.number) refl (λ g. listed_held k d x g) h
  where
    by : (b : Bool) → nat_eq k e.number ≡ b → (entry_at k d ≡ Some x → HasEntry (listed_of d) k x.entry) →
        cond b (Some e) (entry_at k d) ≡ Some x → HasEntry (listed_of (e ∷ d)) k x.entry
    by true f ih g = let same : e ≡ x = cc g in inl (sym (eqb-true k e.number f), ap (λ (y : Entered). y.entry) same)
    by false f ih g = inr (ih g)

-- the attributes that the tree has under a number
pub held_at : (k : ℕ) (d : List Entered) (a : List KeyedAttribute) → Some a ≡ option_map (λ (e : Entered). e.entry)
    (entry_at k d) → HasEntry (listed_of d) k a
held_at k d a h = by (entry_at k d) refl h
  where
    by : (o : Option Entered) → entry_at k d ≡ o → Some a ≡ option_map (λ (e : Entered). e.entry) o →
        HasEntry (listed_of d) k a
    by None f g = absurd (cc g)
    by (Some x) f g = let same : x.entry ≡ a = cc g in subst (λ (e : List KeyedAttribute). HasEntry (listed_of d) k e)
        same (listed_held k d x f)

pub none_at : (k : ℕ) (d : List Entered) → ◌≡◌ {A = Option (List KeyedAttribute)} None
    (option_map (λ (e : Entered). e.entry) (entry_at k d)) → entry_at k d ≡ None
none_at k d h = by (entry_at k d) h
  where
    by : (o : Option Entered) → ◌≡◌ {A = Option (List KeyedAttribute)} None (option_map (λ (e : Entered). e.entry)
        o) → o ≡ None
    by None g = refl
    by (Some x) g = absurd (cc g)

pub listed_found : (q : NameKey) (k : ℕ) (d : List Entered) (x : Entered) → find q d ≡ Some x → x.number ≡ k →
    HasEntry (listed_of d) k x.entry
listed_found q k [] x h n = absurd (cc h)
listed_found q k (e ∷ d) x h n = by (name_eq q (rdns e.name)) (λ g. listed_found q k d x g n) h
  where
    by : (b : Bool) → (find q d ≡ Some x → HasEntry (listed_of d) k x.entry) → cond b (Some e) (find q d) ≡ Some x →
        HasEntry (listed_of (e ∷ d)) k x.entry
    by true ih g = let same : e ≡ x = cc g in inl (
      ap (λ (y : Entered). y.number) same ∙ n,
      ap (λ (y : Entered).
          y.entry) same,
    )
    by false ih g = inr (ih g)

-- ---- entries above a number are none of its

kept_above : (k : ℕ) (d : List Entered) → AllAbove k d → without k (listed_of d) ≡ listed_of d
kept_above k [] h = refl
kept_above k (e ∷ d) h =
    ap (λ (b : Bool). cond (not b) (listed e ∷ without k (listed_of d)) (without k (listed_of d)))
    (ne_eqb e.number k (λ f. absurd (omega (arith, h.0)))) ∙ ap (λ (l : List Indexed). listed e ∷ l)
    (kept_above k d h.1)

same_above : (k : ℕ) (a : List KeyedAttribute) (d : List Entered) → AllAbove k d → with_attributes k a (listed_of d) ≡
    listed_of d
same_above k a [] h = refl
same_above k a (e ∷ d) h =
    ap (λ (b : Bool). cond b (record { number = k; entry = a }) (listed e) ∷ with_attributes k a (listed_of d))
    (ne_eqb e.number k (λ f. absurd (omega (arith, h.0)))) ∙ ap (λ (l : List Indexed). listed e ∷ l)
    (same_above k a d h.1)

turned : (a b : ℕ) (x : Bool) → nat_eq a b ≡ x → nat_eq b a ≡ x
turned a b true h = eq-eqb b a (sym (eqb-true a b h))
turned a b false h = ne_eqb b a (λ f. apart (sym (eq-eqb a b (sym f)) ∙ h))
  where
    apart : true ≡ false → ⊥
    apart x = cc

pub listed_unnumbered : (k : ℕ) (d : List Entered) → NumbersRise d → listed_of (unnumbered k d) ≡
    without k (listed_of d)
listed_unnumbered k [] r = refl
listed_unnumbered k (e ∷ d) r = by (nat_eq k e.number) refl (listed_unnumbered k d r.1)
  where
    by : (b : Bool) → nat_eq k e.number ≡ b → listed_of (unnumbered k d) ≡ without k (listed_of d)
        → listed_of (cond b d (e ∷ unnumbered k d)) ≡ cond (not (nat_eq e.number k))
        (listed e ∷ without k (listed_of d)) (without k (listed_of d))
    by true f ih =
        sym (ap (λ (b : Bool). cond (not b) (listed e ∷ without k (listed_of d)) (without k (listed_of d)))
        (turned k e.number true f)
        ∙ kept_above k d (subst (λ (n : ℕ). AllAbove n d) (sym (eqb-true k e.number f)) r.0))
    by false f ih =
        ap (λ (l : List Indexed). listed e ∷ l) ih
        ∙ sym (ap (λ (b : Bool). cond (not b) (listed e ∷ without k (listed_of d)) (without k (listed_of d)))
        (turned k e.number false f))

pub listed_replaced : (k : ℕ) (a : List KeyedAttribute) (d : List Entered) → NumbersRise d →
    listed_of (replaced k a d) ≡ with_attributes k a (listed_of d)
listed_replaced k a [] r = refl
listed_replaced k a (e ∷ d) r = by (nat_eq k e.number) refl (listed_replaced k a d r.1)
  where
    new : Entered
    new = record { number = e.number; name = e.name; entry = a }

    by : (b : Bool) → nat_eq k e.number ≡ b → listed_of (replaced k a d) ≡ with_attributes k a (listed_of d)
        → listed_of (cond b (new ∷ d) (e ∷ replaced k a d)) ≡ cond (nat_eq e.number k)
        (record { number = k; entry = a }) (listed e) ∷ with_attributes k a (listed_of d)
    by true f ih =
        ap (λ (n : ℕ). let x : Indexed = record { number = n; entry = a } in x ∷ listed_of d)
        (sym (eqb-true k e.number f))
        ∙ sym (ap (λ (b : Bool). cond b (record { number = k; entry = a }) (listed e) ∷ with_attributes k a
        (listed_of d)) (turned k e.number true f)
        ∙ ap (λ (l : List Indexed). let x : Indexed = record { number = k; entry = a } in x ∷ l)
        (same_above k a d (subst (λ (n : ℕ). AllAbove n d) (sym (eqb-true k e.number f)) r.0)))
    by false f ih =
        ap (λ (l : List Indexed). listed e ∷ l) ih
        ∙ sym (ap (λ (b : Bool). cond b (record { number = k; entry = a }) (listed e) ∷ with_attributes k a
        (listed_of d)) (turned k e.number false f))

-- ---- a number that no entry has

pub none_unnumbered : (k : ℕ) (d : List Entered) → entry_at k d ≡ None → unnumbered k d ≡ d
none_unnumbered k [] h = refl
none_unnumbered k (e ∷ d) h = by (nat_eq k e.number) (λ g. none_unnumbered k d g) h
  where
    by : (b : Bool) → (entry_at k d ≡ None → unnumbered k d ≡ d) → cond b (Some e) (entry_at k d) ≡ None →
        cond b d (e ∷ unnumbered k d) ≡ e ∷ d
    by true ih g = absurd (cc g)
    by false ih g = ap (λ (l : List Entered). e ∷ l) (ih g)

pub none_replaced : (k : ℕ) (a : List KeyedAttribute) (d : List Entered) → entry_at k d ≡ None → replaced k a d ≡ d
none_replaced k a [] h = refl
none_replaced k a (e ∷ d) h = by (nat_eq k e.number) (λ g. none_replaced k a d g) h
  where
    by : (b : Bool) → (entry_at k d ≡ None → replaced k a d ≡ d) → cond b (Some e) (entry_at k d) ≡ None →
        cond b (record { number = e.number; name = e.name; entry = a } ∷ d) (e ∷ replaced k a d) ≡ e ∷ d
    by true ih g = absurd (cc g)
    by false ih g = ap (λ (l : List Entered). e ∷ l) (ih g)

-- ---- a name that is moved

abbrev pub one_listed : ℕ → List KeyedAttribute → Indexed
one_listed n a = record { number = n; entry = a }

none_moved : (old : NameKey) (new : List RdnModel) (a : List KeyedAttribute) (d : List Entered) → find old d ≡ None →
    listed_of (moved old new a d) ≡ listed_of d
none_moved old new a [] h = refl
none_moved old new a (e ∷ d) h = by (name_eq old (rdns e.name)) (λ g. none_moved old new a d g) h
  where
    by : (b : Bool) → (find old d ≡ None → listed_of (moved old new a d) ≡ listed_of d) →
        cond b (Some e) (find old d) ≡ None → one_listed e.number (cond b a e.entry) ∷ listed_of (moved old new a d) ≡
        listed e ∷ listed_of d
    by true ih g = absurd (cc g)
    by false ih g = ap (λ (l : List Indexed). listed e ∷ l) (ih g)

found_over : (old : NameKey) (n : ℕ) (d : List Entered) (x : Entered) → AllAbove n d → find old d ≡ Some x →
    n < x.number
found_over old n [] x h g = absurd (cc g)
found_over old n (e ∷ d) x h g = by (name_eq old (rdns e.name)) (λ k. found_over old n d x h.1 k) g
  where
    by : (b : Bool) → (find old d ≡ Some x → n < x.number) → cond b (Some e) (find old d) ≡ Some x → n < x.number
    by true ih g = subst (λ (y : Entered). n < y.number) (same g) h.0
      where
        same : Some e ≡ Some x → e ≡ x
        same k = cc k
    by false ih g = ih g

pub listed_moved : (old : NameKey) (new : List RdnModel) (a : List KeyedAttribute) (k : ℕ) (d : List Entered)
    (x : Entered) → NumbersRise d → NamesDiffer d → find old d ≡ Some x → x.number ≡ k
    → listed_of (moved old new a d) ≡ with_attributes k a (listed_of d)
listed_moved old new a k [] x r u h n = absurd (cc h)
listed_moved old new a k (e ∷ d) x r u h n = by (name_eq old (rdns e.name)) refl (λ g. listed_moved old new a k d x
    r.1 u.1 g n) h
  where
    by : (b : Bool) → name_eq old (rdns e.name) ≡ b → (find old d ≡ Some x → listed_of (moved old new a d) ≡
        with_attributes k a (listed_of d)) → cond b (Some e) (find old d) ≡ Some x
        → one_listed e.number (cond b a e.entry) ∷ listed_of (moved old new a d) ≡ cond (nat_eq e.number k)
        (record { number = k; entry = a }) (listed e) ∷ with_attributes k a (listed_of d)
    by true f ih g =
        let same : e ≡ x = cc g in
        let number : e.number ≡ k = ap (λ (y : Entered). y.number) same ∙ n in
        let rest : find old d ≡ None = ap (λ (q : NameKey). find q d) (names_same old (rdns e.name) f) ∙ u.0 in
        ap (λ (l : List Indexed). let y : Indexed = record { number = e.number; entry = a } in y ∷ l)
        (none_moved old new a d rest)
        ∙ ap (λ (m : ℕ). let y : Indexed = record { number = m; entry = a } in y ∷ listed_of d) number
        ∙ sym (ap (λ (b : Bool). cond b (record { number = k; entry = a }) (listed e) ∷ with_attributes k a
        (listed_of d)) (eq-eqb e.number k number)
        ∙ ap (λ (l : List Indexed). let y : Indexed = record { number = k; entry = a } in y ∷ l)
        (same_above k a d (subst (λ (m : ℕ). AllAbove m d) number r.0)))
    by false f ih g =
        let over : e.number < x.number = found_over old e.number d x r.0 g in
        ap (λ (l : List Indexed). listed e ∷ l) (ih g)
        ∙ sym (ap (λ (b : Bool). cond b (record { number = k; entry = a }) (listed e) ∷ with_attributes k a
        (listed_of d)) (ne_eqb e.number k (λ i. absurd (omega (arith, over, i, n)))))

-- the entry of a name whose number is known
by_found : {P : Type 0} (q : NameKey) (k : ℕ) (d : List Entered) → option_map (λ (e : Entered). e.number) (find q d) ≡
    Some k → ((x : Entered) → find q d ≡ Some x → x.number ≡ k → P) → P
by_found {P} q k d h f = by (find q d) refl h
  where
    by : (o : Option Entered) → find q d ≡ o → option_map (λ (e : Entered). e.number) o ≡ Some k → P
    by None e g = absurd (cc g)
    by (Some x) e g = f x e (cc g)

pub moved_listed : (old : NameKey) (new : List RdnModel) (a : List KeyedAttribute) (k : ℕ) (d : List Entered) →
    NumbersRise d → NamesDiffer d → option_map (λ (e : Entered). e.number) (find old d) ≡ Some k
    → listed_of (moved old new a d) ≡ with_attributes k a (listed_of d)
moved_listed old new a k d r u h = by_found old k d h (λ x e n. listed_moved old new a k d x r u e n)

pub listed_here : (q : NameKey) (k : ℕ) (d : List Entered) (x : Entered) → find q d ≡ Some x →
    option_map (λ (e : Entered). e.number) (find q d) ≡ Some k → HasEntry (listed_of d) k x.entry
listed_here q k d x h g = listed_found q k d x h
    (number x (sym (ap (λ (o : Option Entered). option_map (λ (e : Entered). e.number) o) h) ∙ g))
  where
    number : (y : Entered) → Some y.number ≡ Some k → y.number ≡ k
    number y e = cc e

-- the entries once one has another name and other attributes are listed as they are once it has these
pub moved_replaced : (old : NameKey) (new : List RdnModel) (a : List KeyedAttribute) (k : ℕ) (d : List Entered) →
    NumbersRise d → NamesDiffer d → option_map (λ (e : Entered). e.number) (find old d) ≡ Some k
    → listed_of (moved old new a d) ≡ listed_of (replaced k a d)
moved_replaced old new a k d r u h = moved_listed old new a k d r u h ∙ sym (listed_replaced k a d r)

-- lists that are the same, of entries that are the same
pub of_same : (m n : PostingsModel) (es ds : List Indexed) → m ≡ n → es ≡ ds → AreOf n ds → AreOf m es
of_same m n es ds e f h = subst (λ (l : List Indexed). AreOf m l) (sym f) (subst (λ (p : PostingsModel). AreOf p ds)
    (sym e) h)
