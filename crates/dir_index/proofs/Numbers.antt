-- Rising lists of numbers, with one more and with one less.
use Rattle.std.proofs.Common.{◌≡◌, ℕ, Bool, true, false, cond, not, List, [], ◌∷◌, length, ◌<◌, Ordering, refl, sym, ap, ◌∙◌, subst, nat_eq, arith}
use Rattle.std.specs.Prelude.{◌&&◌, ◌||◌, Option, Some, None, option_copied}
use denote.Ref.{Bor}
use Rattle.std.specs.Ordering.{is_eq, nat_cmp, match_ordering}
use Rattle.std.specs.Cmp.{unsigned_ties}
use Rattle.std.specs.BTreeMap.{is_at}
use Rattle.std.specs.List.{AllByRecursion}
use Rattle.std.specs.BTreeSet.{insert_key}
use Rattle.std.specs.Set.{remove_key}
use Rattle.std.specs.Option.{unwrap_or}
use Rattle.std.proofs.lemmas.Cmp.{ranked}
use Rattle.std.proofs.lemmas.Bool.{eqb-true, eq-eqb, ne_eqb}
use Rattle.dir_index.specs.declared.list_key.ListKey.{ListKey}
use Rattle.dir_index.specs.Postings.{has_number, IsRising}
use Rattle.dir_index.specs.ListKeys.{is_same_list}
use Rattle.dir_index.specs.Stored.{ListRows, list_at}
use Rattle.dir_index.specs.private.Stored.{is_in}
use Rattle.dir_index.proofs.Keys.{one_list}
use Rattle.dir_index.proofs.Listed.{none_above}
use Rattle.dir_index.proofs.Marking.{or_swap}

absorb : (a b c : Bool) → b ≡ a → (a || c) ≡ (b || (a || c))
absorb true true c e = refl
absorb true false c e = cc
absorb false true c e = cc
absorb false false c e = refl

has_put : (r : Ordering) (n k x : ℕ) (xs ys : List ℕ) → nat_cmp k x ≡ r → has_number n ys ≡
    (nat_eq n k || has_number n xs)
    → has_number n (match_ordering r (k ∷ x ∷ xs) (x ∷ xs) (x ∷ ys)) ≡ (nat_eq n k || (nat_eq n x || has_number n xs))
has_put Ordering.Less n k x xs ys e h = refl
has_put Ordering.Equal n k x xs ys e h = absorb (nat_eq n x) (nat_eq n k) (has_number n xs)
    (ap (nat_eq n) (ranked k x Ordering.Equal (sym e)))
has_put Ordering.Greater n k x xs ys e h = ap (λ (b : Bool). nat_eq n x || b) h ∙ or_swap (nat_eq n x) (nat_eq n k)
    (has_number n xs)

pub has-insert : (n k : ℕ) (xs : List ℕ) → has_number n (insert_key nat_cmp xs k) ≡ (nat_eq n k || has_number n xs)
has-insert n k [] = refl
has-insert n k (x ∷ xs) = has_put (nat_cmp k x) n k x xs (insert_key nat_cmp xs k) refl (has-insert n k xs)

or_off : (b : Bool) → (b && true) ≡ b
or_off true = refl
or_off false = refl

has_taken : (t : Bool) (n k x : ℕ) (xs ys : List ℕ) → nat_eq k x ≡ t → has_number x xs ≡ false → has_number n ys ≡
    (has_number n xs && not (nat_eq n k))
    → has_number n (cond t xs (x ∷ ys)) ≡ ((nat_eq n x || has_number n xs) && not (nat_eq n k))
has_taken true n k x xs ys e a h = pick (nat_eq n x) refl
  where
    same : nat_eq n k ≡ nat_eq n x
    same = ap (nat_eq n) (eqb-true k x e)

    pick : (b : Bool) → nat_eq n x ≡ b → has_number n xs ≡ ((b || has_number n xs) && not (nat_eq n k))
    pick true f = ap (λ m. has_number m xs) (eqb-true n x f) ∙ a ∙ sym (ap not (same ∙ f))
    pick false f = sym (or_off (has_number n xs)) ∙ ap (λ b. has_number n xs && not b) (sym (same ∙ f))
has_taken false n k x xs ys e a h = pick (nat_eq n x) refl
  where
    pick : (b : Bool) → nat_eq n x ≡ b → (b || has_number n ys) ≡ ((b || has_number n xs) && not (nat_eq n k))
    pick true f = sym (ap not (ne_eqb n k (λ g. differ (sym g ∙ eqb-true n x f))))
      where
        differ : k ≡ x → ⊥
        differ d = let y : true ≡ false = sym (eq-eqb k x d) ∙ e in cc
    pick false f = h

pub has-remove : (n k : ℕ) (xs : List ℕ) → IsRising xs → has_number n (remove_key (is_at (nat_cmp k)) xs) ≡
    (has_number n xs && not (nat_eq n k))
has-remove n k [] r = refl
has-remove n k (x ∷ xs) r = has_taken (is_eq (nat_cmp k x)) n k x xs (remove_key (is_at (nat_cmp k)) xs)
    (unsigned_ties k x) (none_above x x xs r.0 (omega arith)) (has-remove n k xs r.1)

all_put : (r : Ordering) (x k y : ℕ) (ys zs : List ℕ) → nat_cmp k y ≡ r → x < k → AllByRecursion (λ z. x < z) (y ∷ ys)
    → AllByRecursion (λ z. x < z) zs → AllByRecursion (λ z. x < z) (match_ordering r (k ∷ y ∷ ys) (y ∷ ys) (y ∷ zs))
all_put Ordering.Less x k y ys zs e l a b = (l, a)
all_put Ordering.Equal x k y ys zs e l a b = a
all_put Ordering.Greater x k y ys zs e l a b = (a.0, b)

all_with : (x k : ℕ) (ys : List ℕ) → x < k → AllByRecursion (λ z. x < z) ys →
    AllByRecursion (λ z. x < z) (insert_key nat_cmp ys k)
all_with x k [] l a = (l, tt)
all_with x k (y ∷ ys) l a = all_put (nat_cmp k y) x k y ys (insert_key nat_cmp ys k) refl l a (all_with x k ys l a.1)

all_further : (k x : ℕ) (xs : List ℕ) → k < x → AllByRecursion (λ z. x < z) xs → AllByRecursion (λ z. k < z) xs
all_further k x [] l a = tt
all_further k x (y ∷ ys) l a = let h : x < y = a.0 in (omega arith, all_further k x ys l a.1)

rise_put : (r : Ordering) (k x : ℕ) (xs ys : List ℕ) → nat_cmp k x ≡ r → IsRising (x ∷ xs) →
    (x < k → AllByRecursion (λ z. x < z) ys) → IsRising ys
    → IsRising (match_ordering r (k ∷ x ∷ xs) (x ∷ xs) (x ∷ ys))
rise_put Ordering.Less k x xs ys e s a t =
    let l : k < x = ranked k x Ordering.Less (sym e) in ((l, all_further k x xs l s.0), s)
rise_put Ordering.Equal k x xs ys e s a t = s
rise_put Ordering.Greater k x xs ys e s a t = (a (ranked k x Ordering.Greater (sym e)), t)

-- one more number
pub rise_insert : (k : ℕ) (xs : List ℕ) → IsRising xs → IsRising (insert_key nat_cmp xs k)
rise_insert k [] s = (tt, tt)
rise_insert k (x ∷ xs) s = rise_put (nat_cmp k x) k x xs (insert_key nat_cmp xs k) refl s
    (λ l. all_with x k xs l s.0) (rise_insert k xs s.1)

pub rise_either : (b : Bool) (v w : List ℕ) → IsRising v → IsRising w → IsRising (cond b v w)
rise_either true v w r s = r
rise_either false v w r s = s

pub none_of_length : (xs : List ℕ) → nat_eq (length xs) 0 ≡ true → [] ≡ xs
none_of_length [] h = refl
none_of_length (x ∷ xs) h = let e : length (x ∷ xs) ≡ 0 = eqb-true (length (x ∷ xs)) 0 h in absurd (omega arith)

-- the list that a look-up finds
pub copied_list : (r : Option (Bor (List ℕ))) (o : Option (List ℕ)) (x : Bor (List ℕ)) → option_copied r ≡ o →
    r ≡ Some x → x.now ≡ unwrap_or o []
copied_list r o x h e = ap (λ (v : Option (List ℕ)). unwrap_or v []) (sym (ap option_copied e) ∙ h)

pub copied_none : (r : Option (Bor (List ℕ))) (o : Option (List ℕ)) → option_copied r ≡ o → r ≡ None →
    unwrap_or o [] ≡ []
copied_none r o h e = ap (λ (v : Option (List ℕ)). unwrap_or v []) (sym h ∙ ap option_copied e)

-- ---- lists of which one was written

module _ (ls m : ListRows) (j : ListKey) (number : ℕ) where
  pub enlisted_has : ((k : ListKey) → list_at m k ≡ cond (is_same_list j k) (insert_key nat_cmp (list_at ls j) number)
      (list_at ls k))
      → (k : ListKey) (n : ℕ) → is_in m k n ≡ ((is_same_list j k && nat_eq n number) || is_in ls k n)
  enlisted_has h k n = ap (has_number n) (h k) ∙ pick (is_same_list j k) refl
    where
      pick : (b : Bool) → is_same_list j k ≡ b → has_number n (cond b (insert_key nat_cmp (list_at ls j) number)
          (list_at ls k)) ≡ ((b && nat_eq n number) || is_in ls k n)
      pick true e = has-insert n number (list_at ls j) ∙ ap (λ q. nat_eq n number || is_in ls q n) (one_list j k e)
      pick false e = refl

  pub struck_has : ((k : ListKey) → list_at m k ≡ cond (is_same_list j k) (remove_key (is_at (nat_cmp number))
      (list_at ls j)) (list_at ls k))
      → (k : ListKey) → IsRising (list_at ls k) → (n : ℕ) → is_in m k n ≡
      (is_in ls k n && not (is_same_list j k && nat_eq n number))
  struck_has h k r n = ap (has_number n) (h k) ∙ pick (is_same_list j k) refl
    where
      pick : (b : Bool) → is_same_list j k ≡ b →
          has_number n (cond b (remove_key (is_at (nat_cmp number)) (list_at ls j)) (list_at ls k)) ≡
          (is_in ls k n && not (b && nat_eq n number))
      pick true e =
          let same = one_list j k e in
          has-remove n number (list_at ls j) (subst (λ q. IsRising (list_at ls q)) (sym same) r)
          ∙ ap (λ q. is_in ls q n && not (nat_eq n number)) same
      pick false e = sym (or_off (is_in ls k n))

-- the list of each key rises where one got one more number
pub rise_enlisted : (ls : ListRows) (j k : ListKey) (number : ℕ) (b : Bool) → is_same_list j k ≡ b →
    IsRising (list_at ls k) → IsRising (cond b (insert_key nat_cmp (list_at ls j) number) (list_at ls k))
rise_enlisted ls j k number true e r = rise_insert number (list_at ls j)
    (subst (λ q. IsRising (list_at ls q)) (sym (one_list j k e)) r)
rise_enlisted ls j k number false e r = r

-- nothing to take out
pub unstruck : (ls : ListRows) (j : ListKey) (number : ℕ) → list_at ls j ≡ [] → (k : ListKey) → list_at ls k ≡
    cond (is_same_list j k) (remove_key (is_at (nat_cmp number)) (list_at ls j)) (list_at ls k)
unstruck ls j number h k = pick (is_same_list j k) refl
  where
    pick : (b : Bool) → is_same_list j k ≡ b → list_at ls k ≡ cond b (remove_key (is_at (nat_cmp number))
        (list_at ls j)) (list_at ls k)
    pick true e = ap (list_at ls) (sym (one_list j k e)) ∙ h ∙ sym (ap (remove_key (is_at (nat_cmp number))) h)
    pick false e = refl

-- ---- steps of the loops over the keys of one set that are not in another

pub enlist_step : (n s m o i : Bool) → (s ≡ true → o ≡ false) → ((n && (m && not o)) || ((s && n) || i)) ≡
    ((n && ((s || m) && not o)) || i)
enlist_step false true m o i h = refl
enlist_step false false m o i h = refl
enlist_step true false m o i h = refl
enlist_step true true true o i h = step (not o) i (ap not (h refl))
  where
    step : (b i : Bool) → b ≡ true → (b || true) ≡ (b || i)
    step true i e = refl
    step false i e = cc
enlist_step true true false o i h = sym (ap (λ b. not b || i) (h refl))

pub skip_step : (n s m o : Bool) → (s ≡ true → o ≡ true) → (n && (m && not o)) ≡ (n && ((s || m) && not o))
skip_step n false m o h = refl
skip_step false true m o h = refl
skip_step true true m true h = off m
  where
    off : (b : Bool) → (b && false) ≡ false
    off true = refl
    off false = refl
skip_step true true m false h = let e : false ≡ true = h refl in cc

pub strike_step : (n s m o i : Bool) → (s ≡ true → o ≡ false) → ((i && not (s && n)) && not (n && (m && not o))) ≡
    (i && not (n && ((s || m) && not o)))
strike_step n s m o false h = refl
strike_step false true m o true h = refl
strike_step false false m o true h = refl
strike_step true false m o true h = refl
strike_step true true m true true h = let e : true ≡ false = h refl in cc
strike_step true true m false true h = refl

-- both loops together
pub both_steps : (n b a i : Bool) → ((((n && (a && not b)) || i)) && not (n && (b && not a))) ≡
    cond n ((i || (a && not b)) && not (b && not a)) i
both_steps false b a true = refl
both_steps false b a false = refl
both_steps true b a true = flip (a && not b) (not (b && not a))
  where
    flip : (x y : Bool) → ((x || true) && y) ≡ y
    flip true y = refl
    flip false y = refl
both_steps true b a false = flip (a && not b) (not (b && not a))
  where
    flip : (x y : Bool) → ((x || false) && y) ≡ (x && y)
    flip true y = refl
    flip false y = refl
