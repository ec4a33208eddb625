-- What has the parts of an assertion has their runs of three octets.
use Rattle.std.proofs.Common.{◌≡◌, ℕ, ◌-◌, Bool, true, false, ◌&&◌, not, cond, nat_lt, List, [], ◌∷◌, ◌++◌, length, take, drop, refl, sym, ap, ◌∙◌, inl, inr}
use Rattle.std.proofs.lemmas.List.{take-append-drop, append-nil}
use Rattle.std.specs.List.{list_any, list_all}
use Rattle.ldap_eval.specs.ldap_syntax.Parts.{part_or_nothing}
use Rattle.ldap_eval.specs.ldap_match.Parts.{PartsModel, is_at_start, is_at_end, tails, are_in_order, has_parts}
use Rattle.ldap_eval.specs.dir_entry.Entry.{KeyedAttribute}
use Rattle.dir_index.specs.Postings.{is_of, some_key, stands_in}
use Rattle.search_plans.specs.OctetRuns.{runs_of, runs_of_all, parts_of, is_among, with_run, with_runs, asked_runs, has_runs}
use Rattle.search_plans.proofs.Standing.{and_parts, and_from, or_parts, or_left, or_right, same_bytes, StandsAt, stands_of, stands_at, stands_at_start, stands_trans, stands_behind, stands_in_front}

all_weaker : {X : Type 0} (p q : X → Bool) → ((x : X) → p x ≡ true → q x ≡ true) → (xs : List X) → list_all p xs ≡
    true → list_all q xs ≡ true
all_weaker p q f [] h = refl
all_weaker p q f (x ∷ xs) h = let u = and_parts _ _ h in and_from _ _ (f x u.0) (all_weaker p q f xs u.1)

all_join : {X : Type 0} (p : X → Bool) (xs ys : List X) → list_all p xs ≡ true → list_all p ys ≡ true →
    list_all p (xs ++ ys) ≡ true
all_join p [] ys h k = k
all_join p (x ∷ xs) ys h k = let u = and_parts _ _ h in and_from _ _ u.0 (all_join p xs ys u.1 k)

-- the runs of a text stand in it
runs_stand : (x : List ℕ) → list_all (λ g. stands_in g x) (runs_of x) ≡ true
runs_stand [] = refl
runs_stand (a ∷ []) = refl
runs_stand (a ∷ b ∷ []) = refl
runs_stand (a ∷ b ∷ c ∷ x) =
    and_from _ _ (stands_of (a ∷ b ∷ c ∷ []) (a ∷ b ∷ c ∷ x) (record { front = []; back = x; is = refl }))
    (all_weaker (λ g. stands_in g (b ∷ c ∷ x)) (λ g. stands_in g (a ∷ b ∷ c ∷ x)) (λ g h. or_right _ _ h)
    (runs_of (b ∷ c ∷ x)) (runs_stand (b ∷ c ∷ x)))

runs_in : (p x : List ℕ) → StandsAt p x → list_all (λ g. stands_in g x) (runs_of p) ≡ true
runs_in p x s = all_weaker (λ g. stands_in g p) (λ g. stands_in g x)
    (λ g h. stands_of g x (stands_trans g p x (stands_at g p h) s)) (runs_of p) (runs_stand p)

all_behind : (n : ℕ) (x : List ℕ) (gs : List (List ℕ)) → list_all (λ g. stands_in g (drop n x)) gs ≡ true →
    list_all (λ g. stands_in g x) gs ≡ true
all_behind n x gs h = all_weaker (λ g. stands_in g (drop n x)) (λ g. stands_in g x)
    (λ g k. stands_of g x (stands_behind g n x (stands_at g (drop n x) k))) gs h

all_in_front : (n : ℕ) (x : List ℕ) (gs : List (List ℕ)) → list_all (λ g. stands_in g (take n x)) gs ≡ true →
    list_all (λ g. stands_in g x) gs ≡ true
all_in_front n x gs h = all_weaker (λ g. stands_in g (take n x)) (λ g. stands_in g x)
    (λ g k. stands_of g x (stands_in_front g n x (stands_at g (take n x) k))) gs h

-- what some tail has, the whole has
all_of_tail : (q : List ℕ → Bool) (gs : List (List ℕ)) → ((y : List ℕ) → q y ≡ true → list_all (λ g. stands_in g y)
    gs ≡ true) → (x : List ℕ) → list_any q (tails x) ≡ true
    → list_all (λ g. stands_in g x) gs ≡ true
all_of_tail q gs f [] h = elim (or_parts _ _ h) [ inl u ↦ f [] u | inr u ↦ let k : false ≡ true = u in cc ]
all_of_tail q gs f (a ∷ x) h =
    elim (or_parts _ _ h) [
      | inl u ↦ f (a ∷ x) u
      | inr u ↦ all_weaker (λ g. stands_in g x) (λ g. stands_in g (a ∷ x)) (λ g k. or_right _ _ k) gs
          (all_of_tail q gs f x u)
    ]

in_order_runs : (ps : List (List ℕ)) (x : List ℕ) → are_in_order ps x ≡ true → list_all (λ g. stands_in g x)
    (runs_of_all ps) ≡ true
in_order_runs [] x h = refl
in_order_runs (p ∷ ps) x h =
    all_of_tail (λ rest. is_at_start p rest && are_in_order ps (drop (length p) rest)) (runs_of p ++ runs_of_all ps)
    (λ y k. let u = and_parts _ _ k in all_join _ (runs_of p) (runs_of_all ps) (runs_in p y (stands_at_start p y u.0))
    (all_behind (length p) y (runs_of_all ps) (in_order_runs ps (drop (length p) y) u.1)))
    x h

stands_at_end : (p x : List ℕ) → is_at_end p x ≡ true → StandsAt p x
stands_at_end p x h =
    let n = length x - length p in
    record {
      front = take n x;
      back = [];
      is = sym (take-append-drop n x) ∙ ap (λ (y : List ℕ). take n x ++ y) (same_bytes _ _ h ∙ sym (append-nil p));
    }

all_split : {X : Type 0} (p : X → Bool) (xs ys : List X) → list_all p (xs ++ ys) ≡ true → (list_all p xs ≡ true)
    × (list_all p ys ≡ true)
all_split p [] ys h = (refl, h)
all_split p (x ∷ xs) ys h = let u = and_parts _ _ h in let v = all_split p xs ys u.1 in (and_from _ _ u.0 v.0, v.1)

runs_join : (xs : List (List ℕ)) (y : List ℕ) (p : List ℕ → Bool) → list_all p (runs_of_all xs) ≡ true →
    list_all p (runs_of y) ≡ true → list_all p (runs_of_all (xs ++ y ∷ [])) ≡ true
runs_join [] y p h k = all_join p (runs_of y) [] k refl
runs_join (x ∷ xs) y p h k =
    let u = all_split p (runs_of x) (runs_of_all xs) h in
    all_join p (runs_of x) (runs_of_all (xs ++ y ∷ [])) u.0 (runs_join xs y p u.1 k)

-- a text that has the parts has their runs
parts_runs : (p : PartsModel) (x : List ℕ) → has_parts p x ≡ true → list_all (λ g. stands_in g x)
    (runs_of_all (parts_of p)) ≡ true
parts_runs p x h =
    let first = part_or_nothing p.initial in
    let last = part_or_nothing p.last in
    let rest = drop (length first) x in
    let u = and_parts _ _ h in
    let v = and_parts _ _ u.1 in
    let n = length rest - length last in
    all_join _ (runs_of first) (runs_of_all (p.any ++ last ∷ [])) (runs_in first x (stands_at_start first x u.0))
    (all_behind (length first) x (runs_of_all (p.any ++ last ∷ []))
    (runs_join p.any last (λ g. stands_in g rest) (all_in_front n rest (runs_of_all p.any)
    (in_order_runs p.any (take n rest) v.1)) (runs_in last rest (stands_at_end last rest v.0))))

any_weaker : {X : Type 0} (p q : X → Bool) → ((x : X) → p x ≡ true → q x ≡ true) → (xs : List X) → list_any p xs ≡
    true → list_any q xs ≡ true
any_weaker p q f [] h = h
any_weaker p q f (x ∷ xs) h = elim (or_parts _ _ h) [
  | inl u ↦ or_left _ _ (f x u)
  | inr u ↦ or_right _ _ (any_weaker p
      q f xs u)
]

some_weaker : (t : ℕ) (p q : List ℕ → Bool) → ((x : List ℕ) → p x ≡ true → q x ≡ true) → (e : List KeyedAttribute) →
    some_key t p e ≡ true → some_key t q e ≡ true
some_weaker t p q f e h =
    any_weaker (λ (a : KeyedAttribute). is_of t a && list_any p a.keys) (λ (a : KeyedAttribute). is_of t a
    && list_any q a.keys)
    (λ a k. let u = and_parts _ _ k in and_from _ _ u.0 (any_weaker p q f a.keys u.1)) e h

runs_of_entry : (t : ℕ) (p : List ℕ → Bool) (gs : List (List ℕ)) (e : List KeyedAttribute) →
    ((x : List ℕ) → p x ≡ true → list_all (λ g. stands_in g x) gs ≡ true) → some_key t p e ≡ true
    → list_all (λ g. some_key t (stands_in g) e) gs ≡ true
runs_of_entry t p [] e f h = refl
runs_of_entry t p (g ∷ gs) e f h =
    and_from _ _ (some_weaker t p (stands_in g) (λ x k. (and_parts _ _ (f x k)).0) e h)
    (runs_of_entry t p gs e (λ x k. (and_parts _ _ (f x k)).1) h)

with_run_all : (p : List ℕ → Bool) (gs : List (List ℕ)) (x : List ℕ) → list_all p gs ≡ true → p x ≡ true →
    list_all p (with_run gs x) ≡ true
with_run_all p gs x h k = by (nat_lt (length gs) 64 && not (is_among x gs))
  where
    by : (b : Bool) → list_all p (cond b (gs ++ x ∷ []) gs) ≡ true
    by true = all_join p gs (x ∷ []) h (and_from _ _ k refl)
    by false = h

with_runs_all : (p : List ℕ → Bool) (gs xs : List (List ℕ)) → list_all p gs ≡ true → list_all p xs ≡ true →
    list_all p (with_runs gs xs) ≡ true
with_runs_all p gs [] h k = h
with_runs_all p gs (x ∷ xs) h k = let u = and_parts _ _ k in with_runs_all p (with_run gs x) xs
    (with_run_all p gs x h u.0) u.1

-- what holds of each run of the parts holds of those that a plan asks for
pub asked_all : (p : List ℕ → Bool) (parts : PartsModel) → list_all p (runs_of_all (parts_of parts)) ≡ true →
    list_all p (asked_runs parts) ≡ true
asked_all p parts h = with_runs_all p [] (runs_of_all (parts_of parts)) refl h

-- an entry with a value that has the parts has the runs that a plan asks for
pub parts_entry : (t : ℕ) (p : PartsModel) (e : List KeyedAttribute) → some_key t (has_parts p) e ≡ true →
    has_runs t p e ≡ true
parts_entry t p e h = asked_all (λ g. some_key t (stands_in g) e) p (runs_of_entry t (has_parts p)
    (runs_of_all (parts_of p)) e (parts_runs p) h)
