-- What is kept below numbers, after one change of it.
use Rattle.std.proofs.Common.{◌≡◌, ℕ, Bool, true, false, cond, List, [], ◌∷◌, ◌||◌, refl, sym, ap, ◌∙◌, nat_eq, Option, Some, None, Ordering, Result, Ok, Err, IfOk}
use Rattle.std.specs.Prelude.{◌&&◌, not}
use Rattle.std.specs.Option.{option_map_or}
use Rattle.std.specs.Ordering.{nat_cmp, is_eq, match_ordering}
use Rattle.std.specs.Map.{lookup, remove_entry}
use Rattle.std.specs.BTreeMap.{insert_entry, is_at}
use Rattle.std.specs.Set.{remove_key}
use Rattle.std.specs.BTreeSet.{insert_key}
use Rattle.dir_entry.specs.shared_map.Entries.{Rises, IsAhead}
use Rattle.dir_entry.specs.ldap_dn.Names.{RdnModel, TypeAndKey, are_same_keys}
use Rattle.dir_tree.specs.declared.place.Below.{Below}
use Rattle.dir_tree.specs.Superiors.{has_number}
use Rattle.dir_tree.specs.Digests.{digested_order}
use Rattle.dir_tree.specs.DigestLaws.{digested_ties}
use Rattle.dir_tree.specs.private.Superiors.{alone, below_at, number_among}
use Rattle.dir_entry.specs.shared_map.Sets.{IsRising}
use Rattle.dir_tree.proofs.Kept.{under, under-put, under-out, same_number, has-put, has-out}
use Rattle.dir_tree.proofs.NameFacts.{part_decides}

pub if_ok : {A E : Type 0} (P Q : A → Type 0) (r : Result A E) → ((x : A) → P x → Q x) → IfOk r P → IfOk r Q
if_ok P Q (Ok a) f h = f a h
if_ok P Q (Err e) f h = h

pub among_find : (r : RdnModel) (names : List (RdnModel × ℕ)) → lookup (is_at (digested_order r)) names ≡ number_among
    r.keys names
among_find r [] = refl
among_find r (e ∷ es) = ap (λ (b : Bool). cond b (Some e.1) (lookup (is_at (digested_order r)) es))
    (sym (digested_ties r e.0)) ∙ ap (λ (o : Option ℕ). cond (are_same_keys r.keys e.0.keys) (Some e.1) o)
    (among_find r es)

-- something else below a number, and nothing
pub below_put : (bs : List (ℕ × Below)) (k : ℕ) (b : Below) (a : ℕ) → below_at (insert_entry nat_cmp bs k b) a ≡
    cond (nat_eq a k) b (below_at bs a)
below_put bs k b a = ap (λ (o : Option Below). option_map_or (λ (b : Below). b) o (alone a)) (under-put a k b bs)
    ∙ by (nat_eq a k)
  where
    by : (c : Bool) → option_map_or (λ (b : Below). b) (cond c (Some b) (under a bs)) (alone a) ≡
        cond c b (below_at bs a)
    by true = refl
    by false = refl

pub below_out : (bs : List (ℕ × Below)) (k : ℕ) → Rises nat_cmp bs → (a : ℕ) →
    below_at (remove_entry (is_at (nat_cmp k)) bs) a ≡ cond (nat_eq a k) (alone k) (below_at bs a)
below_out bs k h a = ap (λ (o : Option Below). option_map_or (λ (b : Below). b) o (alone a)) (under-out a k bs h)
    ∙ by (nat_eq a k) refl
  where
    by : (c : Bool) → nat_eq a k ≡ c → option_map_or (λ (b : Below). b) (cond c None (under a bs)) (alone a) ≡
        cond c (alone k) (below_at bs a)
    by true e = ap alone (same_number a k e)
    by false e = refl

-- a relative name more, and one fewer
swapped : (a b : Bool) → (a ≡ true → b ≡ true → ⊥) → (v w : ℕ) (o : Option ℕ) → cond b (Some w) (cond a (Some v) o) ≡
    cond a (Some v) (cond b (Some w) o)
swapped true true apart v w o = absurd (apart refl refl)
swapped true false apart v w o = refl
swapped false b apart v w o = refl

pub among_put : (r : RdnModel) (v : ℕ) (x : List TypeAndKey) (names : List (RdnModel × ℕ)) →
    number_among x (insert_entry digested_order names r v) ≡ cond (are_same_keys x r.keys) (Some v)
    (number_among x names)
among_put r v x [] = refl
among_put r v x (e ∷ es) = by (digested_order r e.0) refl (among_put r v x es)
  where
    one : (o : Ordering) → digested_order r e.0 ≡ o → is_eq o ≡ true → r.keys ≡ e.0.keys
    one o f g = (part_decides r.keys e.0.keys).0 (digested_ties r e.0 ∙ ap is_eq f ∙ g)

    apart : (o : Ordering) → digested_order r e.0 ≡ o → is_eq o ≡ false → are_same_keys x r.keys ≡ true →
        are_same_keys x e.0.keys ≡ true → ⊥
    apart o f g u w =
        let same : r.keys ≡ e.0.keys = sym ((part_decides x r.keys).0 u) ∙ (part_decides x e.0.keys).0 w in
        let on : are_same_keys r.keys e.0.keys ≡ true = (part_decides r.keys e.0.keys).1 same in
        let off : are_same_keys r.keys e.0.keys ≡ false = digested_ties r e.0 ∙ ap is_eq f ∙ g in
        cc (on, off)

    flat : (b : Bool) (o : Option ℕ) → cond b (Some v) o ≡ cond b (Some v) (cond b (Some e.1) o)
    flat true o = refl
    flat false o = refl

    by : (o : Ordering) → digested_order r e.0 ≡ o → number_among x (insert_entry digested_order es r v) ≡
        cond (are_same_keys x r.keys) (Some v) (number_among x es)
        → number_among x (match_ordering o ((r, v) ∷ e ∷ es) ((e.0, v) ∷ es) (e ∷ insert_entry digested_order es r v))
        ≡ cond (are_same_keys x r.keys) (Some v) (cond (are_same_keys x e.0.keys) (Some e.1) (number_among x es))
    by Ordering.Less f ih = refl
    by Ordering.Equal f ih =
        let same : r.keys ≡ e.0.keys = one Ordering.Equal f refl in
        flat (are_same_keys x e.0.keys) (number_among x es) ∙ ap (λ (k : List TypeAndKey). cond (are_same_keys x k)
        (Some v) (cond (are_same_keys x e.0.keys) (Some e.1) (number_among x es))) (sym same)
    by Ordering.Greater f ih =
        ap (λ (o : Option ℕ). cond (are_same_keys x e.0.keys) (Some e.1) o) ih
        ∙ swapped (are_same_keys x r.keys) (are_same_keys x e.0.keys) (apart Ordering.Greater f refl) v e.1
        (number_among x es)

among-ahead : (r : RdnModel) (names : List (RdnModel × ℕ)) → IsAhead digested_order r names →
    number_among r.keys names ≡ None
among-ahead r [] h = refl
among-ahead r (e ∷ es) h = ap (λ (b : Bool). cond b (Some e.1) (number_among r.keys es)) (digested_ties r e.0
    ∙ ap is_eq h.0) ∙ among-ahead r es h.1

pub among_out : (r : RdnModel) (x : List TypeAndKey) (names : List (RdnModel × ℕ)) → Rises digested_order names →
    number_among x (remove_entry (is_at (digested_order r)) names) ≡ cond (are_same_keys x r.keys) None
    (number_among x names)
among_out r x [] h = by (are_same_keys x r.keys)
  where
    none : Option ℕ
    none = None

    by : (b : Bool) → none ≡ cond b none none
    by true = refl
    by false = refl
among_out r x (e ∷ es) h =
    ap (λ (b : Bool). number_among x (cond b es (e ∷ remove_entry (is_at (digested_order r)) es)))
    (sym (digested_ties r e.0)) ∙ by (are_same_keys r.keys e.0.keys) refl (among_out r x es h.1)
  where
    first : r.keys ≡ e.0.keys → (b : Bool) → are_same_keys x r.keys ≡ b → number_among x es ≡
        cond b None (cond b (Some e.1) (number_among x es))
    first s true f = ap (λ (k : List TypeAndKey). number_among k es) ((part_decides x r.keys).0 f ∙ s)
        ∙ among-ahead e.0 es h.0
    first s false f = refl

    past : (a b : Bool) (o p : Option ℕ) → (a ≡ true → b ≡ true → ⊥) → o ≡ cond a None p → cond b (Some e.1) o ≡
        cond a None (cond b (Some e.1) p)
    past true true o p never g = absurd (never refl refl)
    past true false o p never g = g
    past false true o p never g = refl
    past false false o p never g = g

    by : (b : Bool) → are_same_keys r.keys e.0.keys ≡ b → number_among x (remove_entry (is_at (digested_order r))
        es) ≡ cond (are_same_keys x r.keys) None (number_among x es)
        → number_among x (cond b es (e ∷ remove_entry (is_at (digested_order r)) es)) ≡ cond (are_same_keys x r.keys)
        None (cond (are_same_keys x e.0.keys) (Some e.1) (number_among x es))
    by true f ih =
        let s : r.keys ≡ e.0.keys = (part_decides r.keys e.0.keys).0 f in
        first s (are_same_keys x r.keys) refl ∙ ap (λ (k : List TypeAndKey). cond (are_same_keys x r.keys) None
        (cond (are_same_keys x k) (Some e.1) (number_among x es))) s
    by false f ih = past (are_same_keys x r.keys) (are_same_keys x e.0.keys)
        (number_among x (remove_entry (is_at (digested_order r)) es)) (number_among x es) never ih
      where
        never : are_same_keys x r.keys ≡ true → are_same_keys x e.0.keys ≡ true → ⊥
        never u w =
            let same : r.keys ≡ e.0.keys = sym ((part_decides x r.keys).0 u) ∙ (part_decides x e.0.keys).0 w in
            let on : are_same_keys r.keys e.0.keys ≡ true = (part_decides r.keys e.0.keys).1 same in
            cc (on, f)

-- one number's record changed, seen by steps and by sets
module _ (b b' : ℕ → Below) (k : ℕ) (w : Below) (put : (a : ℕ) → b' a ≡ cond (nat_eq a k) w (b a)) where
  pub put_steps : (t : List TypeAndKey → Bool) (o : Option ℕ) → ((x : List TypeAndKey) → number_among x w.names ≡
      cond (t x) o (number_among x (b k).names))
      → (a : ℕ) (x : List TypeAndKey) → number_among x (b' a).names ≡ cond (nat_eq a k && t x) o
      (number_among x (b a).names)
  put_steps t o h a x = ap (λ (v : Below). number_among x v.names) (put a) ∙ by (nat_eq a k) refl
    where
      by : (c : Bool) → nat_eq a k ≡ c → number_among x (cond c w (b a)).names ≡ cond (c && t x) o
          (number_among x (b a).names)
      by true e = h x ∙ ap (λ (m : ℕ). cond (t x) o (number_among x (b m).names)) (sym (same_number a k e))
      by false e = refl

  pub put_names : w.names ≡ (b k).names → (a : ℕ) → (b' a).names ≡ (b a).names
  put_names h a = ap (λ (v : Below). v.names) (put a) ∙ by (nat_eq a k) refl
    where
      by : (c : Bool) → nat_eq a k ≡ c → (cond c w (b a)).names ≡ (b a).names
      by true e = h ∙ ap (λ (m : ℕ). (b m).names) (sym (same_number a k e))
      by false e = refl

  pub put_children : w.children ≡ (b k).children → (a : ℕ) → (b' a).children ≡ (b a).children
  put_children h a = ap (λ (v : Below). v.children) (put a) ∙ by (nat_eq a k) refl
    where
      by : (c : Bool) → nat_eq a k ≡ c → (cond c w (b a)).children ≡ (b a).children
      by true e = h ∙ ap (λ (m : ℕ). (b m).children) (sym (same_number a k e))
      by false e = refl

  pub put_within : w.within ≡ (b k).within → (a : ℕ) → (b' a).within ≡ (b a).within
  put_within h a = ap (λ (v : Below). v.within) (put a) ∙ by (nat_eq a k) refl
    where
      by : (c : Bool) → nat_eq a k ≡ c → (cond c w (b a)).within ≡ (b a).within
      by true e = h ∙ ap (λ (m : ℕ). (b m).within) (sym (same_number a k e))
      by false e = refl

  pub more_children : (t : ℕ → Bool) → ((j : ℕ) → has_number j w.children ≡ (t j || has_number j (b k).children)) →
      (a j : ℕ) → has_number j (b' a).children ≡ ((nat_eq a k && t j) || has_number j (b a).children)
  more_children t h a j = ap (λ (v : Below). has_number j v.children) (put a) ∙ by (nat_eq a k) refl
    where
      by : (c : Bool) → nat_eq a k ≡ c → has_number j (cond c w (b a)).children ≡
          ((c && t j) || has_number j (b a).children)
      by true e = h j ∙ ap (λ (m : ℕ). t j || has_number j (b m).children) (sym (same_number a k e))
      by false e = refl

  pub fewer_children : (t : ℕ → Bool) →
      ((j : ℕ) → has_number j w.children ≡ (not (t j) && has_number j (b k).children)) → (a j : ℕ) →
      has_number j (b' a).children ≡ (not (nat_eq a k && t j) && has_number j (b a).children)
  fewer_children t h a j = ap (λ (v : Below). has_number j v.children) (put a) ∙ by (nat_eq a k) refl
    where
      by : (c : Bool) → nat_eq a k ≡ c → has_number j (cond c w (b a)).children ≡
          (not (c && t j) && has_number j (b a).children)
      by true e = h j ∙ ap (λ (m : ℕ). not (t j) && has_number j (b m).children) (sym (same_number a k e))
      by false e = refl

  pub more_within : (t : ℕ → Bool) → ((j : ℕ) → has_number j w.within ≡ (t j || has_number j (b k).within)) →
      (a j : ℕ) → has_number j (b' a).within ≡ ((nat_eq a k && t j) || has_number j (b a).within)
  more_within t h a j = ap (λ (v : Below). has_number j v.within) (put a) ∙ by (nat_eq a k) refl
    where
      by : (c : Bool) → nat_eq a k ≡ c → has_number j (cond c w (b a)).within ≡
          ((c && t j) || has_number j (b a).within)
      by true e = h j ∙ ap (λ (m : ℕ). t j || has_number j (b m).within) (sym (same_number a k e))
      by false e = refl

  pub fewer_within : (t : ℕ → Bool) → ((j : ℕ) → has_number j w.within ≡ (not (t j) && has_number j (b k).within)) →
      (a j : ℕ) → has_number j (b' a).within ≡ (not (nat_eq a k && t j) && has_number j (b a).within)
  fewer_within t h a j = ap (λ (v : Below). has_number j v.within) (put a) ∙ by (nat_eq a k) refl
    where
      by : (c : Bool) → nat_eq a k ≡ c → has_number j (cond c w (b a)).within ≡
          (not (c && t j) && has_number j (b a).within)
      by true e = h j ∙ ap (λ (m : ℕ). not (t j) && has_number j (b m).within) (sym (same_number a k e))
      by false e = refl

-- a child more or fewer in a record below a number
pub child_steps : (b b' : ℕ → Below) (k : ℕ) (w : Below) → ((a : ℕ) → b' a ≡ cond (nat_eq a k) w (b a)) →
    (old : List (RdnModel × ℕ)) → old ≡ (b k).names → (r q : RdnModel) → q ≡ r → (v : ℕ) →
    w.names ≡ insert_entry digested_order old q v
    → (a : ℕ) (x : List TypeAndKey) → number_among x (b' a).names ≡ cond (nat_eq a k && are_same_keys x r.keys)
    (Some v) (number_among x (b a).names)
child_steps b b' k w put old is r q e v h =
    put_steps b b' k w put (λ x. are_same_keys x r.keys) (Some v)
    (λ x. ap (number_among x) (h ∙ ap (λ (m : RdnModel). insert_entry digested_order old m v) e)
    ∙ among_put r v x old ∙ ap (λ (l : List (RdnModel × ℕ)). cond (are_same_keys x r.keys) (Some v)
    (number_among x l)) is)

pub child_out_steps : (b b' : ℕ → Below) (k : ℕ) (w : Below) → ((a : ℕ) → b' a ≡ cond (nat_eq a k) w (b a)) →
    (old : List (RdnModel × ℕ)) → old ≡ (b k).names → (r q : RdnModel) → q ≡ r → Rises digested_order old →
    w.names ≡ remove_entry (is_at (digested_order q)) old
    → (a : ℕ) (x : List TypeAndKey) → number_among x (b' a).names ≡ cond (nat_eq a k && are_same_keys x r.keys) None
    (number_among x (b a).names)
child_out_steps b b' k w put old is r q e rise h =
    put_steps b b' k w put (λ x. are_same_keys x r.keys) None
    (λ x. ap (number_among x) (h ∙ ap (λ (m : RdnModel). remove_entry (is_at (digested_order m)) old) e)
    ∙ among_out r x old rise ∙ ap (λ (l : List (RdnModel × ℕ)). cond (are_same_keys x r.keys) None
    (number_among x l)) is)

pub child_more : (b b' : ℕ → Below) (k : ℕ) (w : Below) → ((a : ℕ) → b' a ≡ cond (nat_eq a k) w (b a)) →
    (old : List ℕ) → old ≡ (b k).children → (v : ℕ) → w.children ≡ insert_key nat_cmp old v
    → (a j : ℕ) → has_number j (b' a).children ≡ ((nat_eq a k && nat_eq j v) || has_number j (b a).children)
child_more b b' k w put old is v h = more_children b b' k w put (λ j. nat_eq j v) (λ j. ap (has_number j) h
    ∙ has-put j v old ∙ ap (λ (l : List ℕ). nat_eq j v || has_number j l) is)

pub child_fewer : (b b' : ℕ → Below) (k : ℕ) (w : Below) → ((a : ℕ) → b' a ≡ cond (nat_eq a k) w (b a)) →
    (old : List ℕ) → old ≡ (b k).children → (v : ℕ) → IsRising old → w.children ≡ remove_key (is_at (nat_cmp v)) old
    → (a j : ℕ) → has_number j (b' a).children ≡ (not (nat_eq a k && nat_eq j v) && has_number j (b a).children)
child_fewer b b' k w put old is v rise h = fewer_children b b' k w put (λ j. nat_eq j v) (λ j. ap (has_number j) h
    ∙ has-out j v old rise ∙ ap (λ (l : List ℕ). not (nat_eq j v) && has_number j l) is)

-- sets as they grow and shrink number by number
pub joined_step : (j n : ℕ) (rest rest' set set' more old : Bool) → rest ≡ (nat_eq j n || rest') →
    set' ≡ (nat_eq j n || set) → (rest || set) ≡ (more || old) → (rest' || set') ≡ (more || old)
joined_step j n rest rest' set set' more old e f h = ap (λ (b : Bool). rest' || b) f ∙ by (nat_eq j n) rest' set
    ∙ sym (ap (λ (b : Bool). b || set) e) ∙ h
  where
    by : (a b c : Bool) → (b || (a || c)) ≡ ((a || b) || c)
    by true true c = refl
    by true false c = refl
    by false b c = refl

pub parted_step : (j n : ℕ) (rest rest' set set' fewer old : Bool) → rest ≡ (nat_eq j n || rest') →
    set' ≡ (not (nat_eq j n) && set) → (not rest && set) ≡ (not fewer && old) → (not rest' && set') ≡ (not fewer && old)
parted_step j n rest rest' set set' fewer old e f h = ap (λ (b : Bool). not rest' && b) f ∙ by (nat_eq j n) rest' set
    ∙ sym (ap (λ (b : Bool). not b && set) e) ∙ h
  where
    by : (a b c : Bool) → (not b && (not a && c)) ≡ (not (a || b) && c)
    by true true c = refl
    by true false c = refl
    by false b c = refl
