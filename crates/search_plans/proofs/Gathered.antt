-- Lists that are gathered, one after another.
use Rattle.std.proofs.Common.{◌≡◌, Result, Ok, Err, OnOk, ℕ, zero, suc, arith, ◌<◌, Bool, true, false, ◌&&◌, List, [], ◌∷◌, length, get_or, sym, ◌∙◌}
use Rattle.std.specs.List.{list_all}
use Rattle.dir_index.specs.Postings.{has_number}
use Rattle.search_plans.specs.private.Streams.{Gathers, GathersAll}
pub use Rattle.search_plans.proofs.Rising.{any_map}
use Rattle.search_plans.proofs.Started.{and_left}

-- lists that have all numbers that pass
pub gathers_all : (passes : ℕ → Bool) (scope : List ℕ) (ls after : List (List ℕ)) (xs : List ℕ) →
    GathersAll xs ls after → ((n : ℕ) → passes n ≡ has_number n xs)
    → Gathers passes scope ls after
gathers_all passes scope ls after xs have is = record {
  keeps = (have scope).keeps;
  covers = λ n s h. (have scope).covers n s (sym (is n) ∙ h);
}

-- the same numbers in another list
pub gathers_same : (ls after : List (List ℕ)) (xs ys : List ℕ) → ((n : ℕ) → has_number n xs ≡ has_number n ys) →
    GathersAll xs ls after → GathersAll ys ls after
gathers_same ls after xs ys is have scope = gathers_all (λ n. has_number n ys) scope ls after xs have (λ n. sym (is n))

-- lists that have the scope have all that passes within it
pub gathers_scope : (passes : ℕ → Bool) (scope : List ℕ) (ls after : List (List ℕ)) → GathersAll scope ls after →
    Gathers passes scope ls after
gathers_scope passes scope ls after have = record {
  keeps = (have scope).keeps;
  covers = λ n s h. (have scope).covers
      n s s;
}

-- lists for what passes more
pub gathers_weaker : (p q : ℕ → Bool) (scope : List ℕ) (ls after : List (List ℕ)) →
    ((n : ℕ) → q n ≡ true → p n ≡ true) → Gathers p scope ls after → Gathers q scope ls after
gathers_weaker p q scope ls after f g = record { keeps = g.keeps; covers = λ n s h. g.covers n s (f n h) }

and_right : (a b : Bool) → (a && b) ≡ true → b ≡ true
and_right true b h = h
and_right false b h = cc

-- what passes all passes each
pub all_at : {X : Type 0} (p : X → Bool) (xs : List X) (i : ℕ) (d : X) → i < length xs → list_all p xs ≡ true →
    p (get_or xs i d) ≡ true
all_at p [] i d lt h = absurd (omega arith)
all_at p (x ∷ xs) zero d lt h = and_left _ _ h
all_at p (x ∷ xs) (suc i) d lt h = all_at p xs i d (omega arith) (and_right _ _ h)

pub on_ok_weaker : {A E : Type 0} (P Q : Type 0) → (P → Q) → (r : Result A E) → OnOk r P → OnOk r Q
on_ok_weaker P Q f (Ok x) h = f h
on_ok_weaker P Q f (Err e) h = tt
