-- Which records come next.
use Rattle.std.proofs.Common.{◌≡◌, ◌≢◌, ℕ, ◌<◌, ◌≤◌, ◌+◌, ◌-◌, min, List, [], ◌∷◌, ◌++◌, length, take, drop, Result, Ok, Err, refl, sym, ap, ap₂, ◌∙◌, arith, append_assoc, take-append-drop}
use Rattle.std.specs.Prelude.{OnErr}
use Rattle.std.proofs.lemmas.List.{length-take, length-drop, take_all, take-take, drop-take}
use Rattle.std.proofs.Math.ListN.{drop_of_length-le}
use Rattle.dir_store.specs.directory_api.log_entry.declared.words.LogEntry.{LogEntry}
use Rattle.dir_store.specs.ldap_op.Values.{OpValue}
use Rattle.state_machine.specs.Executing.{IsFront}

-- nothing is left past the end
pub none_due : {A : Type 0} (n k e : ℕ) (xs : List A) → e ≡ min k (length xs) → e ≤ n → drop n (take k xs) ≡ []
none_due n k e xs is h = drop_of_length-le (take k xs) (omega (arith, length-take k xs, is, h))

some_left : {A : Type 0} (i : ℕ) (xs : List A) → i < length xs → drop i xs ≢ []
some_left i xs h e = omega (arith, h, length-drop i xs, ap length e)

-- some were executed, and more are left
pub stops : (i : ℕ) (old due new : List (LogEntry OpValue)) → new ≡ old ++ take i due → i < length due →
    IsFront old due new
stops i old due new e h = record {
  done = take i due;
  left = drop i due;
  both = take-append-drop i due;
  grown = e;
  more = some_left i due h;
}

-- all were executed
pub ends : (i : ℕ) (old due new : List (LogEntry OpValue)) → new ≡ old ++ take i due → length due ≤ i → new ≡ old ++ due
ends i old due new e h = e ∙ ap (λ l. old ++ l) (take_all i due h)

-- ---- piece by piece

take_on : {A : Type 0} (i k : ℕ) (xs : List A) → take i xs ++ take k (drop i xs) ≡ take (i + k) xs
take_on i k xs = ap₂ (λ a b. a ++ b) (sym (take-take i (i + k) xs (omega arith))) (sym (drop-take i k xs))
    ∙ take-append-drop i (take (i + k) xs)

up_to : (i e : ℕ) → i ≤ e → i + (e - i) ≡ e
up_to i e h = omega (arith, h)

-- one more piece was executed
pub grows : (i e : ℕ) (old due mid new : List (LogEntry OpValue)) → i ≤ e → mid ≡ old ++ take i due →
    new ≡ mid ++ take (e - i) (drop i due) → new ≡ old ++ take e due
grows i e old due mid new h m n =
    n ∙ ap (λ l. l ++ take (e - i) (drop i due)) m
    ∙ append_assoc old (take i due) (take (e - i) (drop i due))
    ∙ ap (λ l. old ++ l) (take_on i (e - i) due ∙ ap (λ k. take k due) (up_to i e h))

front_none : {A : Type 0} (xs ys : List A) → xs ++ ys ≡ [] → xs ≡ []
front_none [] ys h = refl
front_none (x ∷ xs) ys h = absurd (cc h)

-- a piece was executed in part
pub stops_within : (i k : ℕ) (old due mid new : List (LogEntry OpValue)) → mid ≡ old ++ take i due →
    IsFront mid (take k (drop i due)) new → IsFront old due new
stops_within i k old due mid new m f = record {
  done = take i due ++ f.done;
  left = f.left ++ drop k (drop i due);
  both =
      append_assoc (take i due) f.done (f.left ++ drop k (drop i due))
      ∙ ap (λ l. take i due ++ l) (sym (append_assoc f.done f.left (drop k (drop i due)))
      ∙ ap (λ l. l ++ drop k (drop i due)) f.both ∙ take-append-drop k (drop i due))
      ∙ take-append-drop i due;
  grown = f.grown ∙ ap (λ l. l ++ f.done) m ∙ append_assoc old (take i due) f.done;
  more = λ none. f.more (front_none f.left (drop k (drop i due)) none);
}

-- what holds holds where there is an error
pub where_err : {A E : Type 0} (r : Result A E) (P : Type 0) → P → OnErr r P
where_err (Ok x) P p = tt
where_err (Err e) P p = p
