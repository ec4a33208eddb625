-- Since which place values are held, after a change of the map.
use Rattle.std.proofs.Common.{zero, suc, Result, Ok, Err, OnOk, map, ◌≡◌, ◌<◌, ◌+◌, ℕ, Bool, true, false, cond, ◌||◌, List, [], ◌∷◌, Option, Some, None, refl, sym, ap, ◌∙◌, Vec, Global, take, length, get_or}
use Rattle.std.specs.List.{list_any, list_all}
use Rattle.dir_entry.proofs.Shown.{any_of_map}
use Rattle.dir_entry.proofs.Keyed.{list_all-map}
use Rattle.std.specs.Ordering.{is_eq, nat_cmp}
use Rattle.std.specs.Cmp.Lexicographic.{slice_cmp}
use Rattle.std.specs.Map.{lookup, remove_entry}
use Rattle.std.specs.Str.{bytes_eq}
use Rattle.std.proofs.lemmas.Slice.Eq.{bytes_eq-Decides}
use Rattle.std.proofs.lemmas.Map.Text.{is_eq-slice_cmp}
use Rattle.std.proofs.lemmas.List.{take_more}
use Rattle.std.proofs.lemmas.List.Folds.{list_any-append}
use Rattle.entry_changes.specs.Opening.{since}
pub use Rattle.dir_entry.proofs.ldap_words.NumbersKept.{number_lookup as since_lookup, number_put as since_put}

abbrev Reached : Type 0
Reached = List (Vec ℕ Global × ℕ)

-- octets that are taken out
pub since_take : (ns : List ℕ) (es new : Reached) →
    new ≡ remove_entry (λ (k : Vec ℕ Global). is_eq (slice_cmp nat_cmp ns k.items)) es →
    lookup (λ (k : Vec ℕ Global). is_eq (slice_cmp nat_cmp ns k.items)) new ≡ None → (q : List ℕ)
    → since new q ≡ cond (bytes_eq q ns) None (since es q)
since_take ns es new e gone q = by (bytes_eq q ns) refl
  where
    others : (l : Reached) → bytes_eq q ns ≡ false →
        since (remove_entry (λ (k : Vec ℕ Global). is_eq (slice_cmp nat_cmp ns k.items)) l) q ≡ since l q
    others [] off = refl
    others (x ∷ l) off = either (is_eq (slice_cmp nat_cmp ns x.0.items)) refl (others l off)
      where
        either : (b : Bool) → is_eq (slice_cmp nat_cmp ns x.0.items) ≡ b →
            since (remove_entry (λ (k : Vec ℕ Global). is_eq (slice_cmp nat_cmp ns k.items)) l) q ≡ since l q
            → since (cond b l (x ∷ remove_entry (λ (k : Vec ℕ Global). is_eq (slice_cmp nat_cmp ns k.items)) l)) q ≡
            cond (bytes_eq q x.0.items) (Some x.1) (since l q)
        either true f rest =
            let same : ns ≡ x.0.items = (bytes_eq-Decides ns x.0.items).0 (sym (is_eq-slice_cmp ns x.0.items) ∙ f) in
            sym (ap (λ (b : Bool). cond b (Some x.1) (since l q)) (ap (bytes_eq q) (sym same) ∙ off))
        either false f rest = ap (λ (o : Option ℕ). cond (bytes_eq q x.0.items) (Some x.1) o) rest

    by : (b : Bool) → bytes_eq q ns ≡ b → since new q ≡ cond b None (since es q)
    by true f = ap (since new) ((bytes_eq-Decides q ns).0 f) ∙ sym (since_lookup ns new) ∙ gone
    by false f = ap (λ (l : Reached). since l q) e ∙ others es f

-- one more of the octets that are put or taken out
pub since_more : {A : Type 0} (items : A → List ℕ) (xs : List A) (i : ℕ) (d : A) (x : List ℕ) (w : Option ℕ)
    (old so_far new : List ℕ → Option ℕ) → i < length xs → x ≡ items (get_or xs i d)
    → ((q : List ℕ) → so_far q ≡ cond (list_any (λ o. bytes_eq q (items o)) (take i xs)) w (old q))
    → ((q : List ℕ) → new q ≡ cond (bytes_eq q x) w (so_far q))
    → (q : List ℕ) → new q ≡ cond (list_any (λ o. bytes_eq q (items o)) (take (i + 1) xs)) w (old q)
since_more items xs i d x w old so_far new lt is before step q =
    step q ∙ ap (cond (bytes_eq q x) w) (before q)
    ∙ cond_or (bytes_eq q x) (list_any (λ o. bytes_eq q (items o)) (take i xs)) (old q)
    ∙ ap (λ (y : List ℕ). cond (list_any (λ o. bytes_eq q (items o)) (take i xs) || (bytes_eq q y || false)) w
    (old q)) is
    ∙ ap (λ (b : Bool). cond b w (old q)) (sym (list_any-append (λ o. bytes_eq q (items o)) (take i xs)
    (get_or xs i d ∷ [])))
    ∙ ap (λ (l : List _). cond (list_any (λ o. bytes_eq q (items o)) l) w (old q)) (sym (take_more xs i d lt))
  where
    cond_or : (b a : Bool) (o : Option ℕ) → cond b w (cond a w o) ≡ cond (a || (b || false)) w o
    cond_or true true o = refl
    cond_or true false o = refl
    cond_or false true o = refl
    cond_or false false o = refl

-- octets behind references
pub some_of_octets : {A : Type 0} (items : A → List ℕ) (p : List ℕ → Bool) (xs ys : List A) (os : List (List ℕ)) →
    xs ≡ ys → map items ys ≡ os → list_any (λ o. p (items o)) xs ≡ list_any p os
some_of_octets items p xs ys os e h = ap (λ (l : List _). list_any (λ o. p (items o)) l) e
    ∙ sym (any_of_map p items ys) ∙ ap (list_any p) h

pub all_of_octets : {A : Type 0} (items : A → List ℕ) (p : List ℕ → Bool) (xs ys : List A) (os : List (List ℕ)) →
    xs ≡ ys → map items ys ≡ os → list_all (λ o. p (items o)) xs ≡ list_all p os
all_of_octets items p xs ys os e h = ap (λ (l : List _). list_all (λ o. p (items o)) l) e
    ∙ sym (list_all-map p items ys) ∙ ap (list_all p) h

pub on_ok : {A E P Q : Type 0} (r : Result A E) → (P → Q) → OnOk r P → OnOk r Q
on_ok (Ok a) f h = f h
on_ok (Err e) f h = h

none_taken : {A : Type 0} (p : A → Bool) (xs : List A) (i : ℕ) → list_any p xs ≡ false → list_any p (take i xs) ≡ false
none_taken p [] zero none = refl
none_taken p [] (suc i) none = refl
none_taken p (x ∷ xs) zero none = refl
none_taken p (x ∷ xs) (suc i) none = by (p x) none (none_taken p xs i)
  where
    by : (b : Bool) → (b || list_any p xs) ≡ false → (list_any p xs ≡ false → list_any p (take i xs) ≡ false) →
        (b || list_any p (take i xs)) ≡ false
    by true h rest = h
    by false h rest = rest h

-- what is put at some places leaves what is at others
pub stays : {A : Type 0} (p : A → Bool) (xs : List A) (i v : ℕ) (new old : Option ℕ) → list_any p xs ≡ false →
    new ≡ cond (list_any p (take i xs)) (Some v) old → new ≡ old
stays p xs i v new old none e = e ∙ ap (λ (b : Bool). cond b (Some v) old) (none_taken p xs i none)
