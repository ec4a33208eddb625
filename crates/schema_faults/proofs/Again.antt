-- Names that come again, found from the front.
use Rattle.std.proofs.Common.{◌≡◌, ◌++◌, ◌||◌, ◌+◌, ◌<◌, ℕ, List, [], ◌∷◌, Bool, true, false, cond, Option, Some, is_some, Vec, Global, map, take, length, get_or, refl, sym, ap, ◌∙◌}
use Rattle.std.specs.Char.{to_ascii_lowercase}
use Rattle.std.specs.Str.{bytes_eq}
use Rattle.std.proofs.lemmas.List.{take_more, map-append}
use Rattle.std.proofs.lemmas.List.Folds.{list_any-append}
use Rattle.schema_meaning.specs.Naming.{is_name_among}
use Rattle.schema_meaning.specs.private.Octets.{has_folded}
use Rattle.schema_faults.specs.Repeats.{again}
pub use Rattle.schema_meaning.proofs.Before.{opened, line_lookup, line_put}

some_or : (b : Bool) (o : Option ℕ) → is_some (cond b (Some 0) o) ≡ (b || is_some o)
some_or true o = refl
some_or false o = refl

turned_round : (a b : Bool) → (a || b) ≡ (b || (a || false))
turned_round true true = refl
turned_round true false = refl
turned_round false true = refl
turned_round false false = refl

-- one more name that was seen
pub one_more_seen : (f g : List ℕ → Option ℕ) (before : List (List ℕ)) (n : List ℕ) →
    ((q : List ℕ) → g q ≡ cond (bytes_eq q (map to_ascii_lowercase n)) (Some 0) (f q))
    → ((q : List ℕ) → is_some (f q) ≡ has_folded q before) → (q : List ℕ) → is_some (g q) ≡ has_folded q
    (before ++ n ∷ [])
one_more_seen f g before n put seen q =
    ap is_some (put q)
    ∙ some_or (bytes_eq q (map to_ascii_lowercase n)) (f q)
    ∙ ap (λ b. bytes_eq q (map to_ascii_lowercase n) || b) (seen q)
    ∙ turned_round (bytes_eq q (map to_ascii_lowercase n)) (has_folded q before)
    ∙ sym (list_any-append (λ m. bytes_eq q (map to_ascii_lowercase m)) before (n ∷ []))

-- the names up to a place, and the one there
pub front_more : (names : List (Vec ℕ Global)) (i : ℕ) (x : Vec ℕ Global) → i < length names → x ≡ get_or names i x
    → map (λ v. v.items) (take (i + 1) names) ≡ map (λ v. v.items) (take i names) ++ x.items ∷ []
front_more names i x lt is =
    ap (map (λ (v : Vec ℕ Global). v.items)) (take_more names i x lt
    ∙ ap (λ (y : Vec ℕ Global). take i names ++ y ∷ []) (sym is))
    ∙ map-append (λ (v : Vec ℕ Global). v.items) (take i names) (x ∷ [])

pub goes_past : (before : List (List ℕ)) (n : List ℕ) (ns : List (List ℕ)) → is_name_among before n ≡ false →
    again before (n ∷ ns) ≡ again (before ++ n ∷ []) ns
goes_past before n ns e = rw e refl

pub comes_again : (before : List (List ℕ)) (n : List ℕ) (ns : List (List ℕ)) → is_name_among before n ≡ true →
    again before (n ∷ ns) ≡ Some n
comes_again before n ns e = rw e refl
