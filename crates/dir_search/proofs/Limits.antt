-- The size limit: where a search stops, and what it has shown by then. Entries are found by their numbers.
use Rattle.std.proofs.Common.{◌≡◌, ◌<◌, ◌≤◌, ◌+◌, ◌-◌, ℕ, zero, suc, Bool, true, false, cond, ◌&&◌, nat_lt, nat_eq, List, [], ◌∷◌, ◌++◌, length, map, take, drop, refl, sym, ap, ◌∙◌, subst, arith, length-append, append_assoc, Option, None, Some}
use Rattle.std.specs.Prelude.{is_some}
use Rattle.std.specs.List.{slice_get}
use Rattle.std.proofs.lemmas.Bool.Decides.{nat_tests}
use Rattle.std.proofs.lemmas.List.{take_at, append-nil, length-drop}
use Rattle.std.proofs.lemmas.Option.{slice_get_past}
use Rattle.indexed_tree.specs.directory_api.ldap_msg.Messages.{SearchResultEntryValue}
use Rattle.indexed_tree.specs.ldap_schema.Schema.{SchemaModel}
use Rattle.indexed_tree.specs.dir_entry.Entry.{IsKeyedBy}
use Rattle.indexed_tree.specs.dir_tree.Directory.{Entered, entry_at}
use Rattle.indexed_tree.specs.Directory.{NamedEntry}
use Rattle.indexed_tree.specs.Stored.{named, AreKeyedBy}
use Rattle.dir_search.specs.Answer.{limited}
use Rattle.indexed_tree.specs.directory_api.Answers.{Answer}
use Rattle.dir_search.specs.private.Looks.{AreHere}
use Rattle.dir_search.specs.private.Numbered.{put_some, entries_of}

-- what is shown of the entries of numbers
abbrev pub shown_of : (NamedEntry → SearchResultEntryValue) → List Entered → List ℕ → List SearchResultEntryValue
shown_of show d ks = map show (map named (entries_of ks d))

-- what is shown of the entries so far, and that it is within the limit; the numbers that are left
pub record SoFar (show : NamedEntry → SearchResultEntryValue) (d : List Entered) (limit : ℕ) (all left : List ℕ)
    (shown : List SearchResultEntryValue) : Type 0 where
  pub is : shown ++ shown_of show d left ≡ shown_of show d all
  pub left_is : left ≡ drop (length shown) all
  pub here : AreHere d left
  pub within : 0 < limit → length shown ≤ limit

-- more entries than the limit
pub limited_past : (limit : ℕ) (xs : List SearchResultEntryValue) (x : SearchResultEntryValue)
    (ys : List SearchResultEntryValue) → 0 < limit → length xs ≡ limit → limited limit (xs ++ x ∷ ys) ≡
    record { code = 4; matched = []; entries = xs }
limited_past limit xs x ys pos size =
    let long : length (xs ++ x ∷ ys) ≡ limit + suc (length ys) = omega (arith, length-append xs (x ∷ ys), size) in
    let a : nat_lt 0 limit ≡ true = grind (arith, nat_tests) in
    let b : nat_lt limit (length (xs ++ x ∷ ys)) ≡ true = grind (arith, nat_tests) in
    let all = xs ++ x ∷ ys in
    let c : (nat_lt 0 limit && nat_lt limit (length all)) ≡ true = ap (λ (v : Bool). v && nat_lt limit (length all)) a
    ∙ b in
    let P : Bool → Answer = λ v. cond v (record { code = 4; matched = []; entries = take limit all })
    (record { code = 0; matched = []; entries = all }) in
    let front : take limit all ≡ xs = take_at xs (x ∷ ys) limit size in
    ap P c ∙ ap (λ (l : List SearchResultEntryValue). record { code = 4; matched = []; entries = l }) front

-- no more than the limit, or none is set
pub limited_within : (limit : ℕ) (xs : List SearchResultEntryValue) → (0 < limit → length xs ≤ limit) →
    limited limit xs ≡ record { code = 0; matched = []; entries = xs }
limited_within zero xs within = refl
limited_within (suc n) xs within =
    let le : length xs ≤ suc n = within (omega arith) in
    let a : nat_lt 0 (suc n) ≡ true = grind (arith, nat_tests) in
    let b : nat_lt (suc n) (length xs) ≡ false = grind (arith, nat_tests) in
    let c : (nat_lt 0 (suc n) && nat_lt (suc n) (length xs)) ≡ false = ap (λ (v : Bool). v
    && nat_lt (suc n) (length xs)) a ∙ b in
    let P : Bool → Answer = λ v. cond v (record { code = 4; matched = []; entries = take (suc n) xs })
    (record { code = 0; matched = []; entries = xs }) in
    ap P c

-- a list that goes on with a number, at the place of that number
record IsNext (all : List ℕ) (k n : ℕ) (left : List ℕ) : Type 0 where
  rest : left ≡ drop (suc k) all
  here : slice_get all k ≡ Some n

next_at : (all : List ℕ) (k n : ℕ) (left : List ℕ) → n ∷ left ≡ drop k all → IsNext all k n left
next_at [] zero n left h = absurd (cc h)
next_at [] (suc k) n left h = absurd (cc h)
next_at (x ∷ all) zero n left h = record { rest = cc; here = cc }
next_at (x ∷ all) (suc k) n left h = let p : IsNext all k n left = next_at all k n left h in record
    { rest = p.rest; here = p.here }

-- what is shown of an entry that is there is one, and stands in front of the rest
one_more : (show : NamedEntry → SearchResultEntryValue) (d : List Entered) (n : ℕ) (left : List ℕ) →
    shown_of show d (n ∷ left) ≡ shown_of show d (n ∷ []) ++ shown_of show d left
one_more show d n left = by (entry_at n d)
  where
    by : (o : Option Entered) → map show (map named (put_some o (entries_of left d))) ≡
        map show (map named (put_some o [])) ++ shown_of show d left
    by None = refl
    by (Some e) = refl

just_one : (show : NamedEntry → SearchResultEntryValue) (d : List Entered) (n : ℕ) → is_some (entry_at n d) ≡ true →
    length (shown_of show d (n ∷ [])) ≡ 1
just_one show d n here = by (entry_at n d) here
  where
    by : (o : Option Entered) → is_some o ≡ true → length (map show (map named (put_some o []))) ≡ 1
    by None h = absurd (cc h)
    by (Some e) h = refl

pub begins : (show : NamedEntry → SearchResultEntryValue) (d : List Entered) (limit : ℕ) (all : List ℕ) →
    AreHere d all → SoFar show d limit all all []
begins show d limit all here = record { is = refl; left_is = refl; here = here; within = λ pos. omega arith }

module _ (show : NamedEntry → SearchResultEntryValue) (d : List Entered) (limit : ℕ) (all left : List ℕ)
    (shown : List SearchResultEntryValue) (n : ℕ) where
  -- the entry of a number is shown, below the limit
  pub shows : SoFar show d limit all (n ∷ left) shown → (after : List SearchResultEntryValue) →
      after ≡ shown ++ shown_of show d (n ∷ []) → (0 < limit → length shown ≡ limit → ⊥) → SoFar show d limit all left
      after
  shows so_far after is below =
      let step : IsNext all (length shown) n left = next_at all (length shown) n left so_far.left_is in
      let size : length after ≡ suc (length shown) = ap length is ∙ length-append shown (shown_of show d (n ∷ []))
      ∙ omega (arith, just_one show d n so_far.here.0) in
      record {
        is =
            ap (λ (l : List SearchResultEntryValue). l ++ shown_of show d left) is
            ∙ append_assoc shown (shown_of show d (n ∷ [])) (shown_of show d left)
            ∙ ap (λ (l : List SearchResultEntryValue). shown ++ l) (sym (one_more show d n left))
            ∙ so_far.is;
        left_is = step.rest ∙ ap (λ (k : ℕ). drop k all) (sym size);
        here = so_far.here.1;
        within = λ pos. let le = so_far.within pos in let ne = below pos in omega (arith, size, le, ne);
      }

  -- an entry past the limit
  pub stops : SoFar show d limit all (n ∷ left) shown → 0 < limit → length shown ≡ limit →
      limited limit (shown_of show d all) ≡ record { code = 4; matched = []; entries = shown }
  stops so_far pos size =
      past (shown_of show d (n ∷ [])) (just_one show d n so_far.here.0)
      (ap (λ (l : List SearchResultEntryValue). shown ++ l) (sym (one_more show d n left)) ∙ so_far.is)
    where
      past : (ones : List SearchResultEntryValue) → length ones ≡ 1 → shown ++ (ones ++ shown_of show d left) ≡
          shown_of show d all → limited limit (shown_of show d all) ≡ record { code = 4; matched = []; entries = shown }
      past [] one is = absurd (omega (arith, one))
      past (x ∷ xs) one is = ap (limited limit) (sym is) ∙ limited_past limit shown x (xs ++ shown_of show d left) pos
          size

  -- it stands at the limit's place
  pub stops_at : SoFar show d limit all (n ∷ left) shown → length shown ≡ limit → slice_get all limit ≡ Some n
  stops_at so_far size =
      let step : IsNext all (length shown) n left = next_at all (length shown) n left so_far.left_is in
      sym (ap (slice_get all) size) ∙ step.here

-- all are shown
pub ends : (show : NamedEntry → SearchResultEntryValue) (d : List Entered) (limit : ℕ) (all : List ℕ)
    (shown : List SearchResultEntryValue) → SoFar show d limit all [] shown
    → limited limit (shown_of show d all) ≡ record { code = 0; matched = []; entries = shown }
ends show d limit all shown so_far =
    let same : shown ≡ shown_of show d all = sym (append-nil shown) ∙ so_far.is in
    ap (limited limit) (sym same) ∙ limited_within limit shown so_far.within

-- none stands at the limit's place
pub ends_before : (show : NamedEntry → SearchResultEntryValue) (d : List Entered) (limit : ℕ) (all : List ℕ)
    (shown : List SearchResultEntryValue) → SoFar show d limit all [] shown
    → 0 < limit → slice_get all limit ≡ None
ends_before show d limit all shown so_far pos =
    let none : length (drop (length shown) all) ≡ 0 = sym (ap length so_far.left_is) in
    let size : length (drop (length shown) all) ≡ length all - length shown = length-drop (length shown) all in
    let le : length shown ≤ limit = so_far.within pos in
    slice_get_past all limit (omega (arith, none, size, le))

-- the keys of the entry of a number are those of the schema
pub keyed_at : (s : SchemaModel) (d : List Entered) (k : ℕ) (x : Entered) → AreKeyedBy s d → entry_at k d ≡ Some x →
    IsKeyedBy s x.entry
keyed_at s [] k x keyed h = absurd (cc h)
keyed_at s (e ∷ es) k x keyed h = by (nat_eq k e.number) (keyed_at s es k x keyed.1) h
  where
    by : (b : Bool) → (entry_at k es ≡ Some x → IsKeyedBy s x.entry) → cond b (Some e) (entry_at k es) ≡ Some x →
        IsKeyedBy s x.entry
    by true ih h = let same : e ≡ x = cc h in subst (λ (y : Entered). IsKeyedBy s y.entry) same keyed.0
    by false ih h = ih h
