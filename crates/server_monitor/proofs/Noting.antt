-- Notes that stand for lines.
use Rattle.std.proofs.Common.{◌≡◌, ℕ, zero, suc, ◌<◌, ◌≤◌, List, [], ◌∷◌, ◌++◌, length, refl, sym, ap, ◌∙◌, subst, append-nil, append_assoc, length-append, arith}
use Rattle.std.proofs.lemmas.List.Elements.{All-push}
use Rattle.server_monitor.specs.Lines.{LinesValue, EndsWith, NoteValue, line, dropped, StandsFor, StandFor, HasDropped, first, further, HasSaid, again, kept, no_place, one_more, perhaps_dropped}

-- the last note stands for one line more
pub last_more : (before : List NoteValue) (n m : NoteValue) (said : List (List ℕ)) (text : List ℕ)
    → ((front : List (List ℕ)) → StandsFor n front → StandsFor m (front ++ text ∷ []))
    → StandFor (before ++ n ∷ []) said → StandFor (before ++ m ∷ []) (said ++ text ∷ [])
last_more [] n m said text more (front, rest, split, own, others) =
    let all : said ≡ front = split ∙ (ap (λ r. front ++ r) others ∙ append-nil front) in
    (front ++ text ∷ [], [], ap (λ s. s ++ text ∷ []) all ∙ sym (append-nil (front ++ text ∷ [])), more front own, refl)
last_more (b ∷ bs) n m said text more (front, rest, split, own, others) = (
  front,
  rest ++ text ∷ [],
  ap (λ s. s ++ text ∷ []) split ∙ append_assoc front rest (text ∷
      []),
  own,
  last_more bs n m rest text more others,
)

-- a note at the end, for one line
pub one_note : (notes : List NoteValue) (n : NoteValue) (said : List (List ℕ)) (text : List ℕ) →
    StandsFor n (text ∷ []) → StandFor notes said
    → StandFor (notes ++ n ∷ []) (said ++ text ∷ [])
one_note [] n said text own stand = (text ∷ [], [], ap (λ s. s ++ text ∷ []) stand, own, refl)
one_note (b ∷ bs) n said text own (front, rest, split, its, others) = (
  front,
  rest ++ text ∷ [],
  ap (λ s. s ++ text ∷ []) split ∙ append_assoc front rest (text ∷
      []),
  its,
  one_note bs n rest text own others,
)

-- the note of some dropped lines
pub some_dropped : (count : ℕ) → 0 < count → perhaps_dropped count ≡ dropped count ∷ []
some_dropped count some = grind arith

-- one more line is dropped
pub one_dropped : (notes : List NoteValue) (count : ℕ) → HasDropped (notes ++ perhaps_dropped count)
    (notes ++ perhaps_dropped (one_more count))
one_dropped notes zero = first (ap (λ ns. ns ++ dropped 1 ∷ []) (sym (append-nil notes)))
one_dropped notes (suc k) =
    further notes (suc k) (ap (λ ns. notes ++ ns) (some_dropped (suc k) (omega arith)))
    (ap (λ ns. notes ++ ns) (some_dropped (one_more (suc k)) (omega arith)))

-- one more of a text stands for one line more
pub once_more : (text : List ℕ) (times : ℕ) (front : List (List ℕ)) → StandsFor (line text times) front →
    StandsFor (line text (one_more times)) (front ++ text ∷ [])
once_more text times front (all, count) =
    (All-push (λ l. l ≡ text) front text all refl, grind (arith, length-append, count))

-- one more dropped line stands for one line more
pub one_less : (text : List ℕ) (count : ℕ) (front : List (List ℕ)) → StandsFor (dropped count) front →
    StandsFor (dropped (one_more count)) (front ++ text ∷ [])
one_less text count front own = grind (arith, length-append)

-- A line that is said is counted: notes that stand for all lines before stand for all with it.
pub counted_all : (most : ℕ) (text : List ℕ) (old new : List NoteValue) (said : List (List ℕ)) →
    HasSaid most text old new → StandFor old said
    → StandFor new (said ++ text ∷ [])
counted_all most text old new said (again before times is_old is_new) stand =
    subst (λ ns. StandFor ns (said ++ text ∷ [])) (sym is_new)
    (last_more before (line text times) (line text (one_more times)) said text (once_more text times)
    (subst (λ ns. StandFor ns said) is_old stand))
counted_all most text old new said (kept other place is_new) stand =
    subst (λ ns. StandFor ns (said ++ text ∷ [])) (sym is_new) (one_note old (line text 1) said text
    (All-push (λ l. l ≡ text) [] text (λ k d below. absurd (omega (below, arith))) refl, refl) stand)
counted_all most text old new said (no_place other none (first is_new)) stand =
    subst (λ ns. StandFor ns (said ++ text ∷ [])) (sym is_new) (one_note old (dropped 1) said text refl stand)
counted_all most text old new said (no_place other none (further before count is_old is_new)) stand =
    subst (λ ns. StandFor ns (said ++ text ∷ [])) (sym is_new)
    (last_more before (dropped count) (dropped (one_more count)) said text (one_less text count)
    (subst (λ ns. StandFor ns said) is_old stand))

-- a line like the last is said
pub said_again : (most : ℕ) (seen text : List ℕ) (old new : LinesValue) (before : List NoteValue) (times : ℕ) →
    seen ≡ text
    → old.notes ≡ before ++ line seen times ∷ [] →
    new ≡ record old { notes = before ++ line seen (one_more times) ∷ [] } → HasSaid most text old.notes new.notes
said_again most seen text old new before times same is_old is_new =
    subst (λ t. HasSaid most t old.notes new.notes) same (again before times is_old (ap (λ v. v.notes) is_new))

-- the last note of what is the same is of no other text
none_ends : (seen text : List ℕ) (old mid : LinesValue) → seen ≡ text → mid ≡ old → (EndsWith seen old.notes → ⊥) →
    EndsWith text mid.notes → ⊥
none_ends seen text old mid same is_mid other ends =
    other (subst (λ t. EndsWith t old.notes) (sym same) (subst (λ v. EndsWith text v.notes) is_mid ends))

-- another line is said, and kept
pub said_kept : (seen text : List ℕ) (old mid new : LinesValue) → seen ≡ text → (EndsWith seen old.notes → ⊥) →
    mid ≡ old → length mid.notes < mid.most
    → new ≡ record mid { notes = mid.notes ++ line text 1 ∷ [] } → HasSaid old.most text old.notes new.notes
said_kept seen text old mid new same other is_mid place is_new =
    subst (λ v. HasSaid v.most text v.notes new.notes) is_mid (kept (none_ends seen text old mid same is_mid other)
    place (ap (λ v. v.notes) is_new))

-- another line is said, and dropped
pub said_dropped : (seen text : List ℕ) (old mid new : LinesValue) → seen ≡ text → (EndsWith seen old.notes → ⊥) →
    mid ≡ old → mid.most ≤ length mid.notes
    → HasDropped mid.notes new.notes → HasSaid old.most text old.notes new.notes
said_dropped seen text old mid new same other is_mid none lost =
    subst (λ v. HasSaid v.most text v.notes new.notes) is_mid
    (no_place (none_ends seen text old mid same is_mid other) none lost)

-- what a count of dropped lines is made of is dropped as one more
pub lost_one : (notes : List NoteValue) (count more : ℕ) (old : LinesValue) → more ≡ one_more count →
    notes ++ perhaps_dropped count ≡ old.notes
    → HasDropped old.notes (notes ++ perhaps_dropped more)
lost_one notes count more old is_more is_old =
    subst (λ o. HasDropped o (notes ++ perhaps_dropped more)) is_old
    (subst (λ m. HasDropped (notes ++ perhaps_dropped count) (notes ++ perhaps_dropped m)) (sym is_more)
    (one_dropped notes count))
