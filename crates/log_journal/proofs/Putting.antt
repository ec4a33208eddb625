-- Notes that are put one behind the other.
use Rattle.std.proofs.Common.{◌≡◌, ◌<◌, ◌≤◌, ◌+◌, ℕ, Bool, true, false, cond, List, [], ◌∷◌, ◌++◌, length, map, take, get_or, refl, sym, ap, ◌∙◌, subst, append_assoc, lt-ltb, le-ltb}
use Rattle.std.proofs.lemmas.List.{append-nil, map-append, map_more, take_all}
use Rattle.ldap_op.specs.Values.{OpValue}
use Rattle.vr_state.specs.State.{State, is_normal}
use Rattle.vr_state.specs.Journaled as journaled
use Rattle.log_journal.specs.Fields.{Fields}
use Rattle.log_journal.specs.Notes.{Note, Step, IsNoteIn, Puts}
use Rattle.log_journal.specs.private.Notes.{PutsFields}
use Rattle.log_journal.specs.Refused.{HasNoRoom}
use Rattle.log_journal.specs.private.Refused.{HasNoRoomFor}
use Rattle.log_journal.specs.Steps.{grown, adopted, entered, only_grew, notes_since}
use Rattle.log_journal.specs.declared.steps.Before.{Before}
use Rattle.log_journal.proofs.ToldOn.{spell_both}

-- the fields of one note
pub one_put : (x : Note) (f : Fields) (old new : List (List ℕ)) → PutsFields f old new → IsNoteIn x f →
    Puts (x ∷ []) old new
one_put x f old new h note = record {
  strings = h.string ∷ [];
  is = h.is;
  spelled =
      (record { fields = f; read = h.read; note = note }, tt);
}

-- no room for the fields of one note
pub one_full : (x : Note) (f : Fields) (old : List (List ℕ)) → HasNoRoomFor f old → IsNoteIn x f → HasNoRoom x old
one_full x f old h note = record {
  string = h.string;
  spells = record { fields = f; read = h.read; note = note };
  long = h.long;
}

-- nothing is put
pub none_put : (old : List (List ℕ)) → Puts [] old old
none_put old = record { strings = []; is = sym (append-nil old); spelled = tt }

-- notes, and then others
pub both_put : (xs ys : List Note) (a b c : List (List ℕ)) → Puts xs a b → Puts ys b c → Puts (xs ++ ys) a c
both_put xs ys a b c h k = record {
  strings = h.strings ++ k.strings;
  is = k.is ∙ ap (λ (l : List (List ℕ)). l ++ k.strings) h.is ∙ append_assoc a h.strings k.strings;
  spelled = spell_both xs ys h.strings k.strings h.spelled k.spelled;
}

-- a loop's next note
pub more_put : {X : Type 0} (f : X → Note) (xs : List X) (i : ℕ) (d : X) (a b c : List (List ℕ)) → i < length xs →
    Puts (map f (take i xs)) a b → Puts (f (get_or xs i d) ∷ []) b c → Puts (map f (take (i + 1) xs)) a c
more_put f xs i d a b c lt h k = subst (λ (l : List Note). Puts l a c) (sym (map_more f xs i d lt))
    (both_put (map f (take i xs)) (f (get_or xs i d) ∷ []) a b c h k)

-- a loop's notes at its end
pub all_put : {X : Type 0} (f : X → Note) (xs : List X) (i : ℕ) (a b : List (List ℕ)) → length xs ≤ i →
    Puts (map f (take i xs)) a b → Puts (map f xs) a b
all_put {X} f xs i a b le h = subst (λ (l : List X). Puts (map f l) a b) (take_all i xs le) h

twice : {X : Type 0} (g : X → journaled.Note OpValue) (xs : List X) → map (λ x. Step x) (map g xs) ≡
    map (λ x. Step (g x)) xs
twice g [] = refl
twice g (x ∷ xs) = ap (λ (l : List Note). Step (g x) ∷ l) (twice g xs)

-- what steps note, as notes
pub steps_put : {X : Type 0} (g : X → journaled.Note OpValue) (xs : List X) (a b : List (List ℕ)) →
    Puts (map (λ x. Step (g x)) xs) a b → Puts (map (λ x. Step x) (map g xs)) a b
steps_put g xs a b h = subst (λ (l : List Note). Puts l a b) (sym (twice g xs)) h

-- records that wait, and then that they are adopted
pub adopted_put : {X : Type 0} (g : X → journaled.Note OpValue) (xs : List X) (y : journaled.Note OpValue)
    (a b c : List (List ℕ)) → Puts (map (λ x. Step (g x)) xs) a b → Puts (Step y ∷ []) b c →
    Puts (map (λ x. Step x) (map g xs ++ y ∷ [])) a c
adopted_put g xs y a b c h k = subst (λ (l : List Note). Puts l a c)
    (sym (map-append (λ x. Step x) (map g xs) (y ∷ []))) (both_put (map (λ x. Step x) (map g xs)) (Step y ∷ []) a b c
    (steps_put g xs a b h) k)

-- a view that grew, and one that didn't
pub entered_put : (before view : ℕ) (a b : List (List ℕ)) → before < view → Puts (Step (journaled.Enter view) ∷ []) a
    b → Puts (map (λ x. Step x) (entered before view)) a b
entered_put before view a b lt h =
    subst (λ (t : Bool). Puts (map (λ x. Step x) (cond t (journaled.Enter view ∷ []) [])) a b)
    (sym (lt-ltb before view lt)) h

pub not_entered : (before view : ℕ) (a : List (List ℕ)) → view ≤ before →
    Puts (map (λ x. Step x) (entered before view)) a a
not_entered before view a le = subst (λ (t : Bool). Puts (map (λ x. Step x) (cond t (journaled.Enter view ∷ []) [])) a
    a) (sym (le-ltb before view le)) (none_put a)

module _ (before : Before) (base : ℕ) (s : State OpValue) (a b : List (List ℕ)) where
  -- the three cases of a step
  pub step_entered : is_normal s.status ≡ false → Puts (map (λ x. Step x) (entered before.view_number s.view_number))
      a b → Puts (map (λ x. Step x) (notes_since before base s)) a b
  step_entered t h = subst (λ (v : Bool).
      Puts (map (λ x. Step x) (cond v (cond (only_grew before s) (grown before.length s) (adopted base s))
      (entered before.view_number s.view_number))) a b) (sym t) h

  pub step_grown : is_normal s.status ≡ true → only_grew before s ≡ true →
      Puts (map (λ x. Step x) (grown before.length s)) a b → Puts (map (λ x. Step x) (notes_since before base s)) a b
  step_grown t u h = subst (λ (v : Bool).
      Puts (map (λ x. Step x) (cond v (cond (only_grew before s) (grown before.length s) (adopted base s))
      (entered before.view_number s.view_number))) a b) (sym t)
      (subst (λ (v : Bool). Puts (map (λ x. Step x) (cond v (grown before.length s) (adopted base s))) a b) (sym u) h)

  pub step_adopted : is_normal s.status ≡ true → only_grew before s ≡ false →
      Puts (map (λ x. Step x) (adopted base s)) a b → Puts (map (λ x. Step x) (notes_since before base s)) a b
  step_adopted t u h = subst
      (λ (v : Bool). Puts (map (λ x. Step x)
      (cond v (cond (only_grew before s) (grown before.length s) (adopted base s))
      (entered before.view_number s.view_number))) a b) (sym t)
      (subst (λ (v : Bool). Puts (map (λ x. Step x) (cond v (grown before.length s) (adopted base s))) a b) (sym u) h)
