-- What follows from the calls that were noted of a file: what a read gives is one of the things that a crash may leave,
-- and time goes on with each call.
use Rattle.std.proofs.Common.{◌≡◌, ◌⊎◌, inl, inr, ℕ, ◌+◌, ◌<◌, ◌≤◌, Bool, true, false, ◌&&◌, nat_lt, List, [], ◌∷◌, ◌++◌, length, replicate, refl, sym, ap, ◌∙◌, subst, arith}
use Rattle.std.specs.Prelude.{not}
use Rattle.std.proofs.lemmas.List.{append-nil}
use Rattle.journal.specs.Device as journal
use Rattle.journal.specs.Memory.{Event, nothing, write, grow, settle, written, seen_after, MayLeave, LeftSince}
use Rattle.journal.proofs.Mixing.{written_mixed, lost_mixed}
use Rattle.view_store.specs.Device as view
use Rattle.view_store.specs.Memory.{Event as ViewEvent, nothing as view_nothing, write as view_write, settle as view_settle, written as view_written, seen_after as view_seen, MayLeave as ViewMayLeave, LeftSince as ViewLeftSince}
use Rattle.view_store.proofs.Images.{holds_torn}
use Rattle.file_device.specs.History.{History, octets_of}
use Rattle.file_device.specs.private.Within.{are_within, begin_within}

-- what is read as a file is opened
pub joined_octets : (h new : History) (piece : List ℕ) → h.events ≡ [] → new ≡ record h { base = h.base ++ piece } →
    octets_of new ≡ octets_of h ++ piece
joined_octets h new piece none e =
    ap octets_of e ∙ ap (seen_after (h.base ++ piece)) none
    ∙ sym (ap (λ (es : List Event). seen_after h.base es ++ piece) none)

pub joined_within : (h new : History) (piece : List ℕ) → h.events ≡ [] → new ≡ record h { base = h.base ++ piece } →
    are_within new.base new.events ≡ true
joined_within h new piece none e = ap (λ (k : History). are_within k.base k.events) e
    ∙ ap (are_within (h.base ++ piece)) none

both : (a b : Bool) → (a && b) ≡ true → (a ≡ true) × (b ≡ true)
both true b e = (refl, e)
both false b e = absurd (cc e)

-- a place that isn't past an end
no_less : (n m : ℕ) → not (nat_lt n m) ≡ true → m ≤ n
no_less n m e = grind (arith, e)

-- what a read of a journal gives, a crash may leave
pub seen_is_left : (base : List ℕ) (events : List Event) → are_within base events ≡ true →
    MayLeave base events (seen_after base events)
seen_is_left base [] w = refl
seen_is_left base (nothing ∷ older) w = seen_is_left base older w
seen_is_left base (write at octets true ∷ older) w =
    let p = both (not (nat_lt (length (seen_after base older)) (at + length octets))) (are_within base older) w in (
      seen_after base older,
      seen_is_left base older p.1,
      written_mixed at octets (seen_after base older) (no_less
          (length (seen_after base older)) (at + length octets) p.0),
    )
seen_is_left base (write at octets false ∷ older) w =
    let p = both (not (nat_lt (length (seen_after base older)) (at + length octets))) (are_within base older) w in (
      seen_after base older,
      seen_is_left base older p.1,
      lost_mixed at octets (seen_after base older) (no_less
          (length (seen_after base older)) (at + length octets) p.0),
    )
seen_is_left base (grow octets true ∷ older) w = (seen_after base older, seen_is_left base older w, refl)
seen_is_left base (grow octets false ∷ older) w = (
  seen_after base older,
  seen_is_left base older w,
  record {
    count =
        0;
    within = omega arith;
    is = sym (append-nil (seen_after base older));
  },
)
seen_is_left base (settle ∷ older) w = refl

-- a call more
pub goes_on : (base : List ℕ) (e : Event) (older : List Event) → journal.Elapses (length older) (length (e ∷ older))
    (LeftSince base older) (LeftSince base (e ∷ older)) (MayLeave base (e ∷ older))
goes_on base e older = record {
  later = omega arith;
  nothing_else = λ t c le l. first t c l;
  keeps = λ t c le l. inr l;
}
  where
    first : (t : ℕ) (c : List ℕ) → LeftSince base (e ∷ older) t c → LeftSince base older t c
        ⊎ MayLeave base (e ∷ older) c
    first t c (inl now) = inr now.1
    first t c (inr then) = inl then

-- what a read of a stored view gives, a crash may leave
pub view_is_left : (base : List ℕ) (events : List ViewEvent) → begin_within base events ≡ true →
    ViewMayLeave base events (view_seen base events)
view_is_left base [] w = refl
view_is_left base (view_nothing ∷ older) w = view_is_left base older w
view_is_left base (view_write at octets true ∷ older) w =
    let p = both (not (nat_lt (length (view_seen base older)) at)) (begin_within base older) w in (
      view_seen base older,
      view_is_left base older p.1,
      holds_torn (view_seen base older) (view_written at octets
          (view_seen base older)) octets at (no_less (length (view_seen base older)) at p.0) refl,
    )
view_is_left base (view_write at octets false ∷ older) w =
    let p = both (not (nat_lt (length (view_seen base older)) at)) (begin_within base older) w in (
      view_seen base older,
      view_is_left base older p.1,
      record {
        before = refl;
        after = refl;
        no_shorter =
            omega arith;
        no_longer = omega arith;
      },
    )
view_is_left base (view_settle ∷ older) w = refl

-- a call more
pub view_goes_on : (base : List ℕ) (e : ViewEvent) (older : List ViewEvent) → view.Elapses (length older)
    (length (e ∷ older)) (ViewLeftSince base older) (ViewLeftSince base (e ∷ older)) (ViewMayLeave base (e ∷ older))
view_goes_on base e older = record {
  later = omega arith;
  nothing_else = λ t c le l. first t c l;
  keeps = λ t c le l. inr l;
}
  where
    first : (t : ℕ) (c : List ℕ) → ViewLeftSince base (e ∷ older) t c → ViewLeftSince base older t c
        ⊎ ViewMayLeave base (e ∷ older) c
    first t c (inl now) = inr now.1
    first t c (inr then) = inl then
