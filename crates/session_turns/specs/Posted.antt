-- The sum of what sessions hold. What is posted of each comes in, with what one comes to hold; the sum comes out.
use Rattle.std.specs.Prelude.{◌≡◌, ◌<◌, ℕ, zero, suc, ◌+◌, ◌-◌, List, [], ◌∷◌, cond, nat_lt, length}
use Rattle.session_turns.specs.declared.posting.BudgetChange.{BudgetChange}
use Rattle.session_turns.specs.declared.posting.BudgetChange.TheVariants.{Stays, Adds, Gives}

-- a number after a change
abbrev pub changed : ℕ → BudgetChange → ℕ
changed n Stays = n
changed n (Adds more) = n + more
changed n (Gives less) = n - less

-- the change that makes of what is posted what is held
abbrev pub change : ℕ → ℕ → BudgetChange
change posted held = cond (nat_lt posted held) (Adds (held - posted))
    (cond (nat_lt held posted) (Gives (posted - held)) Stays)

-- the sum of all
abbrev pub all : List ℕ → ℕ
all [] = 0
all (n ∷ ns) = n + all ns

-- what is posted of the session at a place; 0, where there is none
abbrev pub at : List ℕ → ℕ → ℕ
at [] p = 0
at (n ∷ ns) zero = n
at (n ∷ ns) (suc p) = at ns p

-- it holds so much
abbrev pub with : List ℕ → ℕ → ℕ → List ℕ
with [] p held = []
with (n ∷ ns) zero held = held ∷ ns
with (n ∷ ns) (suc p) held = n ∷ with ns p held

-- the sum, beside what is posted of each session
pub record Sum : Type 0 where
  pub used : ℕ
  pub posted : List ℕ

-- a session at a place comes to hold so much
pub record Event : Type 0 where
  pub place : ℕ
  pub held : ℕ

-- the sum changes by the difference, and so much is posted then
abbrev pub after : Event → Sum → Sum
after e s = record {
  used = changed s.used (change (at s.posted e.place) e.held);
  posted = with s.posted e.place
      e.held;
}

-- many do so, one after the other
abbrev pub after_all : List Event → Sum → Sum
after_all [] s = s
after_all (e ∷ es) s = after_all es (after e s)

-- each is of a session at one of so many places
abbrev pub AreWithin : List Event → ℕ → Type 0
AreWithin [] size = Unit {0}
AreWithin (e ∷ es) size = (e.place < size) × AreWithin es size

-- nothing is posted of so many
abbrev pub nothing : ℕ → List ℕ
nothing zero = []
nothing (suc size) = 0 ∷ nothing size

-- the sum at the beginning
abbrev pub at_first : ℕ → Sum
at_first size = record { used = 0; posted = nothing size }

-- Whatever sessions come to hold, in any order, the sum is what is posted of all of them.
abbrev pub UsedIsPosted : Type 0
UsedIsPosted = (size : ℕ) (events : List Event) → AreWithin events size →
    (after_all events (at_first size)).used ≡ all (after_all events (at_first size)).posted
