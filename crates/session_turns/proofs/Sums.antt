-- The sum stays what is posted of all, whatever sessions come to hold.
use Rattle.std.proofs.Common.{◌≡◌, ◌≤◌, ◌<◌, ℕ, zero, suc, ◌+◌, ◌-◌, List, [], ◌∷◌, Bool, true, false, cond, nat_lt, length, refl, arith, sym, ap, ◌∙◌}
use Rattle.std.proofs.lemmas.Bool.Decides.{nat_tests}
use Rattle.session_turns.specs.declared.posting.BudgetChange.TheVariants.{Stays, Adds, Gives}
use Rattle.session_turns.specs.Posted.{changed, change, all, at, with, Sum, Event, after, after_all, AreWithin, nothing, at_first, UsedIsPosted}

with_length : (ns : List ℕ) (p held : ℕ) → length (with ns p held) ≡ length ns
with_length [] p held = refl
with_length (n ∷ ns) zero held = refl
with_length (n ∷ ns) (suc p) held = ap suc (with_length ns p held)

-- what is posted of one is within the sum of all
at_within : (ns : List ℕ) (p : ℕ) → at ns p ≤ all ns
at_within [] p = omega arith
at_within (n ∷ ns) zero = omega arith
at_within (n ∷ ns) (suc p) = let h : at ns p ≤ all ns = at_within ns p in omega arith

-- the sum of all, where one comes to hold so much
with_sum : (ns : List ℕ) (p held : ℕ) → p < length ns → all (with ns p held) + at ns p ≡ all ns + held
with_sum [] p held h = absurd (omega arith)
with_sum (n ∷ ns) zero held h = omega arith
with_sum (n ∷ ns) (suc p) held h =
    let within : p < length ns = omega arith in
    let e : all (with ns p held) + at ns p ≡ all ns + held = with_sum ns p held within in omega arith

changed_sum : (used posted held : ℕ) → posted ≤ used → changed used (change posted held) + posted ≡ used + held
changed_sum used posted held h = by (nat_lt posted held) (nat_lt held posted) refl refl
  where
    by : (more less : Bool) → nat_lt posted held ≡ more → nat_lt held posted ≡ less →
        changed used (cond more (Adds (held - posted)) (cond less (Gives (posted - held)) Stays)) + posted ≡ used + held
    by true less e f = grind (arith, nat_tests, e)
    by false true e f = grind (arith, nat_tests, e, f)
    by false false e f = grind (arith, nat_tests, e, f)

-- the sum is what is posted of all
abbrev IsSum : Sum → Type 0
IsSum s = s.used ≡ all s.posted

after_sum : (e : Event) (s : Sum) → e.place < length s.posted → IsSum s → IsSum (after e s)
after_sum e s within h =
    let less : at s.posted e.place ≤ s.used = rw h (at_within s.posted e.place) in
    let one : changed s.used (change (at s.posted e.place) e.held) + at s.posted e.place ≡ s.used + e.held =
    changed_sum s.used (at s.posted e.place) e.held less in
    let two : all (with s.posted e.place e.held) + at s.posted e.place ≡ all s.posted + e.held = with_sum s.posted
    e.place e.held within in
    omega (arith, one, two, h)

all_sum : (es : List Event) (s : Sum) (size : ℕ) → length s.posted ≡ size → AreWithin es size → IsSum s →
    IsSum (after_all es s)
all_sum [] s size same within h = h
all_sum (e ∷ es) s size same within h =
    all_sum es (after e s) size (with_length s.posted e.place e.held ∙ same) within.1
    (after_sum e s (rw same within.0) h)

nothing_length : (size : ℕ) → length (nothing size) ≡ size
nothing_length zero = refl
nothing_length (suc size) = ap suc (nothing_length size)

nothing_sum : (size : ℕ) → 0 ≡ all (nothing size)
nothing_sum zero = refl
nothing_sum (suc size) = let h : 0 ≡ all (nothing size) = nothing_sum size in omega arith

pub law : UsedIsPosted
law size events within = all_sum events (at_first size) size (nothing_length size) within (nothing_sum size)
