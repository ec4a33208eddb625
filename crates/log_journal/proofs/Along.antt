-- A journal goes along with its replica.
use Rattle.std.proofs.Common.{◌≡◌, ◌++◌, inl, inr, ⊎_elim, ℕ, List, [], ◌∷◌, take, Result, refl, sym, ap, ◌∙◌, subst, arith}
use Rattle.std.specs.declared.alloc.AllocError.{AllocError}
use Rattle.journal.specs.Device.{Elapses, LeavesOnly, Only}
use Rattle.journal.specs.Frames.{recorded}
use Rattle.journal.specs.Journal.{IsGrown, IsSettled}
use Rattle.ldap_op.specs.Values.{OpValue}
use Rattle.vr_state.specs.State.{State}
use Rattle.vr_state.specs.declared.event.Event.{Event}
use Rattle.vr_state.specs.declared.message.Outputs.{Outputs}
use Rattle.log_journal.specs.Batches.{ToldGoesOn}
use Rattle.log_journal.specs.Kept.{IsMemory, IsMemoryOfTaken}
use Rattle.log_journal.specs.Taken.{TakesAll, TakenIsTold, IsTold}
use Rattle.log_journal.specs.Told.{Told, Tells, nothing_told}

module _ {D : Type 0} (moment : D → ℕ) (left_since : D → ℕ → List ℕ → Type 0) where
  -- no call, or one after which a crash leaves what it would have left
  pub started : (old : D) (P : List ℕ → Type 0) → ((c : List ℕ) → left_since old (moment old) c → P c) →
      LeavesOnly moment left_since old old P
  started old P here = record { later = omega arith; each = here; before = λ t c le left. inl left }

  pub goes_on : (old mid new : D) (P may_leave : List ℕ → Type 0) → LeavesOnly moment left_since old mid P →
      Elapses (moment mid) (moment new) (left_since mid) (left_since new) may_leave
      → ((c : List ℕ) → may_leave c → P c) → LeavesOnly moment left_since old new P
  goes_on old mid new P may_leave so_far time here = record {
    later = omega (arith, so_far.later, time.later);
    each = λ c left. ⊎_elim (so_far.each c) (here c) (time.nothing_else (moment old) c so_far.later left);
    before = λ t c le left. ⊎_elim (so_far.before t c le) (λ now. inr (here c now))
        (time.nothing_else t c (omega (arith, le, so_far.later)) left);
  }

  -- a run after another
  pub chained : (old mid new : D) (P : List ℕ → Type 0) → LeavesOnly moment left_since old mid P →
      LeavesOnly moment left_since mid new P → LeavesOnly moment left_since old new P
  chained old mid new P a b = record {
    later = omega (arith, a.later, b.later);
    each = λ c left. ⊎_elim (a.each c) (λ p. p) (b.before (moment old) c a.later left);
    before = λ t c le left. ⊎_elim (a.before t c le) (λ p. inr p) (b.before t c (omega (arith, le, a.later)) left);
  }

  -- a run that leaves what has P leaves what has Q
  pub weaker : (old new : D) (P Q : List ℕ → Type 0) → ((c : List ℕ) → P c → Q c) → LeavesOnly moment left_since old
      new P → LeavesOnly moment left_since old new Q
  weaker old new P Q h a = record {
    later = a.later;
    each = λ c left. h c (a.each c left);
    before = λ t c le left. ⊎_elim (λ x. inl x) (λ p. inr (h c p)) (a.before t c le left);
  }

-- an image that is read as before has grown by none
pub none_grown : (old new : List (List ℕ)) (image : List ℕ) → recorded image ≡ old → IsGrown old new image
none_grown old new image e = record { count = 0; within = omega arith; is = e ∙ sym (nothing old) }
  where
    nothing : (xs : List (List ℕ)) → xs ++ take 0 new ≡ xs
    nothing [] = refl
    nothing (x ∷ xs) = ap (λ (l : List (List ℕ)). x ∷ l) (nothing xs)

module _ (on : ToldGoesOn) (law : TakenIsTold) (t : Told) (n i : ℕ) (r s : State OpValue) (es : List (Event OpValue))
    (xs : List (Result (Outputs OpValue) AllocError))
    (before batch : List (List ℕ)) (taken : TakesAll n i r es xs s [] batch) (m : IsMemory t r before) where
  told : IsTold n i r es s (record t { kept = m.kept }) [] batch
  told = law n i r s es xs [] batch taken (record t { kept = m.kept }) m.of m.none_waits

  -- after the batch
  pub remembered : (after : List (List ℕ)) → after ≡ before ++ batch → IsMemory t s after
  remembered after e = record {
    kept = told.kept;
    tells = subst (λ (l : List (List ℕ)). Tells nothing_told l (record t { kept = told.kept }))
        (sym (e ∙ ap (λ (l : List (List ℕ)). before ++ l) told.is))
        (on before told.strings nothing_told (record t { kept = m.kept }) (record t { kept = told.kept }) m.tells
        told.tells);
    of = told.all;
    none_waits = told.none_waits;
  }

  -- after a crash in it
  pub after_crash : (image : List ℕ) → IsGrown before batch image → IsMemoryOfTaken t n i r es (recorded image)
  after_crash image g = record {
    kept = (told.some g.count).0;
    tells = subst (λ (l : List (List ℕ)). Tells nothing_told l (record t { kept = (told.some g.count).0 }))
        (sym (g.is ∙ ap (λ (l : List (List ℕ)). before ++ take g.count l) told.is))
        (on before (take g.count told.strings) nothing_told (record t { kept = m.kept })
        (record t { kept = (told.some g.count).0 }) m.tells (told.some g.count).1);
    of = (told.some g.count).2;
  }

-- where nothing is taken the first of no events is kept
pub unchanged : (t : Told) (n i : ℕ) (r : State OpValue) (es : List (Event OpValue)) (strings : List (List ℕ)) →
    IsMemory t r strings → IsMemoryOfTaken t n i r es strings
unchanged t n i r es strings m = record {
  kept = m.kept;
  tells = m.tells;
  of = record {
    taken = [];
    some = tt;
    kept =
        record { count = 0; kept = m.of };
  };
}

module _ {D : Type 0} (seen : D → List ℕ) (may_leave : D → List ℕ → Type 0) (moment : D → ℕ) (left_since : D → ℕ →
    List ℕ → Type 0) (t : Told) (n i : ℕ) (r : State OpValue) (es : List (Event OpValue)) (d : D)
    (m : IsMemory t r (recorded (seen d))) where
  -- no device is called
  pub crash_before : Only (seen d) (may_leave d) → ((c : List ℕ) → left_since d (moment d) c → may_leave d c) →
      LeavesOnly moment left_since d d (λ c. IsMemoryOfTaken t n i r es (recorded c))
  crash_before only now = started moment left_since d (λ c. IsMemoryOfTaken t n i r es (recorded c))
      (λ c left. unchanged t n i r es (recorded c) (subst (λ (l : List ℕ). IsMemory t r (recorded l))
      (sym (only c (now c left))) m))

  -- a batch is settled, or that fails
  pub crash_within : ToldGoesOn → TakenIsTold → (new : D) (s : State OpValue)
      (xs : List (Result (Outputs OpValue) AllocError)) (none batch : List (List ℕ)) → none ≡ [] →
      TakesAll n i r es xs s none batch →
      LeavesOnly moment left_since d new (IsGrown (recorded (seen d)) batch) → LeavesOnly moment left_since d new
      (λ c. IsMemoryOfTaken t n i r es (recorded c))
  crash_within on law new s xs none batch e taken run = weaker moment left_since d new
      (IsGrown (recorded (seen d)) batch) (λ c. IsMemoryOfTaken t n i r es (recorded c))
      (λ c g. after_crash on law t n i r s es xs (recorded (seen d)) batch
      (subst (λ (l : List (List ℕ)). TakesAll n i r es xs s l batch) e taken) m c g) run

  -- after the batch
  pub memory_after : ToldGoesOn → TakenIsTold → (s : State OpValue) (xs : List (Result (Outputs OpValue) AllocError))
      (none batch after : List (List ℕ)) → none ≡ [] → TakesAll n i r es xs s none batch →
      after ≡ recorded (seen d) ++ batch → IsMemory t s after
  memory_after on law s xs none batch after e taken is = remembered on law t n i r s es xs (recorded (seen d)) batch
      (subst (λ (l : List (List ℕ)). TakesAll n i r es xs s l batch) e taken) m after is

-- a call that changes nothing leaves a journal held
pub still_held : (seen now : List ℕ) (may_leave leaves : List ℕ → Type 0) (end : ℕ) →
    IsSettled seen may_leave (recorded seen) end → now ≡ seen → ((c : List ℕ) → leaves c → may_leave c) →
    IsSettled now leaves (recorded now) end
still_held seen now may_leave leaves end h e less = subst (λ (l : List ℕ). IsSettled l leaves (recorded l) end)
    (sym e) (record { image = h.image; durable = λ c left. h.durable c (less c left) })

-- a journal holds what it is read as
pub held_after : (seen : List ℕ) (may_leave : List ℕ → Type 0) (strings : List (List ℕ)) (end : ℕ) →
    IsSettled seen may_leave strings end → recorded seen ≡ strings → IsSettled seen may_leave (recorded seen) end
held_after seen may_leave strings end h e = subst (λ (l : List (List ℕ)). IsSettled seen may_leave l end) (sym e) h
