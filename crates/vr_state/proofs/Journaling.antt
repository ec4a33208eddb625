-- Each step is journaled. No rule of the protocol is looked into here.
use Rattle.std.proofs.Common.{◌≡◌, ◌⊎◌, inl, inr, ℕ, zero, suc, ◌+◌, ◌<◌, ◌≤◌, ◌==◌, nat_lt, max, Bool, true, false, not, cond, ◌&&◌, List, [], ◌∷◌, ◌++◌, length, take, drop, map, refl, sym, ap, ap₂, ◌∙◌, subst, arith, eqb-true, ltb-true, true≢false, append_assoc, take-append-drop}
use Rattle.std.proofs.lemmas.Bool.{cases_lt}
use Rattle.std.proofs.lemmas.List.{append-nil, drop_at, drop_all}
use Rattle.std.proofs.Common.{le-ltb, le_refl}
use Rattle.vr_state.specs.Journaled.{Note, Enter, Record, Stage, Adopt, Kept, noted_by, after_notes, notes_of, IsKeptOf, IsJournaled, StepsAreJournaled, IsKeptOfSome, BatchesAreJournaled, after_events, notes_of_all}
use Rattle.vr_state.specs.State.{State, LogEntry, is_normal, is_recovering}
use Rattle.vr_state.specs.Step.{step}
use Rattle.vr_state.specs.StepLaw.{brings_tail, GoesOn}
use Rattle.vr_state.specs.declared.words.Status.{Status}
use Rattle.vr_state.specs.declared.words.Status.TheVariants.{Normal, ViewChange, Recovering}
use Rattle.vr_state.proofs.Goes.{log_goes_on}
use Rattle.vr_state.proofs.Lasts.{last_is_kept}
use Rattle.vr_state.proofs.Steps.{step_keeps}
use Rattle.vr_state.proofs.Tests.{by_test, both_true}

-- who is normal doesn't recover
normal_whole : (s : Status) → is_normal s ≡ true → is_recovering s ≡ false
normal_whole Normal e = refl
normal_whole ViewChange e = refl
normal_whole Recovering e = absurd (true≢false (sym e))

-- a test of not is
not_true : (b : Bool) → not b ≡ true → b ≡ false
not_true true e = absurd (true≢false (sym e))
not_true false e = refl

module _ {P : Type 0} where
  -- records that wait change nothing else
  staging : Kept P → List (LogEntry P) → Kept P
  staging h xs = record h { staged = h.staged ++ xs }

  staged_is : (h : Kept P) (xs : List (LogEntry P)) (rest : List (Note P)) →
      after_notes h (map (λ x. Stage x) xs ++ rest) ≡ after_notes (record h { staged = h.staged ++ xs }) rest
  staged_is h [] rest = ap (λ (l : List (LogEntry P)). after_notes (record h { staged = l }) rest)
      (sym (append-nil h.staged))
  staged_is h (x ∷ xs) rest = staged_is (record h { staged = h.staged ++ x ∷ [] }) xs rest
      ∙ ap (λ (l : List (LogEntry P)). after_notes (record h { staged = l }) rest) (append_assoc h.staged (x ∷ []) xs)

  -- the first of stages and one note more are some stages, or all
  some_of : (h : Kept P) (xs : List (LogEntry P)) (x : Note P) (m : ℕ) →
      ((ys : List (LogEntry P)) × (after_notes h (take m (map (λ x. Stage x) xs ++ x ∷ [])) ≡
      record h { staged = h.staged ++ ys })) ⊎ (take m (map (λ x. Stage x) xs ++ x ∷ []) ≡ map (λ x. Stage x)
      xs ++ x ∷ [])
  some_of h xs x zero = inl ([], ap (λ (l : List (LogEntry P)). record h { staged = l }) (sym (append-nil h.staged)))
  some_of h [] x (suc m) = inr (ap (λ (l : List (Note P)). x ∷ l) (none m))
    where
      none : (k : ℕ) → take {A = Note P} k [] ≡ []
      none zero = refl
      none (suc k) = refl
  some_of h (y ∷ ys) x (suc m) = go (some_of (record h { staged = h.staged ++ y ∷ [] }) ys x m)
    where
      go : ((zs : List (LogEntry P)) × (after_notes (record h { staged = h.staged ++ y ∷ [] })
          (take m (map (λ x. Stage x) ys ++ x ∷ [])) ≡ record h { staged = (h.staged ++ y ∷ []) ++ zs }))
          ⊎ (take m (map (λ x. Stage x) ys ++ x ∷ []) ≡ map (λ x. Stage x) ys ++ x ∷ []) →
          ((zs : List (LogEntry P)) × (after_notes h (Stage y ∷ take m (map (λ x. Stage x) ys ++ x ∷ [])) ≡
          record h { staged = h.staged ++ zs })) ⊎ (Stage y ∷ take m (map (λ x. Stage x) ys ++ x ∷ []) ≡
          Stage y ∷ (map (λ x. Stage x) ys ++ x ∷ []))
      go (inl t) = inl (
        y ∷ t.0,
        t.1 ∙ ap (λ (l : List (LogEntry P)). record h { staged = l }) (append_assoc h.staged
            (y ∷ []) t.0),
      )
      go (inr e) = inr (ap (λ (l : List (Note P)). Stage y ∷ l) e)

  -- nothing is noted
  journaled_none : (h : Kept P) (r s : State P) → IsKeptOf h s → h.staged ≡ [] → IsJournaled h r s []
  journaled_none h r s k none = record { all = k; none_waits = none; some = λ m. inr (go m) }
    where
      go : (m : ℕ) → IsKeptOf (after_notes h (take m [])) s
      go zero = k
      go (suc m) = k

  -- one note
  journaled_one : (h : Kept P) (r s : State P) (x : Note P) → IsKeptOf h r → IsKeptOf (noted_by h x) s →
      (noted_by h x).staged ≡ [] → IsJournaled h r s (x ∷ [])
  journaled_one h r s x before k none = record { all = k; none_waits = none; some = go }
    where
      go : (m : ℕ) → IsKeptOf (after_notes h (take m (x ∷ []))) r ⊎ IsKeptOf (after_notes h (take m (x ∷ []))) s
      go zero = inl before
      go (suc zero) = inr k
      go (suc (suc m)) = inr k

  -- a log is adopted
  journaled_adopt : (h : Kept P) (r s : State P) (base : ℕ) → IsKeptOf h r → h.staged ≡ [] →
      r.commit_number ≤ s.commit_number → is_normal s.status ≡ true → take base r.log ≡ take base s.log →
      IsJournaled h r s (map (λ x. Stage x) (drop base s.log) ++ Adopt s.view_number s.last_normal_view base
      s.commit_number ∷ [])
  journaled_adopt h r s base k none rises normal alike = record {
    all = subst (λ (x : Kept P). IsKeptOf x s)
        (sym done) kept;
    none_waits = ap (λ (x : Kept P). x.staged) done;
    some = λ m.
        go m (some_of h (drop base s.log) (Adopt s.view_number s.last_normal_view base s.commit_number) m);
  }
    where
      log_is : take base h.log ++ (h.staged ++ drop base s.log) ≡ s.log
      log_is = ap₂ (λ (a b : List (LogEntry P)). take base a ++ (b ++ drop base s.log)) k.log none
          ∙ ap (λ (a : List (LogEntry P)). a ++ drop base s.log) alike ∙ take-append-drop base s.log

      done : after_notes h (map (λ x. Stage x) (drop base s.log) ++ Adopt s.view_number s.last_normal_view base
          s.commit_number ∷ []) ≡ record {
            view = s.view_number;
            last = s.last_normal_view;
            log = s.log;
            k =
                max h.k s.commit_number;
            staged = [];
            whole = true;
          }
      done = staged_is h (drop base s.log) (Adopt s.view_number s.last_normal_view base s.commit_number ∷ [])
          ∙ ap (λ (l : List (LogEntry P)). record {
            view = s.view_number;
            last = s.last_normal_view;
            log = l;
            k =
                max h.k s.commit_number;
            staged = [];
            whole = true;
          }) log_is

      kept : IsKeptOf (record {
        view = s.view_number;
        last = s.last_normal_view;
        log = s.log;
        k =
            max h.k s.commit_number;
        staged = [];
        whole = true;
      }) s
      kept = record {
        view = refl;
        last = refl;
        log = refl;
        low = omega (arith, k.low, rises);
        whole =
            sym (ap not (normal_whole s.status normal));
      }

      go : (m : ℕ) → ((ys : List (LogEntry P))
          × (after_notes h (take m (map (λ x. Stage x) (drop base s.log) ++ Adopt s.view_number s.last_normal_view
          base s.commit_number ∷ [])) ≡ record h { staged = h.staged ++ ys }))
          ⊎ (take m (map (λ x. Stage x) (drop base s.log) ++ Adopt s.view_number s.last_normal_view base
          s.commit_number ∷ []) ≡ map (λ x. Stage x) (drop base s.log) ++ Adopt s.view_number s.last_normal_view base
          s.commit_number ∷ []) → IsKeptOf
          (after_notes h (take m (map (λ x. Stage x) (drop base s.log) ++ Adopt s.view_number s.last_normal_view base
          s.commit_number ∷ []))) r
          ⊎ IsKeptOf (after_notes h (take m (map (λ x. Stage x) (drop base s.log) ++ Adopt s.view_number
          s.last_normal_view base s.commit_number ∷ []))) s
      go m (inl t) = inl (subst (λ (x : Kept P). IsKeptOf x r) (sym t.1)
          (record { view = k.view; last = k.last; log = k.log; low = k.low; whole = k.whole }))
      go m (inr e) = inr (subst (λ (l : List (Note P)). IsKeptOf (after_notes h l) s) (sym e)
          (subst (λ (x : Kept P). IsKeptOf x s) (sym done) kept))

-- Each step is journaled.
pub steps_are_journaled : {P : Type 0} → StepsAreJournaled P
steps_are_journaled {P} n i r e base alike h k none = by_test (IsJournaled h r s) (is_normal s.status) _ _
    (λ t. by_test (IsJournaled h r s) (is_normal r.status && (r.view_number == s.view_number && not (brings_tail e)))
    _ _
    (λ u. let a = both_true (is_normal r.status) _ u in let b = both_true (r.view_number == s.view_number) _ a.1
    in grown t a.0 (eqb-true _ _ b.0) (log_goes_on n i r e (not_true (brings_tail e) b.1) a.0
    (sym (eqb-true _ _ b.0))))
    (λ u. journaled_adopt h r s base k none keeps.commits t alike))
    (λ t. entered t (cases_lt r.view_number s.view_number))
  where
    s : State P
    s = (step n i r e).state

    keeps : Rattle.vr_state.proofs.Keeps.Keeps r (step n i r e).state
    keeps = step_keeps n i r e

    grown : is_normal (step n i r e).state.status ≡ true → is_normal r.status ≡ true → r.view_number ≡
        (step n i r e).state.view_number → GoesOn r (step n i r e).state → IsJournaled h r (step n i r e).state
        (map (λ x. Record (step n i r e).state.commit_number x) (drop (length r.log) (step n i r e).state.log))
    grown t u v g = go g.log
      where
        go : ((step n i r e).state.log ≡ r.log) ⊎ ((x : LogEntry P) × ((step n i r e).state.log ≡ r.log ++ x ∷ [])) →
            IsJournaled h r (step n i r e).state (map (λ x. Record (step n i r e).state.commit_number x)
            (drop (length r.log) (step n i r e).state.log))
        go (inl same) = subst (λ (l : List (LogEntry P)). IsJournaled h r (step n i r e).state
            (map (λ x. Record (step n i r e).state.commit_number x) l)) (sym (ap (drop (length r.log)) same
            ∙ drop_all (length r.log) r.log (le_refl _)))
            (journaled_none h r (step n i r e).state (record {
              view = k.view ∙ v;
              last = k.last ∙ sym g.last;
              log =
                  k.log ∙ sym same;
              low = omega (arith, k.low, keeps.commits);
              whole = k.whole
                  ∙ ap not (normal_whole r.status u ∙ sym (normal_whole _ t));
            }) none)
        go (inr x) = subst (λ (l : List (LogEntry P)). IsJournaled h r (step n i r e).state
            (map (λ x. Record (step n i r e).state.commit_number x) l))
            (sym (ap (drop (length r.log)) x.1 ∙ drop_at r.log (x.0 ∷ []) (length r.log) refl))
            (journaled_one h r (step n i r e).state (Record (step n i r e).state.commit_number x.0) k
            (record {
              view = k.view ∙ v;
              last = k.last ∙ sym g.last;
              log =
                  ap (λ (l : List (LogEntry P)). l ++ x.0 ∷ []) k.log ∙ sym x.1;
              low =
                  omega (arith, k.low, keeps.commits);
              whole = k.whole ∙ ap not (normal_whole r.status u
                  ∙ sym (normal_whole _ t));
            }) refl)

    entered : is_normal (step n i r e).state.status ≡ false → (r.view_number < (step n i r e).state.view_number)
        ⊎ ((step n i r e).state.view_number ≤ r.view_number) → IsJournaled h r (step n i r e).state
        (cond (nat_lt r.view_number (step n i r e).state.view_number) (Enter (step n i r e).state.view_number ∷ []) [])
    entered t (inl lt) = subst (λ b. IsJournaled h r (step n i r e).state
        (cond b (Enter (step n i r e).state.view_number ∷ []) [])) (sym (Rattle.std.proofs.Common.lt-ltb _ _ lt))
        (journaled_one h r (step n i r e).state (Enter (step n i r e).state.view_number) k
        (record {
          view = refl;
          last = k.last ∙ sym (last_is_kept n i r e t).0;
          log = k.log ∙ sym (keeps.log t);
          low =
              omega (arith, k.low, keeps.commits);
          whole = k.whole ∙ ap not (sym (last_is_kept n i r e t).1);
        }) refl)
    entered t (inr le) = subst (λ b. IsJournaled h r (step n i r e).state
        (cond b (Enter (step n i r e).state.view_number ∷ []) [])) (sym (le-ltb _ _ le))
        (journaled_none h r (step n i r e).state
        (record {
          view = omega (arith, k.view, keeps.views, le);
          last = k.last ∙ sym (last_is_kept n i r e t).0;
          log =
              k.log ∙ sym (keeps.log t);
          low = omega (arith, k.low, keeps.commits);
          whole = k.whole
              ∙ ap not (sym (last_is_kept n i r e t).1);
        }) none)

-- notes in two parts
notes-append : {P : Type 0} (h : Kept P) (xs ys : List (Note P)) → after_notes h (xs ++ ys) ≡
    after_notes (after_notes h xs) ys
notes-append h [] ys = refl
notes-append h (x ∷ xs) ys = notes-append (noted_by h x) xs ys

-- some first of two parts are some first of the one, or all of it and some first of the other
first_of_two : {A : Type 0} (m : ℕ) (xs ys : List A) → (take m (xs ++ ys) ≡ take m xs)
    ⊎ ((k : ℕ) × (take m (xs ++ ys) ≡ xs ++ take k ys))
first_of_two zero xs ys = inl refl
first_of_two (suc m) [] ys = inr (suc m, refl)
first_of_two {A} (suc m) (x ∷ xs) ys = go (first_of_two m xs ys)
  where
    go : (take m (xs ++ ys) ≡ take m xs) ⊎ ((k : ℕ) × (take m (xs ++ ys) ≡ xs ++ take k ys)) →
        (x ∷ take m (xs ++ ys) ≡ x ∷ take m xs) ⊎ ((k : ℕ) × (x ∷ take m (xs ++ ys) ≡ x ∷ (xs ++ take k ys)))
    go (inl e) = inl (ap (λ (l : List A). x ∷ l) e)
    go (inr t) = inr (t.0, ap (λ (l : List A). x ∷ l) t.1)

-- A batch is journaled.
pub batches_are_journaled : {P : Type 0} → BatchesAreJournaled P
batches_are_journaled {P} n i r [] alike h k none =
    (k, none, λ m. record { count = 0; kept = subst (λ l. IsKeptOf (after_notes h l) r) (sym (empty m)) k })
  where
    empty : (m : ℕ) → take {A = Note P} m [] ≡ []
    empty zero = refl
    empty (suc m) = refl
batches_are_journaled {P} n i r (x ∷ xs) alike h k none = go (batches_are_journaled n i s xs alike.1
    (after_notes h mine) j.all j.none_waits)
  where
    s : State P
    s = (step n i r x.0).state

    mine : List (Note P)
    mine = notes_of r (step n i r x.0).state x.0 x.1

    rest : List (Note P)
    rest = notes_of_all n i (step n i r x.0).state xs

    j : IsJournaled h r (step n i r x.0).state (notes_of r (step n i r x.0).state x.0 x.1)
    j = steps_are_journaled n i r x.0 x.1 alike.0 h k none

    go : IsKeptOf (after_notes (after_notes h mine) rest) (after_events n i s xs)
        × ((after_notes (after_notes h mine) rest).staged ≡ [])
        × ((m : ℕ) → IsKeptOfSome n i s xs (after_notes (after_notes h mine) (take m rest))) →
        IsKeptOf (after_notes h (mine ++ rest)) (after_events n i s xs) × ((after_notes h (mine ++ rest)).staged ≡ [])
        × ((m : ℕ) → IsKeptOfSome n i r (x ∷ xs) (after_notes h (take m (mine ++ rest))))
    go t = (
      subst (λ (y : Kept P). IsKeptOf y (after_events n i s xs)) (sym (notes-append h mine rest)) t.0,
      ap (λ
          (y : Kept P). y.staged) (notes-append h mine rest) ∙ t.1,
      λ m. some m (first_of_two m mine rest),
    )
      where
        here : (m : ℕ) → IsKeptOf (after_notes h (take m mine)) r ⊎ IsKeptOf (after_notes h (take m mine)) s →
            IsKeptOfSome n i r (x ∷ xs) (after_notes h (take m mine))
        here m (inl f) = record { count = 0; kept = f }
        here m (inr f) = record { count = 1; kept = f }

        later : (y : Kept P) → IsKeptOfSome n i s xs y → IsKeptOfSome n i r (x ∷ xs) y
        later y f = record { count = suc f.count; kept = f.kept }

        some : (m : ℕ) → (take m (mine ++ rest) ≡ take m mine)
            ⊎ ((l : ℕ) × (take m (mine ++ rest) ≡ mine ++ take l rest)) → IsKeptOfSome n i r (x ∷ xs)
            (after_notes h (take m (mine ++ rest)))
        some m (inl e) = subst (λ l. IsKeptOfSome n i r (x ∷ xs) (after_notes h l)) (sym e) (here m (j.some m))
        some m (inr f) = subst (λ l. IsKeptOfSome n i r (x ∷ xs) (after_notes h l)) (sym f.1)
            (subst (λ (y : Kept P). IsKeptOfSome n i r (x ∷ xs) y) (sym (notes-append h mine (take f.0 rest)))
            (later _ (t.2 f.0)))
