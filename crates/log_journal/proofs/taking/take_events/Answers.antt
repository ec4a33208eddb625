-- What search doesn't prove of `take_events`: `loop-event-init`, `loop-event-preserved`, the clause `taken` and the
-- clause `stepped`, by lemmas of `SomeSteps`.
use Rattle.std.proofs.Common.{◌≡◌, ℕ, List, [], ◌∷◌, ◌++◌, Result, inr, refl, sym, ap, ◌∙◌, subst, append_assoc, arith, rules}
use Rattle.std.proofs.lemmas.List.{nil_from_length, append-nil}
use Rattle.std.specs.declared.alloc.AllocError.{AllocError}
use Rattle.ldap_op.specs.Values.{OpValue}
use Rattle.vr_state.specs.Views.{state}
use Rattle.vr_state.specs.declared.event.Event.{Event}
use Rattle.vr_state.specs.declared.message.Outputs.{Outputs}
use Rattle.log_journal.specs.Taken.{MakesSome, Takes, TakesAll}
use Rattle.vr_state.specs.Step.{step}
use Rattle.log_journal.proofs.SomeSteps.{none_yet, on_err, one_or_none, only_first}
use Rattle.log_journal.proofs.taking.take_events.Goals as goal

pub loop-event-init : goal.loop-event-init
loop-event-init c = (
  refl,
  refl,
  grind (arith, c.in_ok-all.ensures.items, c.in_ok-all.ensures.capacity),
  λ xs s new h.
      let e : c.into_iter-event-iterator.result.rest.items ≡ c.args.events.items = search rules in
      let r = c.args.replica.now in
      subst (λ (l : List (Event OpValue)). TakesAll r.count r.index (state r) l (c.in_ok-all.all.items ++ xs) s
      c.args.batch.now new) e
      (subst (λ (a : List (Result (Outputs OpValue) AllocError)). TakesAll r.count r.index (state r)
      c.into_iter-event-iterator.result.rest.items (a ++ xs) s c.args.batch.now new)
      (sym c.in_ok-all.ensures.items) h),
  λ s h.
      let e : c.into_iter-event-iterator.result.rest.items ≡ c.args.events.items = search rules in
      let r = c.args.replica.now in
      subst (λ (l : List (Event OpValue)). MakesSome r.count r.index (state r) l s) e h,
)

pub loop-event-preserved : goal.loop-event-preserved
loop-event-preserved c = (
  c.take_event.ensures.index ∙ c.loop-event.invariant.0,
  c.take_event.ensures.count ∙ c.loop-event.invariant.1,
  grind (
    arith,
    c.loop-event.invariant.2,
    c.push_reserved.ensures.items,
    c.push_reserved.ensures.capacity,
    c.in-Some.ensures.steps,
  ),
  λ xs s new h.
      let r = c.args.replica.now in
      let q = c.loop-event.replica in
      let x : Result (Outputs OpValue) AllocError = c.in_ok-taken.taken in
      let one = subst (λ (k : ℕ). Takes k r.index (state q) c.in-Some.event x (state c.take_event.new.replica)
      c.loop-event.batch c.take_event.new.batch) c.loop-event.invariant.1
      (subst (λ (k : ℕ). Takes q.count k (state q) c.in-Some.event x (state c.take_event.new.replica)
      c.loop-event.batch c.take_event.new.batch) c.loop-event.invariant.0 c.in_ok-taken.ensures.taken) in
      subst (λ (l : List (Result (Outputs OpValue) AllocError)). TakesAll r.count r.index (state r)
      c.args.events.items l s c.args.batch.now new)
      (sym (ap (λ (l : List (Result (Outputs OpValue) AllocError)). l ++ xs) c.push_reserved.ensures.items
      ∙ append_assoc c.loop-event.all.items (x ∷ []) xs))
      (c.loop-event.invariant.3 (x ∷ xs) s new
      (subst (λ (l : List (Event OpValue)). TakesAll r.count r.index (state q) l (x ∷ xs) s c.loop-event.batch new)
      (sym c.in-Some.ensures.steps.0)
      (state c.take_event.new.replica, c.take_event.new.batch, one, h))),
  λ s h.
      let r = c.args.replica.now in
      let q = c.loop-event.replica in
      let x : Result (Outputs OpValue) AllocError = c.in_ok-taken.taken in
      let one = subst (λ (k : ℕ). Takes k r.index (state q) c.in-Some.event x (state c.take_event.new.replica)
      c.loop-event.batch c.take_event.new.batch) c.loop-event.invariant.1
      (subst (λ (k : ℕ). Takes q.count k (state q) c.in-Some.event x (state c.take_event.new.replica)
      c.loop-event.batch c.take_event.new.batch) c.loop-event.invariant.0 c.in_ok-taken.ensures.taken) in
      c.loop-event.invariant.4 s (subst (λ (l : List (Event OpValue)). MakesSome r.count r.index (state q) l s)
      (sym c.in-Some.ensures.steps.0)
      (inr (
        state c.take_event.new.replica,
        one_or_none r.count r.index (state q) (state
            c.take_event.new.replica) c.in-Some.event x c.loop-event.batch c.take_event.new.batch one,
        h,
      ))),
)

pub returns-clause-taken : goal.returns-clause-taken
returns-clause-taken c =
    let r = c.args.replica.now in
    let q = c.loop-event.replica in
    let nothing : c.loop-event.event-iterator.rest.items ≡ [] = nil_from_length c.loop-event.event-iterator.rest.items
    (omega (arith, c.in-None.ensures.steps.0)) in
    subst (λ (l : List (Result (Outputs OpValue) AllocError)). TakesAll r.count r.index (state r) c.args.events.items
    l (state q) c.args.batch.now c.loop-event.batch) (append-nil c.loop-event.all.items)
    (c.loop-event.invariant.3 [] (state q) c.loop-event.batch
    (subst (λ (l : List (Event OpValue)). TakesAll r.count r.index (state q) l [] (state q) c.loop-event.batch
    c.loop-event.batch) (sym nothing) (refl, refl)))

pub returns-in_err-taken-clause-stepped : goal.returns-in_err-taken-clause-stepped
returns-in_err-taken-clause-stepped c =
    let r = c.args.replica.now in
    let q = c.loop-event.replica in
    let s = state c.take_event.new.replica in
    let stepped : s ≡ (step r.count r.index (state q) c.in-Some.event).state =
    subst (λ (k : ℕ). s ≡ (step k r.index (state q) c.in-Some.event).state) c.loop-event.invariant.1
    (subst (λ (k : ℕ). s ≡ (step q.count k (state q) c.in-Some.event).state) c.loop-event.invariant.0
    c.in_err-taken.ensures.stepped) in
    on_err c.from_residual-in_err-taken.result (c.loop-event.invariant.4 s
    (subst (λ (l : List (Event OpValue)). MakesSome r.count r.index (state q) l s) (sym c.in-Some.ensures.steps.0)
    (only_first r.count r.index (state q) s c.in-Some.event _ (inr stepped))))

pub returns-in_err-all-clause-stepped : goal.returns-in_err-all-clause-stepped
returns-in_err-all-clause-stepped c = let r = c.args.replica.now in on_err c.from_residual.result
    (none_yet r.count r.index (state r) c.args.events.items)
