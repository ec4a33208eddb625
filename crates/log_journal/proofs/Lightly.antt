-- What a step notes at an event that can't have the replica adopt a log.
use Rattle.std.proofs.Common.{◌≡◌, ◌≤◌, ℕ, ◌+◌, ◌/◌, ◌<◌, ◌==◌, nat_lt, nat_le, Bool, true, false, cond, not, ◌&&◌, ◌||◌, ◌⊎◌, inl, inr, List, [], ◌∷◌, ◌++◌, length, drop, get_or, Option, Some, None, arith, refl, sym, ap, ◌∙◌, subst, ltb-true, true≢false}
use Rattle.std.specs.List.{list_any}
use Rattle.ldap_op.specs.Values.{OpValue}
use Rattle.ldap_op.specs.Written.{op_bytes}
use Rattle.vr_state.specs.declared.event.Event.{Event}
use Rattle.vr_state.specs.declared.event.Event.TheVariants.{Request, Message, Suspect, Beat}
use Rattle.vr_state.specs.declared.message.PeerMessage.{PeerMessage}
use Rattle.vr_state.specs.declared.message.PeerMessage.TheVariants.{Prepare, PrepareOk, Commit, StartViewChange, DoViewChange, StartView, GetState, NewState, Recovery, RecoveryResponse}
use Rattle.vr_state.specs.declared.words.Latest.{Latest}
use Rattle.vr_state.specs.declared.words.Status.{Status}
use Rattle.vr_state.specs.declared.words.Status.TheVariants.{Normal, ViewChange, Recovering}
use Rattle.vr_state.specs.ClientTable.{latest}
use Rattle.vr_state.specs.NormalCase.{append, ask_primary, take_in}
use Rattle.vr_state.specs.Outcome.{Outcome, commit_to}
use Rattle.vr_state.specs.Recovery.{is_ahead}
use Rattle.vr_state.specs.State.{State, LogEntry, primary, is_normal, is_changing, is_recovering, leads, follows, is_behind, greatest_view}
use Rattle.vr_state.specs.Step.{step, on_beat, on_suspicion, on_peer_message}
use Rattle.vr_state.specs.StepLaw.{brings_tail}
use Rattle.vr_state.specs.ViewChange.{on_suspect, enter, is_changing_in, declare, note_start, note_change, try_begin}
use Rattle.log_journal.specs.Steps.{before_of, only_grew}
use Rattle.log_journal.specs.declared.steps.Before.{Before}
use Rattle.log_journal.specs.private.Light.{HasOctets, IsLightStep, IsNotedByOne, IsOneAtMost, brings, has_heard, is_light, is_light_message, may_lead}

by_test : {A : Type 0} (Q : A → Type 0) (b : Bool) (x y : A) → (b ≡ true → Q x) → (b ≡ false → Q y) → Q (cond b x y)
by_test Q true x y f g = f refl
by_test Q false x y f g = g refl

both_true : (a b : Bool) → (a && b) ≡ true → (a ≡ true) × (b ≡ true)
both_true true true e = (refl, refl)
both_true true false e = absurd (cc)
both_true false b e = absurd (cc)

-- a test has one answer
not_both : (b : Bool) → b ≡ true → b ≡ false → ⊥
not_both b t f = true≢false (sym t ∙ f)

-- what isn't so
not_so : (b : Bool) → not b ≡ true → b ≡ false
not_so true e = absurd (true≢false (sym e))
not_so false e = refl

-- the second of two that don't both hold
other_false : (a b : Bool) → (a && b) ≡ false → a ≡ true → b ≡ false
other_false true b e t = e
other_false false b e t = absurd (true≢false (sym t))

or_left : (a b : Bool) → a ≡ true → (a || b) ≡ true
or_left true b e = refl
or_left false b e = absurd (true≢false (sym e))

changing_is : (s : Status) → is_changing s ≡ true → is_normal s ≡ false
changing_is Normal e = absurd (true≢false (sym e))
changing_is ViewChange e = refl
changing_is Recovering e = refl

-- a smaller number isn't the same
smaller_is_other : (a b : ℕ) → nat_lt a b ≡ true → (a == b) ≡ false
smaller_is_other a b e = grind arith

-- who changes in a view that is no later one is behind in it
behind_here : {P : Type 0} (r : State P) (v : ℕ) → is_changing_in r v ≡ true → is_behind r v ≡ true
behind_here r v e = go (nat_lt r.view_number v)
  where
    parts : (is_changing r.status ≡ true) × ((r.view_number == v) ≡ true)
    parts = both_true (is_changing r.status) (r.view_number == v) e

    inner : (r.view_number == v && is_changing r.status) ≡ true
    inner = ap (λ (b : Bool). b && is_changing r.status) parts.1 ∙ parts.0

    go : (b : Bool) → (b || (r.view_number == v && is_changing r.status)) ≡ true
    go true = refl
    go false = inner

module _ {P : Type 0} (n i : ℕ) (o : Option (LogEntry P)) (r : State P) where
  abbrev Light : Outcome P → Type 0
  Light d = IsLightStep o r d.state

  -- nothing that counts has changed
  still : (s : State P) → s.log ≡ r.log → s.status ≡ r.status → s.view_number ≡ r.view_number → IsLightStep o r s
  still s log status view = record { log = inl log; status = go (is_normal r.status) refl }
    where
      go : (b : Bool) → is_normal r.status ≡ b → (is_normal s.status ≡ false) ⊎ ((is_normal r.status ≡ true)
          × (s.view_number ≡ r.view_number))
      go true e = inr (e, view)
      go false e = inl (ap is_normal status ∙ e)

  same : IsLightStep o r r
  same = still r refl refl refl

  -- a view is entered, or still is
  left : (s : State P) → s.log ≡ r.log → is_normal s.status ≡ false → IsLightStep o r s
  left s log status = record { log = inl log; status = inl status }

  -- a record is appended
  grows : (e : LogEntry P) (s : State P) → o ≡ Some e → s.log ≡ r.log ++ e ∷ [] → s.status ≡ r.status →
      s.view_number ≡ r.view_number → IsLightStep o r s
  grows e s is log status view = record {
    log = inr (e, is, log);
    status =
        (still (record s { log = r.log }) refl status view).status;
  }

  take_light : (e : LogEntry P) (p x : ℕ) → o ≡ Some e → IsLightStep o r (commit_to x (take_in e p r))
  take_light e p x is = by_test (λ (s : State P). IsLightStep o r (commit_to x s)) (p == length r.log + 1)
      (append e r) r
      (λ t. grows e (commit_to x (append e r)) is refl refl refl) (λ t. still (commit_to x r) refl refl refl)

  request_light : (e : LogEntry P) → o ≡ Some e → Light (step n i r (Request e))
  request_light e is = by_test Light (leads n i r r.view_number) _ _ (λ t. ask (latest e.client r.log)) (λ t. same)
    where
      ask : (l : Option Latest) → Light (ask_primary n i r e l)
      ask None = grows e (append e r) is refl refl refl
      ask (Some last) = by_test Light (nat_lt last.request_number e.request_number) _ _
          (λ t. grows e (append e r) is refl refl refl)
          (λ t. by_test Light (last.request_number == e.request_number && nat_le last.op_number r.commit_number) _ _
          (λ s. same) (λ s. same))

  -- a STARTVIEWCHANGE is noted, and nothing is begun
  start_light : (s : State P) (from : ℕ) → s.log ≡ r.log → is_normal s.status ≡ false →
      (list_any (λ j. j == from) s.start_view_changes ≡ true) ⊎ ((primary n s.view_number == i) ≡ false) →
      Light (note_start n i s from)
  start_light s from log status (inl heard) = by_test Light (list_any (λ j. j == from) s.start_view_changes) _ _
      (λ t. left s log status) (λ t. absurd (not_both _ heard t))
  start_light s from log status (inr other) = by_test Light (list_any (λ j. j == from) s.start_view_changes) _ _
      (λ t. left s log status)
      (λ t. by_test Light (length (s.start_view_changes ++ from ∷ []) == n / 2) _ _
      (λ k. by_test Light (primary n s.view_number == i) _ _ (λ l. absurd (not_both _ l other))
      (λ l. left (record s { start_view_changes = s.start_view_changes ++ from ∷ [] }) log status))
      (λ k. left (record s { start_view_changes = s.start_view_changes ++ from ∷ [] }) log status))

  -- who isn't to begin a view
  not_to_begin : (from v : ℕ) → is_behind r v ≡ true → (may_lead n i r v && not (has_heard r from v)) ≡ false →
      (has_heard r from v ≡ true) ⊎ ((primary n v == i) ≡ false)
  not_to_begin from v behind light = go (has_heard r from v) refl
    where
      go : (b : Bool) → has_heard r from v ≡ b → (has_heard r from v ≡ true) ⊎ ((primary n v == i) ≡ false)
      go true e = inl e
      go false e = inr (other_false (is_behind r v) (primary n v == i) (lead (may_lead n i r v) light) behind)
        where
          lead : (a : Bool) → (a && not (has_heard r from v)) ≡ false → a ≡ false
          lead true k = absurd (true≢false (sym (ap not e) ∙ k))
          lead false k = refl

  message_light : (from : ℕ) (m : PeerMessage P) → o ≡ brings (Message from m) → is_light_message n i r from m ≡
      true → Light (on_peer_message n i r from m)
  message_light from (Prepare v e p x) is light = by_test Light (is_behind r v) _ _ (λ t. same) (λ t.
      by_test Light (follows n i r v) _ _ (λ k. by_test Light (nat_le p (length (commit_to x (take_in e p r)).log)) _
      _ (λ s. take_light e p x is) (λ s. take_light e p x is)) (λ k. same))
  message_light from (PrepareOk v p) is light = by_test Light (leads n i r v && nat_le p (length r.log)) _ _
      (λ t. still _ refl refl refl) (λ t. same)
  message_light from (Commit v x) is light = by_test Light (is_behind r v) _ _ (λ t. same)
      (λ t. by_test Light (follows n i r v) _ _ (λ k. still _ refl refl refl) (λ k. same))
  message_light from (StartViewChange v) is light = by_test Light (is_recovering r.status) _ _ (λ t. same)
      (λ t. go (nat_lt r.view_number v) refl)
    where
      go : (b : Bool) → nat_lt r.view_number v ≡ b → Light (cond (is_changing_in (cond b (enter n v r) r) v)
          (note_start n i (cond b (enter n v r) r) from) (record {
            state = cond b (enter n v r) r;
            sends =
                [];
            replies = [];
          }))
      go true e = by_test Light (is_changing_in (enter n v r) v) _ _ (λ t. start_light (enter n v r) from refl refl
          (later (not_to_begin from v (or_left _ _ e) (not_so _ light)))) (λ t. left (enter n v r) refl refl)
        where
          later : (has_heard r from v ≡ true) ⊎ ((primary n v == i) ≡ false) →
              (list_any (λ j. j == from) (enter n v r).start_view_changes ≡ true)
              ⊎ ((primary n (enter n v r).view_number == i) ≡ false)
          later (inl heard) = absurd (not_both (r.view_number == v) (both_true (r.view_number == v) _ heard).0
              (smaller_is_other _ _ e))
          later (inr other) = inr other
      go false e = by_test Light (is_changing_in r v) _ _
          (λ t. start_light r from refl (changing_is r.status (both_true (is_changing r.status) _ t).0)
          (here t (not_to_begin from v (behind_here r v t) (not_so _ light)))) (λ t. same)
        where
          here : is_changing_in r v ≡ true → (has_heard r from v ≡ true) ⊎ ((primary n v == i) ≡ false) →
              (list_any (λ j. j == from) r.start_view_changes ≡ true) ⊎ ((primary n r.view_number == i) ≡ false)
          here t (inl heard) = inl (both_true (r.view_number == v) _ heard).1
          here t (inr other) = inr (ap (λ k. primary n k == i)
              (same_number r.view_number v (both_true (is_changing r.status) _ t).1) ∙ other)
            where
              same_number : (a b : ℕ) → (a == b) ≡ true → a ≡ b
              same_number a b k = grind arith
  message_light from (DoViewChange v c) is light = by_test Light (is_recovering r.status) _ _ (λ t. same)
      (λ t. go (nat_lt r.view_number v) refl)
    where
      go : (b : Bool) → nat_lt r.view_number v ≡ b →
          Light (cond (is_changing_in (cond b (enter n v r) r) v && primary n v == i)
          (try_begin n i (note_change from c (cond b (enter n v r) r)))
          (record { state = cond b (enter n v r) r; sends = []; replies = [] }))
      go true e = by_test Light (is_changing_in (enter n v r) v && primary n v == i) _ _
          (λ t. absurd (not_both _ (both_true (is_changing_in (enter n v r) v) _ t).1 (other_false (is_behind r v) _
          (not_so _ light) (or_left _ _ e)))) (λ t. left (enter n v r) refl refl)
      go false e = by_test Light (is_changing_in r v && primary n v == i) _ _
          (λ t. absurd (not_both _ (both_true (is_changing_in r v) _ t).1 (other_false (is_behind r v) _
          (not_so _ light) (behind_here r v (both_true (is_changing_in r v) _ t).0)))) (λ t. same)
  message_light from (StartView v held) is light = by_test Light (not (is_recovering r.status) && is_behind r v) _ _
      (λ t. absurd (not_both _ (both_true (not (is_recovering r.status)) _ t).1 (not_so _ light))) (λ t. same)
  message_light from (GetState v x) is light = by_test Light (is_normal r.status && r.view_number == v
      && nat_le x (length r.log)) _ _ (λ t. same) (λ t. same)
  message_light from (NewState v x tail) is light = absurd (true≢false (sym light))
  message_light from (Recovery x) is light = by_test Light (is_normal r.status) _ _ (λ t. same) (λ t. same)
  message_light from (RecoveryResponse x a) is light = by_test Light (is_recovering r.status && x == r.nonce) _ _
      (λ t. absurd (not_both _ (both_true (is_recovering r.status) _ t).0 (not_so _ light))) (λ t. same)

  event_light : (e : Event P) → o ≡ brings e → is_light n i r e ≡ true → Light (step n i r e)
  event_light (Request e) is light = request_light e is
  event_light (Message from m) is light = by_test Light (nat_lt from n && not (from == i)) _ _
      (λ t. message_light from m is light) (λ t. same)
  event_light Suspect is light = go r.status
    where
      leave : Light (on_suspect n i r)
      leave = by_test Light (is_recovering r.status || nat_le greatest_view r.view_number) _ _ (λ t. same)
          (λ t. left (enter n (r.view_number + 1) r) refl refl)

      go : (s : Status) → Light (on_suspicion n i r s)
      go Normal = leave
      go ViewChange = leave
      go Recovering = by_test Light (is_ahead n r) _ _ (λ t. same) (λ t. same)
  event_light Beat is light = go r.status
    where
      go : (s : Status) → Light (on_beat n i r s)
      go Normal = by_test Light (primary n r.view_number == i) _ _
          (λ t. by_test Light (nat_lt r.commit_number (length r.log)) _ _ (λ k. same) (λ k. same)) (λ t. same)
      go ViewChange = same
      go Recovering = same

-- a NEWSTATE is none
no_tail : {P : Type 0} (n i : ℕ) (r : State P) (e : Event P) → is_light n i r e ≡ true → brings_tail e ≡ false
no_tail n i r (Request e) light = refl
no_tail n i r Suspect light = refl
no_tail n i r Beat light = refl
no_tail n i r (Message from (Prepare v e p x)) light = refl
no_tail n i r (Message from (PrepareOk v p)) light = refl
no_tail n i r (Message from (Commit v x)) light = refl
no_tail n i r (Message from (StartViewChange v)) light = refl
no_tail n i r (Message from (DoViewChange v c)) light = refl
no_tail n i r (Message from (StartView v held)) light = refl
no_tail n i r (Message from (GetState v x)) light = refl
no_tail n i r (Message from (NewState v x tail)) light = absurd (true≢false (sym light))
no_tail n i r (Message from (Recovery x)) light = refl
no_tail n i r (Message from (RecoveryResponse x a)) light = refl

-- the records behind those that were there
one_at_most : (room : ℕ) (o : Option (LogEntry OpValue)) (old new : List (LogEntry OpValue)) → HasOctets room o →
    (new ≡ old) ⊎ ((x : LogEntry OpValue) × (o ≡ Some x) × (new ≡ old ++ x ∷ [])) →
    IsOneAtMost room (drop (length old) new)
one_at_most room o old new octets (inl e) = subst (λ (l : List (LogEntry OpValue)). IsOneAtMost room
    (drop (length old) l)) (sym e) (none old)
  where
    none : (l : List (LogEntry OpValue)) → IsOneAtMost room (drop (length l) l)
    none [] = tt
    none (x ∷ l) = none l
one_at_most room o old new octets (inr (x, is, e)) = subst (λ (l : List (LogEntry OpValue)). IsOneAtMost room
    (drop (length old) l)) (sym e) (one old)
  where
    one : (l : List (LogEntry OpValue)) → IsOneAtMost room (drop (length l) (l ++ x ∷ []))
    one [] = octets x is
    one (y ∷ l) = one l

-- A light event is noted by one string at most.
pub noted_by_one : (n i room : ℕ) (r s : State OpValue) (e : Event OpValue) → is_light n i r e ≡ true →
    HasOctets room (brings e) → s ≡ (step n i r e).state → IsNotedByOne (before_of r e) s room
noted_by_one n i room r s e light octets is = subst (λ (x : State OpValue). IsNotedByOne (before_of r e) x room)
    (sym is) (go h.status)
  where
    t : State OpValue
    t = (step n i r e).state

    h : IsLightStep (brings e) r (step n i r e).state
    h = event_light n i (brings e) r e refl light

    go : (is_normal (step n i r e).state.status ≡ false) ⊎ ((is_normal r.status ≡ true)
        × ((step n i r e).state.view_number ≡ r.view_number)) → IsNotedByOne (before_of r e) (step n i r e).state room
    go (inl k) = inl k
    go (inr (normal, view)) =
        inr (
          grew (is_normal r.status) (r.view_number == (step n i r e).state.view_number) (brings_tail
              e) normal (same_view r.view_number _ (sym view)) (no_tail n i r e light),
          one_at_most room (brings e) r.log _
              octets h.log,
        )
      where
        same_view : (a b : ℕ) → a ≡ b → (a == b) ≡ true
        same_view a b k = grind arith

        grew : (a b d : Bool) → a ≡ true → b ≡ true → d ≡ false → (a && (b && not d)) ≡ true
        grew true true false x y z = refl
        grew true true true x y z = absurd (true≢false z)
        grew true false d x y z = absurd (true≢false (sym y))
        grew false b d x y z = absurd (true≢false (sym x))

-- the one record behind those that were there fits
pub first_fits : (room : ℕ) (behind late : List (LogEntry OpValue)) (x : LogEntry OpValue) → IsOneAtMost room late →
    behind ≡ late → 1 ≤ length behind → x ≡ get_or behind 0 x → length (op_bytes x.payload) ≤ room
first_fits room behind late x h e = go behind (subst (λ (l : List (LogEntry OpValue)). IsOneAtMost room l) (sym e) h)
  where
    go : (l : List (LogEntry OpValue)) → IsOneAtMost room l → 1 ≤ length l → x ≡ get_or l 0 x →
        length (op_bytes x.payload) ≤ room
    go [] k long is = absurd (omega (arith, long))
    go (y ∷ []) k long is = subst (λ (z : LogEntry OpValue). length (op_bytes z.payload) ≤ room) (sym is) k
    go (y ∷ z ∷ l) k long is = absurd k

-- of a normal replica only records are noted
pub one_behind : (b : Before) (s : State OpValue) (room : ℕ) → IsNotedByOne b s room → is_normal s.status ≡ true →
    IsOneAtMost room (drop b.length s.log)
one_behind b s room (inl e) normal = absurd (not_both _ normal e)
one_behind b s room (inr h) normal = h.1
