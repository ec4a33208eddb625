-- What one event does to a world: at the replica where it happens, at the others, and to the network.
use Rattle.std.proofs.Common.{◌≡◌, ◌≢◌, ℕ, zero, suc, ◌-◌, ◌<◌, ◌≤◌, ◌==◌, nat_lt, nat_le, Bool, true, false, cond, ◌&&◌, ◌⊎◌, inl, inr, List, [], ◌∷◌, ◌++◌, length, take, Option, Some, None, slice_get, refl, sym, ap, ◌∙◌, subst, arith, eqb-true, eq-eqb, true≢false, lt-ltb, ltb-true, le-leb, leb-true}
use Rattle.vr_state.proofs.Laws.{both_true}
use Rattle.vr_state.specs.Lists.{IsPrefix}
use Rattle.vr_state.specs.Outcome.{Outcome, idle, to_all}
use Rattle.vr_state.specs.State.{State, recovering, resuming}
use Rattle.vr_state.specs.Step.{step}
use Rattle.vr_state.specs.Words.{LogEntry}
use Rattle.vr_state.specs.declared.event.Event.TheVariants as event
use Rattle.vr_state.specs.declared.message.Change.{Change}
use Rattle.vr_state.specs.declared.message.PeerMessage.TheVariants.{Recovery}
use Rattle.vr_state.specs.declared.message.Send.{Send}
use Rattle.vr_world.proofs.Laws.{replicas_agree, run-append, steps_keep}
use Rattle.vr_world.specs.Committed.{committed}
use Rattle.vr_world.specs.Law.{IsSize}
use Rattle.vr_world.specs.World.{World, after, crashed, delivered, happens, has_used, kept_of, made, posted, put, recovered, resumed, run, sent_as, start, stepped}
use Rattle.vr_world.specs.declared.events.WorldEvent.{WorldEvent}
use Rattle.vr_world.specs.declared.events.WorldEvent.TheVariants.{Request, Deliver, Suspect, Beat, Crash, Recover, Resume}
use Rattle.vr_world.specs.declared.words.Message.{Message}

-- Places.

-- what was put is there,
pub put_here : {A : Type 0} (i : ℕ) (x : A) (f : ℕ → A) → put i x f i ≡ x
put_here i x f = ap (λ b. cond b x (f i)) (eq-eqb i i refl)

-- two places or one
pub same_or : (i j : ℕ) → (j ≡ i) ⊎ (j ≢ i)
same_or i j = go (j == i) refl
  where
    go : (b : Bool) → (j == i) ≡ b → (j ≡ i) ⊎ (j ≢ i)
    go true e = inl (eqb-true j i e)
    go false e = inr (λ q. true≢false (sym (eq-eqb j i q) ∙ e))

pub not_eqb : (i j : ℕ) → j ≢ i → (j == i) ≡ false
not_eqb i j ne = go (j == i) refl
  where
    go : (b : Bool) → (j == i) ≡ b → (j == i) ≡ false
    go true e = absurd (ne (eqb-true j i e))
    go false e = e

-- and what is elsewhere stays.
pub put_there : {A : Type 0} (i j : ℕ) (x : A) (f : ℕ → A) → j ≢ i → put i x f j ≡ f j
put_there i j x f ne = ap (λ b. cond b x (f j)) (not_eqb i j ne)

-- The network.

-- a message keeps its number as another is sent
sent_more : {P : Type 0} (k : ℕ) (ms : List (Message P)) (m x : Message P) → sent_as k ms ≡ Some x →
    sent_as k (m ∷ ms) ≡ Some x
sent_more {P} k ms m x = go (nat_lt 0 k && nat_le k (length ms)) refl
  where
    go : (b : Bool) → (nat_lt 0 k && nat_le k (length ms)) ≡ b → cond b (slice_get ms (length ms - k)) None ≡ Some x →
        sent_as k (m ∷ ms) ≡ Some x
    go false e h = absurd (cc)
    go true e h =
        let both = both_true (nat_lt 0 k) (nat_le k (length ms)) e in
        let low : 0 < k = ltb-true 0 k both.0 in
        let high : k ≤ length ms = leb-true k (length ms) both.1 in
        let more : nat_le k (suc (length ms)) ≡ true = le-leb k (suc (length ms)) (omega (arith, high)) in
        let at : suc (length ms) - k ≡ suc (length ms - k) = omega (arith, high) in
        ap (λ b. cond (b && nat_le k (suc (length ms))) (slice_get (m ∷ ms) (suc (length ms) - k)) None) both.0
        ∙ ap (λ b. cond b (slice_get (m ∷ ms) (suc (length ms) - k)) None) more
        ∙ ap (λ j. slice_get (m ∷ ms) j) at
        ∙ h

-- the message that was sent last
sent_last : {P : Type 0} (ms : List (Message P)) (m : Message P) → sent_as (suc (length ms)) (m ∷ ms) ≡ Some m
sent_last ms m =
    ap (λ b. cond (b && nat_le (suc (length ms)) (suc (length ms)))
    (slice_get (m ∷ ms) (suc (length ms) - suc (length ms))) None) (lt-ltb 0 (suc (length ms)) (omega arith))
    ∙ ap (λ b. cond b (slice_get (m ∷ ms) (suc (length ms) - suc (length ms))) None)
    (le-leb (suc (length ms)) (suc (length ms)) (omega arith))
    ∙ ap (λ j. slice_get (m ∷ ms) j) zero_is
  where
    zero_is : suc (length ms) - suc (length ms) ≡ 0
    zero_is = omega arith

-- A message keeps its number as others are sent.
pub posted_keeps : {P : Type 0} (i k : ℕ) (sends : List (Send P)) (ms : List (Message P)) (x : Message P) →
    sent_as k ms ≡ Some x → sent_as k (posted i sends ms) ≡ Some x
posted_keeps i k [] ms x h = h
posted_keeps i k (s ∷ sends) ms x h = posted_keeps i k sends _ x (sent_more k ms _ x h)

-- Each that is sent has a number.
pub posted_has : {P : Type 0} (i at : ℕ) (sends : List (Send P)) (ms : List (Message P)) (s : Send P) →
    slice_get sends at ≡ Some s → (k : ℕ)
    × (sent_as k (posted i sends ms) ≡ Some (record { from = i; to = s.to; body = s.message }))
posted_has i at [] ms s h = absurd (cc)
posted_has {P} i zero (t ∷ sends) ms s h = (
  suc (length ms),
  posted_keeps i (suc (length ms)) sends _ _ (sent_last ms _
      ∙ ap (λ (x : Option (Send P)).
      elim x [ None ↦ None | Some y ↦ Some (record { from = i; to = y.to; body = y.message }) ]) h),
)
posted_has i (suc at) (t ∷ sends) ms s h = posted_has i at sends _ s h

-- What an event leaves as it was.

-- Nothing happened to replica j.
pub record SameAt {P : Type 0} (old new : World P) (j : ℕ) : Type 0 where
  pub replica : new.replicas j ≡ old.replicas j
  pub stored : new.stored j ≡ old.stored j
  pub kept : new.kept j ≡ old.kept j
  pub nonces : new.nonces j ≡ old.nonces j

-- Of a world to another: what happens at replica i leaves the others, and each message has its number.
pub record IsLater {P : Type 0} (old new : World P) (i : ℕ) : Type 0 where
  pub others : (j : ℕ) → j ≢ i → SameAt old new j
  pub sent : (k : ℕ) (x : Message P) → sent_as k old.messages ≡ Some x → sent_as k new.messages ≡ Some x

pub later_refl : {P : Type 0} (w : World P) (i : ℕ) → IsLater w w i
later_refl w i = record {
  others = λ j ne. record { replica = refl; stored = refl; kept = refl; nonces = refl };
  sent = λ k x h. h;
}

pub later_trans : {P : Type 0} (a b c : World P) (i : ℕ) → IsLater a b i → IsLater b c i → IsLater a c i
later_trans a b c i p q = record {
  others = λ j ne. record {
    replica = (q.others j ne).replica ∙ (p.others j ne).replica;
    stored = (q.others j ne).stored ∙ (p.others j ne).stored;
    kept = (q.others j ne).kept ∙ (p.others j ne).kept;
    nonces = (q.others j ne).nonces ∙ (p.others j ne).nonces;
  };
  sent = λ k x h. q.sent k x (p.sent k x h);
}

-- a step of replica i
pub made_later : {P : Type 0} (i : ℕ) (d : Outcome P) (w : World P) → IsLater w (made i d w) i
made_later i d w = record {
  others = λ j ne. record {
    replica = put_there i j (Some d.state) w.replicas ne;
    stored = put_there i j
        d.state.view_number w.stored ne;
    kept = refl;
    nonces = refl;
  };
  sent = λ k x h. posted_keeps i k d.sends w.messages x h;
}

-- Steps, as events of the world.
module _ {P : Type 0} (n i : ℕ) (w : World P) (r : State P) (lt : i < n) (up : w.replicas i ≡ Some r) where
  pub requested : (e : LogEntry P) → happens n w (Request i e) ≡ made i (step n i r (event.Request e)) w
  requested e = ap (λ b. cond b (stepped i (λ x. step n i x (event.Request e)) (w.replicas i) w) w) (lt-ltb i n lt)
      ∙ ap (λ o. stepped i (λ x. step n i x (event.Request e)) o w) up

  pub suspected : happens n w (Suspect i) ≡ made i (step n i r event.Suspect) w
  suspected = ap (λ b. cond b (stepped i (λ x. step n i x event.Suspect) (w.replicas i) w) w) (lt-ltb i n lt)
      ∙ ap (λ o. stepped i (λ x. step n i x event.Suspect) o w) up

  pub beaten : happens n w (Beat i) ≡ made i (step n i r event.Beat) w
  beaten = ap (λ b. cond b (stepped i (λ x. step n i x event.Beat) (w.replicas i) w) w) (lt-ltb i n lt)
      ∙ ap (λ o. stepped i (λ x. step n i x event.Beat) o w) up

  pub heard : (k : ℕ) (m : Message P) → sent_as k w.messages ≡ Some m → m.to ≡ i → happens n w (Deliver k) ≡
      made i (step n i r (event.Message m.from m.body)) w
  heard k m sent to =
      ap (λ o. delivered n o w) sent
      ∙ ap (λ j. stepped j (λ x. step n j x (event.Message m.from m.body)) (w.replicas j) w) to
      ∙ ap (λ o. stepped i (λ x. step n i x (event.Message m.from m.body)) o w) up

  -- it crashes
  pub crashed_is : happens n w (Crash i) ≡ record w {
    replicas = put i None w.replicas;
    kept = put i (kept_of r)
        w.kept;
  }
  crashed_is = ap (λ b. cond b (crashed i (w.replicas i) w) w) (lt-ltb i n lt) ∙ ap (λ o. crashed i o w) up

-- the world that a recovery leaves
abbrev pub recovered_with : {P : Type 0} → ℕ → ℕ → ℕ → World P → World P
recovered_with n i x w = made i (record {
  state = recovering n (w.stored i) x;
  sends = to_all n i (Recovery x);
  replies = [];
}) (record w { nonces = put i (x ∷ w.nonces i) w.nonces })

-- A replica that is down recovers, with a nonce that it never used.
pub recovered_is : {P : Type 0} (n i x : ℕ) (w : World P) → i < n → w.replicas i ≡ None → has_used x (w.nonces i) ≡
    false → happens n w (Recover i x) ≡ recovered_with n i x w
recovered_is {P} n i x w lt down new =
    ap (λ b. cond b (recovered n i x (w.replicas i) w) w) (lt-ltb i n lt) ∙ ap (λ o. recovered n i x o w) down
    ∙ ap (λ b. cond b w (recovered_with n i x w)) new

-- the world that a replica leaves that goes on from its journal
abbrev pub resumed_with : {P : Type 0} → ℕ → ℕ → ℕ → Change P → World P → World P
resumed_with n i k c w = made i (idle (resuming n (w.stored i) k c)) (record w { kept = put i None w.kept })

-- A replica that is down goes on from its journal.
pub resumed_is : {P : Type 0} (n i k : ℕ) (c : Change P) (w : World P) → i < n → w.replicas i ≡ None →
    w.kept i ≡ Some c → happens n w (Resume i k) ≡ resumed_with n i k c w
resumed_is {P} n i k c w lt down kept =
    ap (λ b. cond b (resumed n i k (w.replicas i) (w.kept i) w) w) (lt-ltb i n lt)
    ∙ ap (λ o. resumed n i k o (w.kept i) w) down ∙ ap (λ (o : Option (Change P)). resumed n i k None o w) kept

-- The law, of a world that events lead to.
pub record IsReached {P : Type 0} (n : ℕ) (w : World P) : Type 0 where
  pub past : List (WorldEvent P)
  pub is : after n past ≡ w

pub reached_start : {P : Type 0} (n : ℕ) → IsReached {P = P} n (start n)
reached_start n = record { past = []; is = refl }

pub reached_more : {P : Type 0} (n : ℕ) (w : World P) (x : WorldEvent P) → IsReached n w → IsReached n (happens n w x)
reached_more n w x h = record {
  past = h.past ++ x ∷ [];
  is = run-append n h.past (x ∷ []) (start n)
      ∙ ap (λ u. happens n u x) h.is;
}

pub reached_run : {P : Type 0} (n : ℕ) (w : World P) (xs : List (WorldEvent P)) → IsReached n w →
    IsReached n (run n xs w)
reached_run n w xs h = record { past = h.past ++ xs; is = run-append n h.past xs (start n) ∙ ap (λ u. run n xs u) h.is }

-- what a replica has committed stays
pub keeps_committed : {P : Type 0} (n : ℕ) → IsSize n → (w : World P) (x : WorldEvent P) (i : ℕ) (r s : State P) →
    IsReached n w → w.replicas i ≡ Some r → (happens n w x).replicas i ≡ Some s
    → IsPrefix (take r.commit_number r.log) (take s.commit_number s.log)
keeps_committed {P} n size w x i r s h was is =
    steps_keep n size h.past x i r s (ap (λ (u : World P). u.replicas i) h.is ∙ was)
    (ap (λ (u : World P). u.replicas i) (run-append n h.past (x ∷ []) (start n) ∙ ap (λ u. happens n u x) h.is) ∙ is)

-- and begins what is committed.
pub begins_committed : {P : Type 0} (n : ℕ) → IsSize n → (w : World P) (i : ℕ) (r : State P) → IsReached n w →
    w.replicas i ≡ Some r → IsPrefix (take r.commit_number r.log) (committed n w.messages)
begins_committed {P} n size w i r h is =
    subst (λ (u : World P). IsPrefix (take r.commit_number r.log) (committed n u.messages)) h.is
    (replicas_agree n size h.past i r (ap (λ (u : World P). u.replicas i) h.is ∙ is))
