-- Each reply names a committed record. What one step answers is the law on steps.
use Rattle.std.proofs.Common.{◌≡◌, ℕ, nat_lt, ◌⊎◌, inl, inr, List, [], ◌∷◌, take, Option, Some, None, refl, ap, subst}
use Rattle.vr_state.proofs.Laws.{Right, named_more, request_right, message_right, suspect_right, beat_right, by_test}
use Rattle.vr_state.specs.Lists.{In, IsNamedIn}
use Rattle.vr_state.specs.Outcome.{Outcome}
use Rattle.vr_state.specs.State.{State}
use Rattle.vr_state.specs.Step.{step}
use Rattle.vr_state.specs.declared.message.Change.{Change}
use Rattle.vr_state.specs.Words.{LogEntry}
use Rattle.vr_state.specs.declared.words.Reply.{Reply}
use Rattle.vr_world.proofs.Listed.{listed_committed}
use Rattle.vr_world.proofs.Moves.{put_same}
use Rattle.vr_world.proofs.Runs.{happens_holds}
use Rattle.vr_world.proofs.Invariant.{Holds}
use Rattle.vr_world.proofs.Theorems.{committed_stays, replica_agrees}
use Rattle.vr_world.specs.Law.{IsSize}
use Rattle.vr_world.specs.World.{has_used, World, ReplyBy, Message, WorldEvent, answered, made, stepped, delivered, recovered, crashed, resumed, sent_as, happens, run}
use Rattle.vr_state.specs.declared.event.Event.TheVariants as event
use Rattle.vr_world.specs.declared.events.WorldEvent.TheVariants.{Request, Deliver, Suspect, Beat, Crash, Recover, Resume}

-- a reply was there or is new
replies_new : (i : ℕ) (rs : List Reply) (ts : List ReplyBy) (t : ReplyBy) → In t (answered i rs ts) → In t ts
    ⊎ In t.reply rs
replies_new i [] ts t h = inl h
replies_new i (r ∷ rs) ts t h = go (replies_new i rs (record { replica = i; reply = r } ∷ ts) t h)
  where
    go : ((t ≡ record { replica = i; reply = r }) ⊎ In t ts) ⊎ In t.reply rs → In t ts ⊎ In t.reply (r ∷ rs)
    go (inl (inl e)) = inr (inl (ap (λ u. u.reply) e))
    go (inl (inr s)) = inl s
    go (inr s) = inr (inr s)

module _ {P : Type 0} (n : ℕ) (size : IsSize n) where
  -- The replies so far name committed records.
  abbrev RepliesFact : World P → World P → Type 0
  RepliesFact old w = (t : ReplyBy) → In t w.replies → In t old.replies
      ⊎ IsNamedIn t.reply (listed_committed n w.messages)

  -- the replies of a step
  replies_made : (past : ℕ → List (LogEntry P)) (old w : World P) (i : ℕ) (d : Outcome P) → Right d →
      w.replies ≡ old.replies → Holds n past (made i d w) → RepliesFact old (made i d w)
  replies_made past old w i d right same inv t h = go (replies_new i d.replies w.replies t h)
    where
      go : In t w.replies ⊎ In t.reply d.replies → In t old.replies
          ⊎ IsNamedIn t.reply (listed_committed n (made i d w).messages)
      go (inl s) = inl (subst (In t) same s)
      go (inr s) = inr (named_more t.reply (take d.state.commit_number d.state.log)
          (listed_committed n (made i d w).messages) (replica_agrees n size past (made i d w) inv i d.state
          (put_same i (Some d.state) w.replicas)) (right t.reply s))

  -- of a replica that is up
  replies_stepped : (past : ℕ → List (LogEntry P)) (w : World P) (i : ℕ) (step : State P → Outcome P) →
      ((r : State P) → Right (step r)) → (o : Option (State P)) → Holds n past (stepped i step o w) →
      RepliesFact w (stepped i step o w)
  replies_stepped past w i step right None inv = λ t h. inl h
  replies_stepped past w i step right (Some r) inv = replies_made past w w i (step r) (right r) refl inv

  -- of a delivery
  replies_delivered : (past : ℕ → List (LogEntry P)) (w : World P) (o : Option (Message P)) →
      Holds n past (delivered n o w) → RepliesFact w (delivered n o w)
  replies_delivered past w None inv = λ t h. inl h
  replies_delivered past w (Some m) inv = replies_stepped past w m.to
      (λ r. step n m.to r (event.Message m.from m.body)) (λ r. message_right n m.to r m.from m.body) (w.replicas m.to)
      inv

  -- a recovery gives none
  replies_recovered : (w : World P) (i x : ℕ) (o : Option (State P)) → RepliesFact w (recovered n i x o w)
  replies_recovered w i x (Some r) = λ t h. inl h
  replies_recovered w i x None = by_test (RepliesFact w) (has_used x (w.nonces i)) _ _ (λ e t h. inl h) (λ e t h. inl h)

  -- nor does a crash
  replies_crashed : (w : World P) (i : ℕ) (o : Option (State P)) → RepliesFact w (crashed i o w)
  replies_crashed w i None = λ t h. inl h
  replies_crashed w i (Some r) = λ t h. inl h

  -- nor does who goes on
  replies_resumed : (w : World P) (i k : ℕ) (o : Option (State P)) (c : Option (Change P)) →
      RepliesFact w (resumed n i k o c w)
  replies_resumed w i k (Some r) c = λ t h. inl h
  replies_resumed w i k None None = λ t h. inl h
  replies_resumed w i k None (Some c) = λ t h. inl h

  -- of an event
  replies_happen : (past : ℕ → List (LogEntry P)) (w : World P) (e : WorldEvent P) → Holds n past (happens n w e) →
      RepliesFact w (happens n w e)
  replies_happen past w (Request i e) = by_test (λ u. Holds n past u → RepliesFact w u) (nat_lt i n) _ _
      (λ k inv. replies_stepped past w i (λ r. step n i r (event.Request e)) (λ r. request_right n i r e)
      (w.replicas i) inv) (λ k inv t h. inl h)
  replies_happen past w (Deliver k) = λ inv. replies_delivered past w (sent_as k w.messages) inv
  replies_happen past w (Suspect i) = by_test (λ u. Holds n past u → RepliesFact w u) (nat_lt i n) _ _
      (λ k inv. replies_stepped past w i (λ r. step n i r event.Suspect) (λ r. suspect_right n i r r.status)
      (w.replicas i) inv) (λ k inv t h. inl h)
  replies_happen past w (Beat i) = by_test (λ u. Holds n past u → RepliesFact w u) (nat_lt i n) _ _
      (λ k inv. replies_stepped past w i (λ r. step n i r event.Beat) (λ r. beat_right n i r r.status) (w.replicas i)
      inv) (λ k inv t h. inl h)
  replies_happen past w (Crash i) = by_test (λ u. Holds n past u → RepliesFact w u) (nat_lt i n) _ _
      (λ k inv. replies_crashed w i (w.replicas i)) (λ k inv t h. inl h)
  replies_happen past w (Recover i x) = by_test (λ u. Holds n past u → RepliesFact w u) (nat_lt i n) _ _
      (λ k inv. replies_recovered w i x (w.replicas i)) (λ k inv t h. inl h)
  replies_happen past w (Resume i x) = by_test (λ u. Holds n past u → RepliesFact w u) (nat_lt i n) _ _
      (λ k inv. replies_resumed w i x (w.replicas i) (w.kept i)) (λ k inv t h. inl h)

  -- Over a whole schedule.
  pub replies_run : (past : ℕ → List (LogEntry P)) (es : List (WorldEvent P)) (w : World P) → Holds n past w →
      ((t : ReplyBy) → In t w.replies → IsNamedIn t.reply (listed_committed n w.messages)) → (t : ReplyBy) →
      In t (run n es w).replies → IsNamedIn t.reply (listed_committed n (run n es w).messages)
  replies_run past [] w inv replies = replies
  replies_run past (e ∷ es) w inv replies = replies_run past es (happens n w e) next
      (λ t h. go t (replies_happen past w e next t h))
    where
      next : Holds n past (happens n w e)
      next = happens_holds n size past w inv e

      go : (t : ReplyBy) → In t w.replies ⊎ IsNamedIn t.reply (listed_committed n (happens n w e).messages) →
          IsNamedIn t.reply (listed_committed n (happens n w e).messages)
      go t (inl h) = named_more t.reply (listed_committed n w.messages) (listed_committed n (happens n w e).messages)
          (committed_stays n size past w inv (e ∷ [])) (replies t h)
      go t (inr h) = h
