-- The replies of one event. What one step answers is the law on steps.
use Rattle.std.proofs.Common.{◌≡◌, ℕ, nat_lt, ◌⊎◌, inl, inr, List, [], ◌∷◌, ◌++◌, reverse, Option, Some, None, refl, ap, ◌∙◌, subst}
use Rattle.std.proofs.lemmas.List.{reverse-append}
use Rattle.vr_state.proofs.Laws.{Right, request_right, message_right, suspect_right, beat_right, by_test}
use Rattle.vr_state.specs.Lists.{In}
use Rattle.vr_state.specs.Outcome.{Outcome}
use Rattle.vr_state.specs.State.{State}
use Rattle.vr_state.specs.Step.{step}
use Rattle.vr_state.specs.declared.message.Change.{Change}
use Rattle.vr_state.specs.declared.words.Reply.{Reply}
use Rattle.vr_state.specs.declared.event.Event.TheVariants as event
use Rattle.vr_world.proofs.Moves.{put_same}
use Rattle.vr_world.proofs.Telling.{answered_is}
use Rattle.vr_world.specs.private.Acts.{given_by}
use Rattle.vr_world.specs.Law.{GivenSince, RepliesAreExecuted}
use Rattle.vr_world.specs.World.{has_used, World, ReplyBy, Message, WorldEvent, made, stepped, delivered, recovered, crashed, resumed, sent_as, happens}
use Rattle.vr_world.specs.declared.events.WorldEvent.TheVariants.{Request, Deliver, Suspect, Beat, Crash, Recover, Resume}

-- what is in one of two lists
in_either : {A : Type 0} (x : A) (xs ys : List A) → In x (xs ++ ys) → In x xs ⊎ In x ys
in_either x [] ys h = inr h
in_either x (y ∷ xs) ys (inl e) = inl (inl e)
in_either {A} x (y ∷ xs) ys (inr h) = go (in_either x xs ys h)
  where
    go : In x xs ⊎ In x ys → In x (y ∷ xs) ⊎ In x ys
    go (inl k) = inl (inr k)
    go (inr k) = inr k

-- what is in a list the other way
in_reverse : {A : Type 0} (x : A) (xs : List A) → In x (reverse xs) → In x xs
in_reverse x [] h = h
in_reverse {A} x (y ∷ xs) h = go (in_either x (reverse xs) (y ∷ []) (subst (In x) (reverse-append (y ∷ []) xs) h))
    (in_reverse x xs)
  where
    go : In x (reverse xs) ⊎ In x (y ∷ []) → (In x (reverse xs) → In x xs) → In x (y ∷ xs)
    go (inl k) ih = inr (ih k)
    go (inr (inl e)) ih = inl e
    go (inr (inr k)) ih = absurd k

-- a reply of a replica is one of its replies
by_replica : (i : ℕ) (rs : List Reply) (t : ReplyBy) → In t (given_by i rs) → (t.replica ≡ i) × In t.reply rs
by_replica i [] t h = absurd h
by_replica i (r ∷ rs) t (inl e) = (ap (λ (u : ReplyBy). u.replica) e, inl (ap (λ (u : ReplyBy). u.reply) e))
by_replica i (r ∷ rs) t (inr h) = let k = by_replica i rs t h in (k.0, inr k.1)

module _ {P : Type 0} (n : ℕ) where
  -- nothing is given
  none : (old new : World P) → new.replies ≡ old.replies → GivenSince old new
  none old new e = record { given = []; replies = e; executed = λ t h. absurd h }

  -- the replies of a step
  given_made : (old w : World P) (i : ℕ) (d : Outcome P) → Right d → w.replies ≡ old.replies →
      GivenSince old (made i d w)
  given_made old w i d right same = record {
    given = reverse (given_by i d.replies);
    replies = answered_is i d.replies w.replies ∙ ap (λ l. reverse (given_by i d.replies) ++ l) same;
    executed = λ t h. let k = by_replica i d.replies t (in_reverse t (given_by i d.replies) h) in record {
      replica = d.state;
      up = ap (made i d w).replicas k.0 ∙ put_same i (Some d.state) w.replicas;
      named = right t.reply k.1;
    };
  }

  -- of a replica that is up
  given_stepped : (w : World P) (i : ℕ) (act : State P → Outcome P) → ((r : State P) → Right (act r)) →
      (o : Option (State P)) → GivenSince w (stepped i act o w)
  given_stepped w i act right None = none w w refl
  given_stepped w i act right (Some r) = given_made w w i (act r) (right r) refl

  -- of a delivery
  given_delivered : (w : World P) (o : Option (Message P)) → GivenSince w (delivered n o w)
  given_delivered w None = none w w refl
  given_delivered w (Some m) = given_stepped w m.to (λ r. step n m.to r (event.Message m.from m.body))
      (λ r. message_right n m.to r m.from m.body) (w.replicas m.to)

  -- a recovery gives none
  given_recovered : (w : World P) (i x : ℕ) (o : Option (State P)) → GivenSince w (recovered n i x o w)
  given_recovered w i x (Some r) = none w w refl
  given_recovered w i x None = by_test (GivenSince w) (has_used x (w.nonces i)) _ _ (λ e. none w w refl)
      (λ e. none w _ refl)

  -- a crash gives none
  given_crashed : (w : World P) (i : ℕ) (o : Option (State P)) → GivenSince w (crashed i o w)
  given_crashed w i None = none w w refl
  given_crashed w i (Some r) = none w _ refl

  -- nor does who goes on
  given_resumed : (w : World P) (i k : ℕ) (o : Option (State P)) (c : Option (Change P)) →
      GivenSince w (resumed n i k o c w)
  given_resumed w i k (Some r) c = none w w refl
  given_resumed w i k None None = none w w refl
  given_resumed w i k None (Some c) = none w _ refl

  -- of an event
  pub given_happens : (w : World P) (e : WorldEvent P) → GivenSince w (happens n w e)
  given_happens w (Request i e) = by_test (GivenSince w) (nat_lt i n) _ _
      (λ k. given_stepped w i (λ r. step n i r (event.Request e)) (λ r. request_right n i r e) (w.replicas i))
      (λ k. none w w refl)
  given_happens w (Deliver k) = given_delivered w (sent_as k w.messages)
  given_happens w (Suspect i) = by_test (GivenSince w) (nat_lt i n) _ _
      (λ k. given_stepped w i (λ r. step n i r event.Suspect) (λ r. suspect_right n i r r.status) (w.replicas i))
      (λ k. none w w refl)
  given_happens w (Beat i) = by_test (GivenSince w) (nat_lt i n) _ _
      (λ k. given_stepped w i (λ r. step n i r event.Beat) (λ r. beat_right n i r r.status) (w.replicas i))
      (λ k. none w w refl)
  given_happens w (Crash i) = by_test (GivenSince w) (nat_lt i n) _ _ (λ k. given_crashed w i (w.replicas i))
      (λ k. none w w refl)
  given_happens w (Recover i x) = by_test (GivenSince w) (nat_lt i n) _ _ (λ k. given_recovered w i x (w.replicas i))
      (λ k. none w w refl)
  given_happens w (Resume i x) = by_test (GivenSince w) (nat_lt i n) _ _ (λ k. given_resumed w i x (w.replicas i)
      (w.kept i)) (λ k. none w w refl)

-- At each event the replies that are given name what their replica has committed by then.
pub replies_are_executed : {P : Type 0} → RepliesAreExecuted P
replies_are_executed n w e = given_happens n w e
