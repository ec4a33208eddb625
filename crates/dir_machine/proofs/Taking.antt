-- What a node takes happens in the world.
use Rattle.std.proofs.Common.{◌≡◌, ℕ, zero, suc, ◌<◌, List, [], ◌∷◌, ◌++◌, length, take, drop, Option, Some, None, Bool, true, false, inl, inr, Result, Ok, Err, slice_get, refl, sym, ap, ◌∙◌, subst, append_assoc}
use Rattle.std.proofs.Math.Seq.{drop-append_seam}
use Rattle.std.specs.declared.alloc.AllocError.{AllocError}
use Rattle.dir_node.specs.Handling.{MakesSteps}
use Rattle.dir_node.specs.NodeState.{CatchesUp, given as gives}
use Rattle.dir_node.specs.log_journal.Taken.{MakesSome}
use Rattle.state_machine.specs.dir_store.ldap_op.Values.{OpValue}
use Rattle.vr_state.proofs.Laws.{prefix_refl, prefix_trans}
use Rattle.vr_state.specs.Lists.{IsPrefix}
use Rattle.vr_state.specs.Outcome.{Outcome}
use Rattle.vr_state.specs.State.{State}
use Rattle.vr_state.specs.Step.{step}
use Rattle.vr_state.specs.Words.{LogEntry}
use Rattle.vr_state.specs.declared.event.Event.{Event}
use Rattle.vr_state.specs.declared.message.Outputs.{Outputs}
use Rattle.vr_state.specs.declared.message.Send.{Send}
use Rattle.vr_wire.specs.PartLaws.{FramesGiveMessage}
use Rattle.vr_world.specs.Law.{IsSize}
use Rattle.vr_world.specs.World.{World, happens, made, run, sent_as}
use Rattle.vr_world.specs.declared.events.WorldEvent.{WorldEvent}
use Rattle.vr_world.specs.declared.events.WorldEvent.TheVariants.{Request, Deliver, Suspect, Beat}
use Rattle.vr_world.specs.declared.words.Message.{Message}
use Rattle.dir_machine.proofs.Gathered.{framed_sent, frames_heard}
use Rattle.dir_machine.proofs.Places.{places_heard}
use Rattle.dir_machine.proofs.Worlds.{IsLater, IsReached, beaten, heard, keeps_committed, later_refl, later_trans, made_later, posted_has, put_here, reached_more, requested, suspected}
use Rattle.dir_machine.specs.Happening.{IsDelivery, IsThat, TakesEach, TakesSome}
use Rattle.dir_machine.specs.Shown.{message_at, message_by, message_framed, message_in, message_of}
use Rattle.dir_machine.specs.private.Givens.{AreAsked, IsAsked, IsHeard}
use Rattle.dir_machine.specs.private.Running.{AreFramed, AreSent}
use Rattle.dir_machine.specs.declared.events.Given.{Given}
use Rattle.dir_machine.specs.declared.events.Given.TheVariants as given
use Rattle.dir_machine.specs.declared.replies.MachineReply.{MachineReply}

-- a list goes on to one that it begins
go_on : {A : Type 0} (done all : List A) → IsPrefix done all → done ++ drop (length done) all ≡ all
go_on {A} done all p = subst (λ (l : List A). done ++ drop (length done) l ≡ l) p.is
    (ap (λ l. done ++ l) (drop-append_seam done p.rest))

-- What is executed still begins what is committed.
pub caught_up : (behind : Bool) (old new all : List (LogEntry OpValue)) → IsPrefix old all →
    CatchesUp behind old (drop (length old) all) new → IsPrefix new all
caught_up false old new all p h = subst (λ (l : List (LogEntry OpValue)). IsPrefix l all) (sym (h ∙ go_on old all p))
    (prefix_refl all)
caught_up true old new all p h = record {
  rest = h.left;
  is = ap (λ l. l ++ h.left) h.grown ∙ append_assoc old h.done h.left ∙ ap (λ l. old ++ l) h.both ∙ go_on old all p;
}

-- What a replica was given happened in the world, as far as it took it.
pub record Ran (n i : ℕ) (before : List MachineReply) (gs : List Given)
    (outs : List (Result (Outputs OpValue) AllocError)) (w : World OpValue) (r s : State OpValue) : Type 0 where
  pub happened : List (WorldEvent OpValue)
  pub each : TakesEach n before i gs outs happened w
  pub later : IsLater w (run n happened w) i
  pub replica : (run n happened w).replicas i ≡ Some s
  pub stored : (run n happened w).stored i ≡ s.view_number
  pub nonces : (run n happened w).nonces i ≡ w.nonces i
  pub committed : IsPrefix (take r.commit_number r.log) (take s.commit_number s.log)
  pub sent : (part at : ℕ) (m : Message OpValue) → message_in i (slice_get outs part) at ≡ Some m → (k : ℕ)
      × (sent_as k (run n happened w).messages ≡ Some m)

-- what a replica is given, as an event of the world
pub record IsEvent (n i : ℕ) (before : List MachineReply) (g : Given) (w : World OpValue) (d : Outcome OpValue) :
    Type 0 where
  pub happened : WorldEvent OpValue
  pub that : IsThat before i g w happened
  pub is : happens n w happened ≡ made i d w

-- a message that comes, as an event of the world
record IsDelivered (n i : ℕ) (before : List MachineReply) (o : Option (Message OpValue)) (w : World OpValue)
    (d : Outcome OpValue) : Type 0 where
  happened : WorldEvent OpValue
  that : IsDelivery before i o w happened
  is : happens n w happened ≡ made i d w

module _ (law : FramesGiveMessage) (cluster n i : ℕ) (size : IsSize n) (lt : i < n) (before : List MachineReply)
    (framed : AreFramed cluster before) where
  -- a message that was sent is delivered
  heard_happens : (o : Option (Message OpValue)) (e : Event OpValue) (w : World OpValue) (r : State OpValue)
      (h : IsHeard i o e) → (k : ℕ) × (sent_as k w.messages ≡ Some h.message) → w.replicas i ≡ Some r →
      IsDelivered n i before o w (step n i r e)
  heard_happens o e w r h k up = record {
    happened = Deliver k.0;
    that = record { number = k.0; message = h.message; shown = h.shown; to = h.to; sent = k.1; is = refl };
    is = heard n i w r lt up k.0 h.message k.1 h.to ∙ ap (λ (y : Event OpValue). made i (step n i r y) w) (sym h.is);
  }

  -- what a replica is given happens
  asked_happens : (g : Given) (e : Event OpValue) (w : World OpValue) (r : State OpValue) → AreSent before w →
      IsAsked cluster before i g e → w.replicas i ≡ Some r → IsEvent n i before g w (step n i r e)
  asked_happens (given.Request entry) e w r sent is up = record {
    happened = Request i entry;
    that = refl;
    is =
        requested n i w r lt up entry ∙ ap (λ (y : Event OpValue). made i (step n i r y) w) (sym is);
  }
  asked_happens given.Suspect e w r sent is up = record {
    happened = Suspect i;
    that = refl;
    is = suspected n i w r lt
        up ∙ ap (λ (y : Event OpValue). made i (step n i r y) w) (sym is);
  }
  asked_happens given.Beat e w r sent is up = record {
    happened = Beat i;
    that = refl;
    is = beaten n i w r lt up
        ∙ ap (λ (y : Event OpValue). made i (step n i r y) w) (sym is);
  }
  asked_happens (given.Message place) e w r sent is up =
      let x = heard_happens (message_at before place) e w r is (sent place is.message is.shown) up in
      record { happened = x.happened; that = x.that; is = x.is }
  asked_happens (given.Frames at octets) e w r sent is up =
      let came = frames_heard law cluster before i at e framed is in
      let x = heard_happens (message_framed before at) e w r came (framed_sent before w at came.message sent came.shown)
      up in
      record { happened = x.happened; that = x.that; is = x.is }
  asked_happens (given.Heard places) e w r sent is up =
      let came = places_heard law cluster before i places.items e framed is in
      let x = heard_happens (message_framed before came.0) e w r came.2
      (framed_sent before w came.0 came.2.message sent came.2.shown) up in
      record { happened = x.happened; that = (came.0, came.1, x.that); is = x.is }

  -- a message among what was given out is one that was sent
  gave : (out : Outputs OpValue) (at : ℕ) (m : Message OpValue) (w u : World OpValue) (t : State OpValue) →
      u ≡ made i (gives t out) w → message_of i out at ≡ Some m → (k : ℕ) × (sent_as k u.messages ≡ Some m)
  gave out at m w u t is = go (slice_get out.sends.items at) refl
    where
      go : (o : Option (Send OpValue)) → slice_get out.sends.items at ≡ o → message_by i o ≡ Some m → (k : ℕ)
          × (sent_as k u.messages ≡ Some m)
      go None e h = absurd (cc)
      go (Some s) e h = let k = posted_has i at out.sends.items w.messages s e
          in (k.0, ap (λ (v : World OpValue). sent_as k.0 v.messages) is ∙ k.1 ∙ h)

  -- one that it took, and then the others
  one_ran : (g : Given) (e : Event OpValue) (out : Outputs OpValue) (gs : List Given)
      (outs : List (Result (Outputs OpValue) AllocError)) (w : World OpValue) (r s : State OpValue)
      → IsEvent n i before g w (step n i r e) → (t : State OpValue) → gives t out ≡ step n i r e → IsReached n w →
      AreSent before w → w.replicas i ≡ Some r
      → ((u : World OpValue) → IsReached n u → AreSent before u → u.replicas i ≡ Some t → u.stored i ≡ t.view_number →
      Ran n i before gs outs u t s)
      → Ran n i before (g ∷ gs) (Ok out ∷ outs) w r s
  one_ran g e out gs outs w r s x t is reached sent up rest = go (rest u (reached_more n w x.happened reached)
      (λ place m h. let k = sent place m h in (k.0, later.sent k.0 m k.1)) here
      (ap (λ (v : World OpValue). v.stored i) to ∙ put_here i t.view_number w.stored))
    where
      u : World OpValue
      u = happens n w x.happened

      to : u ≡ made i (gives t out) w
      to = x.is ∙ ap (λ (d : Outcome OpValue). made i d w) (sym is)

      here : u.replicas i ≡ Some t
      here = ap (λ (v : World OpValue). v.replicas i) to ∙ put_here i (Some t) w.replicas

      later : IsLater w u i
      later = subst (λ (v : World OpValue). IsLater w v i) (sym to) (made_later i (gives t out) w)

      go : Ran n i before gs outs u t s → Ran n i before (g ∷ gs) (Ok out ∷ outs) w r s
      go then = record {
        happened = x.happened ∷ then.happened;
        each = (
          x.that,
          record {
            sends = ap (λ (v : World OpValue). v.messages) to;
            replies =
                ap (λ (v : World OpValue). v.replies) to;
          },
          then.each,
        );
        later = later_trans w u (run n then.happened u) i later then.later;
        replica = then.replica;
        stored = then.stored;
        nonces = then.nonces ∙ ap (λ (v : World OpValue). v.nonces i) to;
        committed = prefix_trans (keeps_committed n size w x.happened i r t reached up here) then.committed;
        sent = among;
      }
        where
          among : (part at : ℕ) (m : Message OpValue) → message_in i (slice_get (Ok out ∷ outs) part) at ≡ Some m →
              (k : ℕ) × (sent_as k (run n then.happened u).messages ≡ Some m)
          among zero at m h = let k = gave out at m w u t to h in (k.0, then.later.sent k.0 m k.1)
          among (suc part) at m h = then.sent part at m h

  -- one that was left out, and then the others
  none_ran : (g : Given) (x : AllocError) (gs : List Given) (outs : List (Result (Outputs OpValue) AllocError))
      (w : World OpValue) (r s : State OpValue) → Ran n i before gs outs w r s →
      Ran n i before (g ∷ gs) (Err x ∷ outs) w r s
  none_ran g x gs outs w r s then = record {
    happened = then.happened;
    each = then.each;
    later = then.later;
    replica = then.replica;
    stored = then.stored;
    nonces = then.nonces;
    committed = then.committed;
    sent = among;
  }
    where
      among : (part at : ℕ) (m : Message OpValue) → message_in i (slice_get (Err x ∷ outs) part) at ≡ Some m → (k : ℕ)
          × (sent_as k (run n then.happened w).messages ≡ Some m)
      among zero at m h = absurd (cc)
      among (suc part) at m h = then.sent part at m h

  -- All of them, one after another.
  pub ran : (gs : List Given) (es : List (Event OpValue)) (outs : List (Result (Outputs OpValue) AllocError))
      (w : World OpValue) (r s : State OpValue) → IsReached n w → AreSent before w → AreAsked cluster before i gs es
      → w.replicas i ≡ Some r → w.stored i ≡ r.view_number → MakesSteps n i r es outs s → Ran n i before gs outs w r s
  ran [] [] [] w r s reached sent asked up stored steps = record {
    happened = [];
    each = tt;
    later = later_refl w i;
    replica = up ∙ ap (λ (x : State OpValue). Some x) (sym steps);
    stored = stored ∙ ap (λ (x : State OpValue). x.view_number) (sym steps);
    nonces = refl;
    committed = subst (λ (x : State OpValue). IsPrefix (take r.commit_number r.log) (take x.commit_number x.log))
        (sym steps) (prefix_refl (take r.commit_number r.log));
    sent = λ part at m h. absurd (cc);
  }
  ran (g ∷ gs) (e ∷ es) (Ok out ∷ outs) w r s reached sent asked up stored steps =
      one_ran g e out gs outs w r s (asked_happens g e w r sent asked.0 up) steps.0 steps.1 reached sent up
      (λ u a b c d. ran gs es outs u steps.0 s a b asked.1 c d steps.2)
  ran (g ∷ gs) (e ∷ es) (Err x ∷ outs) w r s reached sent asked up stored steps = none_ran g x gs outs w r s
      (ran gs es outs w r s reached sent asked.1 up stored steps)
  ran [] (e ∷ es) outs w r s reached sent asked up stored steps = absurd asked
  ran (g ∷ gs) [] outs w r s reached sent asked up stored steps = absurd asked
  ran [] [] (x ∷ outs) w r s reached sent asked up stored steps = absurd steps
  ran (g ∷ gs) (e ∷ es) [] w r s reached sent asked up stored steps = absurd steps

-- Steps that a call made are some of those that it was given.
pub steps_some : (n i : ℕ) (r : State OpValue) (es : List (Event OpValue))
    (xs : List (Result (Outputs OpValue) AllocError)) (s : State OpValue) → MakesSteps n i r es xs s →
    MakesSome n i r es s
steps_some n i r [] [] s h = h
steps_some n i r (e ∷ es) (Ok out ∷ xs) s h =
    inr (h.0, inr (ap (λ (d : Outcome OpValue). d.state) h.1), steps_some n i h.0 es xs s h.2)
steps_some n i r (e ∷ es) (Err x ∷ xs) s h = inr (r, inl refl, steps_some n i r es xs s h)
steps_some n i r [] (x ∷ xs) s h = absurd h
steps_some n i r (e ∷ es) [] s h = absurd h

-- Some first of what a replica was given happened in the world.
pub record RanSome (n i : ℕ) (before : List MachineReply) (gs : List Given) (w : World OpValue) (s : State OpValue) :
    Type 0 where
  pub happened : List (WorldEvent OpValue)
  pub some : TakesSome n before i gs happened w
  pub later : IsLater w (run n happened w) i
  pub replica : (run n happened w).replicas i ≡ Some s
  pub stored : (run n happened w).stored i ≡ s.view_number
  pub nonces : (run n happened w).nonces i ≡ w.nonces i

-- none of it
pub none_taken : (n : ℕ) (before : List MachineReply) (i : ℕ) (gs : List Given) (w : World OpValue) →
    TakesSome n before i gs [] w
none_taken n before i [] w = refl
none_taken n before i (g ∷ gs) w = inl refl

module _ (n i : ℕ) (lt : i < n) (before : List MachineReply) where
  -- none happened
  ran_none : (gs : List Given) (w : World OpValue) (r s : State OpValue) → w.replicas i ≡ Some r →
      w.stored i ≡ r.view_number → s ≡ r → RanSome n i before gs w s
  ran_none gs w r s up stored same = record {
    happened = [];
    some = none_taken n before i gs w;
    later = later_refl w i;
    replica = up ∙ ap (λ (x : State OpValue). Some x) (sym same);
    stored = stored ∙ ap (λ (x : State OpValue). x.view_number) (sym same);
    nonces = refl;
  }

  -- one was left out
  ran_others : (g : Given) (gs : List Given) (w : World OpValue) (s : State OpValue) → RanSome n i before gs w s →
      RanSome n i before (g ∷ gs) w s
  ran_others g gs w s then = record {
    happened = then.happened;
    some = inr (inl then.some);
    later =
        then.later;
    replica = then.replica;
    stored = then.stored;
    nonces = then.nonces;
  }

  -- one happened, and then some of the others
  ran_one : (g : Given) (gs : List Given) (w : World OpValue) (s t : State OpValue) (d : Outcome OpValue) →
      IsEvent n i before g w d → t ≡ d.state → AreSent before w
      → ((u : World OpValue) → AreSent before u → u.replicas i ≡ Some t → u.stored i ≡ t.view_number →
      RanSome n i before gs u s) → RanSome n i before (g ∷ gs) w s
  ran_one g gs w s t d x is sent rest =
      go (rest u (λ place m h. let k = sent place m h in (k.0, later.sent k.0 m k.1)) here there)
    where
      u : World OpValue
      u = happens n w x.happened

      here : u.replicas i ≡ Some t
      here = ap (λ (v : World OpValue). v.replicas i) x.is ∙ put_here i (Some d.state) w.replicas
          ∙ ap (λ (y : State OpValue). Some y) (sym is)

      there : u.stored i ≡ t.view_number
      there = ap (λ (v : World OpValue). v.stored i) x.is ∙ put_here i d.state.view_number w.stored
          ∙ ap (λ (y : State OpValue). y.view_number) (sym is)

      later : IsLater w u i
      later = subst (λ (v : World OpValue). IsLater w v i) (sym x.is) (made_later i d w)

      go : RanSome n i before gs u s → RanSome n i before (g ∷ gs) w s
      go then = record {
        happened = x.happened ∷ then.happened;
        some = inr (inr (x.happened, then.happened, refl, x.that, then.some));
        later = later_trans w u (run n then.happened u) i later then.later;
        replica = then.replica;
        stored = then.stored;
        nonces = then.nonces ∙ ap (λ (v : World OpValue). v.nonces i) x.is;
      }

  -- Some first of them, one after another.
  pub some_ran : (law : FramesGiveMessage) (cluster : ℕ) → AreFramed cluster before → IsSize n →
      (gs : List Given) (es : List (Event OpValue)) (w : World OpValue) (r s : State OpValue) →
      AreSent before w → AreAsked cluster before i gs es
      → w.replicas i ≡ Some r → w.stored i ≡ r.view_number → MakesSome n i r es s → RanSome n i before gs w s
  some_ran law cluster framed size [] [] w r s sent asked up stored made = ran_none [] w r s up stored made
  some_ran law cluster framed size (g ∷ gs) (e ∷ es) w r s sent asked up stored (inl same) = ran_none
      (g ∷ gs) w r s up stored same
  some_ran law cluster framed size (g ∷ gs) (e ∷ es) w r s sent asked up stored (inr (t, inl same, rest)) =
      ran_others g gs w s (some_ran law cluster framed size gs es w r s sent asked.1 up stored
      (subst (λ (x : State OpValue). MakesSome n i x es s) same rest))
  some_ran law cluster framed size (g ∷ gs) (e ∷ es) w r s sent asked up stored (inr (t, inr is, rest)) =
      ran_one g gs w s t (step n i r e) (asked_happens law cluster n i size lt before framed g e w r sent asked.0 up) is
      sent
      (λ u a b c. some_ran law cluster framed size gs es u t s a asked.1 b c rest)
  some_ran law cluster framed size [] (e ∷ es) w r s sent asked up stored made = absurd asked
  some_ran law cluster framed size (g ∷ gs) [] w r s sent asked up stored made = absurd asked
