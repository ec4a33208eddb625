-- A replica comes back after a crash. How a recovery ends is an event of its own, in ChangeEvents.
use Rattle.std.proofs.Common.{◌≡◌, ℕ, ◌≤◌, ◌==◌, false, ◌||◌, List, [], ◌∷◌, map, Option, Some, None, refl, sym, ap, ◌∙◌, subst, le_refl, eq-eqb, true≢false}
use Rattle.std.specs.List.{list_any}
use Rattle.vr_state.proofs.Laws.{by_test, or_right}
use Rattle.vr_state.specs.Outcome.{send_to, others, to_all}
use Rattle.vr_state.specs.State.{State, recovering}
use Rattle.vr_state.specs.declared.message.PeerMessage.{PeerMessage}
use Rattle.vr_state.specs.declared.message.Send.{Send}
use Rattle.vr_state.specs.Words.{LogEntry}
use Rattle.vr_world.proofs.Growth.{sound_grows, replica_grows}
use Rattle.vr_world.proofs.Invariant.{Given, Sent, BodyFact, AnswersAll, ReplicaFact, Invariant, Grows, IsUsed}
use Rattle.vr_world.proofs.Moves.{put_rule, put_same, put_other, still_same, grows_same, adds_none}
use Rattle.vr_world.proofs.NormalEvents.{quiet_plain}
use Rattle.vr_world.proofs.Sends.{post_each}
use Rattle.vr_world.specs.World.{has_used, World, Message, put, posted, recovered}
use Rattle.vr_state.specs.declared.message.PeerMessage.TheVariants.{Prepare, PrepareOk, Commit, StartViewChange, DoViewChange, StartView, GetState, NewState, Recovery, RecoveryResponse}
use Rattle.vr_world.proofs.Invariant.{Holds, all_of}
use Rattle.vr_world.proofs.Resumptions.{all_made}

module _ {P : Type 0} (n : ℕ) (past : ℕ → List (LogEntry P)) where
  -- A nonce that wasn't used has no answers.
  pub recover_holds : (w : World P) → Holds n past w → (i x : ℕ) (o : Option (State P)) →
      Holds n past (recovered n i x o w)
  recover_holds w inv i x (Some r) = inv
  recover_holds w inv i x None = by_test (Holds n past) (has_used x (w.nonces i)) _ _ (λ t. inv)
      (λ t. subst (λ f. Invariant n f stored' new (posted i asks w.messages))
      (sym (all_made n i (record { state = recovering n view x; sends = asks; replies = [] })
      (record w { nonces = put i (x ∷ w.nonces i) w.nonces }))) (back t))
    where
      old : Given P
      old = record { used = w.nonces; past = past }

      new : Given P
      new = record { used = put i (x ∷ w.nonces i) w.nonces; past = past }

      view : ℕ
      view = w.stored i

      asks : List (Send P)
      asks = to_all n i (Recovery x)

      stored' : ℕ → ℕ
      stored' = put i view w.stored

      used_here : IsUsed x (put i (x ∷ w.nonces i) w.nonces i)
      used_here = subst (IsUsed x) (sym (put_same i (x ∷ w.nonces i) w.nonces))
          (ap (λ b. b || list_any (λ y. y == x) (w.nonces i)) (eq-eqb x x refl))

      g : Grows n w.stored old w.messages stored' new w.messages
      g = grows_same n w.stored old w.messages stored' new
          (put_rule i view w.stored (λ j y. w.stored j ≤ y) (le_refl (w.stored i)) (λ j ne. le_refl (w.stored j)))
          (λ j y u. put_rule i (x ∷ w.nonces i) w.nonces (λ k (xs : List ℕ). IsUsed y (w.nonces k) → IsUsed y xs)
          (λ h. or_right (x == y) _ h) (λ k ne h. h) j u)

      responses : (list_any (λ y. y == x) (w.nonces i) ≡ false) → (m : Message P) → Sent m w.messages → m.to ≡ i →
          AnswersAll w.messages i x m.body
      responses t m s to = go m.body (inv.sound.messages m s)
        where
          go : (b : PeerMessage P) → BodyFact n w.stored old w.messages m.from m.to b → AnswersAll w.messages i x b
          go (RecoveryResponse y a) f = λ e.
              absurd (true≢false (sym (subst (λ k. IsUsed x (w.nonces k)) to (subst (λ z. IsUsed z (w.nonces m.to))
              (sym e) f.0)) ∙ t))
          go (Prepare v e p k) f = tt
          go (PrepareOk v q) f = tt
          go (Commit v k) f = tt
          go (StartViewChange v) f = tt
          go (DoViewChange v c) f = tt
          go (StartView v held) f = tt
          go (GetState v y) f = tt
          go (NewState v y tail) f = tt
          go (Recovery y) f = tt

      settled : (list_any (λ y. y == x) (w.nonces i) ≡ false) →
          Invariant n (put i (Some (recovering n view x)) (all_of n w)) stored' new w.messages
      settled t = record {
        sound = sound_grows n w.stored old w.messages stored' new w.messages g (adds_none n w.stored old w.messages
            stored' new) inv.sound.kept inv.sound.rising inv.sound;
        each = put_rule i (Some (recovering n view x)) (all_of n w) (λ j y. ReplicaFact n stored' new w.messages j y)
            (record {
              view_number = sym (put_same i view w.stored);
              state = record {
                used = used_here;
                nothing = refl;
                others = λ j a e. absurd (cc e);
                held = λ j a e.
                    absurd (cc e);
                has_all = λ j a e. absurd (cc e);
                sent = responses t;
              };
            })
            (λ j ne. replica_grows n w.stored old w.messages stored' new w.messages g
            (adds_none n w.stored old w.messages stored' new) j (all_of n w j) (still_same n w.messages j)
            (put_other i view w.stored j ne) (inv.each j));
      }

      back : (list_any (λ y. y == x) (w.nonces i) ≡ false) →
          Invariant n (put i (Some (recovering n view x)) (all_of n w)) stored' new
          (posted i (map (λ j. send_to j (Recovery x)) (others n i)) w.messages)
      back t = post_each n stored' new w.messages i (Recovery x) (λ v q. refl) (λ ms to. tt)
          (λ to. quiet_plain n stored' new w.messages i to (Recovery x) used_here tt (λ u xs. refl) (λ u xs. refl)
          (λ u s. s) (λ u q. refl))
          (put i (Some (recovering n view x)) (all_of n w)) (others n i) (settled t)
