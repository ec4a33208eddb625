-- The frames that tell a message give it: its parts by their law, and its one frame, which is no part.
use Rattle.std.proofs.Common.{◌≡◌, ◌≢◌, ℕ, List, [], ◌∷◌, Option, None, Result, Ok, Err, inl, inr, refl, sym, ap, subst, ◌∙◌, slice_index}
use Rattle.std.specs.List.{AllByRecursion}
use Rattle.ldap_op.specs.Values.{OpValue}
use Rattle.vr_state.specs.declared.message.PeerMessage.{PeerMessage}
use Rattle.vr_state.specs.declared.message.PeerMessage.TheVariants.{Prepare, PrepareOk, Commit, StartViewChange, DoViewChange, StartView, GetState}
use Rattle.vr_state.specs.declared.message.PeerMessage.TheVariants.{NewState, Recovery, RecoveryResponse}
use Rattle.vr_wire.specs.declared.error.WireError.{WireError}
use Rattle.vr_wire.specs.declared.error.WireError.TheVariants as error
use Rattle.vr_wire.specs.declared.gathering.Came.{Came}
use Rattle.vr_wire.specs.declared.gathering.Came.TheVariants as came
use Rattle.vr_wire.specs.declared.labels.Portion.{Portion}
use Rattle.vr_wire.specs.Frames.{kind_of}
use Rattle.vr_wire.specs.Gathering.{ComesOfFrame, Takes, TakesAll}
use Rattle.vr_wire.specs.Heap.{Heap}
use Rattle.vr_wire.specs.PartLaws.{FramesGiveMessage, message_at_last}
use Rattle.vr_wire.specs.Parts.{IsPart}
use Rattle.vr_wire.specs.Payloads.{IsFrame}
use Rattle.vr_wire.proofs.OneFrame.{OneUpdate, one_frame}
use Rattle.vr_wire.proofs.Starts.{parts_give}

-- no message has the kind of a part
other_kind : (m : PeerMessage (List ℕ)) → kind_of m ≢ 13
other_kind (Prepare v e p k) e' = absurd (cc e')
other_kind (PrepareOk v p) e = absurd (cc e)
other_kind (Commit v k) e = absurd (cc e)
other_kind (StartViewChange v) e = absurd (cc e)
other_kind (DoViewChange v c) e = absurd (cc e)
other_kind (StartView v held) e = absurd (cc e)
other_kind (Recovery x) e = absurd (cc e)
other_kind (RecoveryResponse x a) e = absurd (cc e)
other_kind (GetState v k) e = absurd (cc e)
other_kind (NewState v x tail) e = absurd (cc e)

-- so no frame of a message is a part
no_part : (cluster sender other : ℕ) (m : PeerMessage OpValue) (p : Portion (List ℕ)) (frame : List ℕ) →
    IsFrame cluster sender m frame → IsPart other p frame → ⊥
no_part cluster sender other m p frame f part = other_kind f.raw (ap (λ (l : List ℕ). slice_index l 11)
    (sym f.spelled ∙ part.spelled))

module _ (one : OneUpdate) (cluster sender : ℕ) (m : PeerMessage OpValue) (frame : List ℕ)
    (f : IsFrame cluster sender m frame) where
  -- what comes of a frame is its message
  read_is : (r : Result Came WireError) → ComesOfFrame cluster frame r → r ≢ Err error.NoMemory → r ≡
      Ok (came.Message sender m)
  read_is (Ok (came.Message speaker n)) comes enough =
      let same = one_frame one frame cluster speaker n cluster sender m comes f in
      ap (λ (s : ℕ). Ok (came.Message s n)) same.1 ∙ ap (λ (k : PeerMessage OpValue). Ok (came.Message sender k)) same.2
  read_is (Ok (came.Part speaker)) comes enough = absurd comes
  read_is (Ok (came.Dropped speaker)) comes enough = absurd comes
  read_is (Err error.BadFrame) comes enough = absurd (comes cluster sender m f)
  read_is (Err error.ForeignFrame) comes enough = absurd (comes.differs
      (one_frame one frame comes.other comes.sender comes.message cluster sender m comes.frame f).0)
  read_is (Err error.NoMemory) comes enough = absurd (enough refl)

  -- whatever was gathered before
  taken_is : (old new : Option Heap) (r : Result Came WireError) → Takes cluster old frame r new →
      r ≢ Err error.NoMemory → (r ≡ Ok (came.Message sender m)) × (new ≡ None)
  taken_is old new r (inl t) enough = absurd (no_part cluster sender cluster m t.portion frame f t.part)
  taken_is old new r (inr (inl t)) enough = (read_is r t.comes enough, t.dropped)
  taken_is old new r (inr (inr (inl t))) enough = absurd (no_part cluster sender t.other m t.portion frame f t.part)
  taken_is old new r (inr (inr (inr t))) enough = absurd (enough t.refused)

  -- taken alone
  one_taken : (old new : Option Heap) (results : List (Result Came WireError)) →
      TakesAll cluster old (frame ∷ []) results new → AllByRecursion (λ r. r ≢ Err error.NoMemory) results →
      (results ≡ message_at_last sender m (frame ∷ [])) × (new ≡ None)
  one_taken old new [] t enough = absurd t
  one_taken old new (r ∷ []) t enough =
      let k = taken_is old t.0 r t.1 enough.0 in
      (ap (λ (x : Result Came WireError). x ∷ []) k.0, t.2 ∙ k.1)
  one_taken old new (r ∷ s ∷ rs) t enough = absurd t.2

-- The frames of a message give it.
pub frames_give : OneUpdate → FramesGiveMessage
frames_give one cluster sender number m frames old new results c n (inl t) run enough =
    let done = one_taken one cluster sender m t.0 t.2 old new results
    (subst (λ (fs : List (List ℕ)). TakesAll cluster old fs results new) t.1 run) enough in
    (subst (λ (fs : List (List ℕ)). results ≡ message_at_last sender m fs) (sym t.1) done.0, done.1)
frames_give one cluster sender number m frames old new results c n (inr t) run enough =
    parts_give one cluster sender number m t.0 frames old new results c n t.1 t.2 run enough
