-- Each message is taken with its own note.
use Rattle.std.proofs.Common.{◌≡◌, ℕ, Bool, true, false, cond, List, [], ◌∷◌, Option, Some, None, refl, ap, ◌∙◌}
use Rattle.vr_state.specs.declared.message.PeerMessage.{PeerMessage}
use Rattle.vr_state.specs.declared.message.PeerMessage.TheVariants.{Prepare, PrepareOk, Commit, StartViewChange, DoViewChange, StartView, GetState, NewState, Recovery, RecoveryResponse}
use Rattle.vr_short.specs.Pairing.{Sending, NotesArePaired, newest, note_of, own_note, own_pairs, paired, with_note}

-- what came before makes no difference to a message that has a note of its own, and none that has none is looked at
same : {P : Type 0} (said committed : ℕ) (before : Option ℕ) (m : PeerMessage P)
    (rest : List (Option ℕ × PeerMessage P)) →
    with_note (newest (note_of said committed m) before) m rest ≡ with_note (note_of said committed m) m rest
same said committed before (DoViewChange v c) rest = refl
same said committed before (StartView v held) rest = refl
same said committed before (StartViewChange v) rest = refl
same said committed before (Prepare v e p k) rest = refl
same said committed before (PrepareOk v p) rest = refl
same said committed before (Commit v k) rest = refl
same said committed before (GetState v k) rest = refl
same said committed before (NewState v k tail) rest = refl
same said committed before (Recovery k) rest = refl
same said committed before (RecoveryResponse k a) rest = refl

pub pairs : {P : Type 0} → NotesArePaired P
pairs before [] = refl
pairs {P} before (s ∷ ss) = go s.comes (pairs None ss) (pairs (newest (own_note s) before) ss)
  where
    -- the message comes, or it doesn't
    go : (b : Bool) → paired None ss ≡ own_pairs ss → paired (newest (own_note s) before) ss ≡ own_pairs ss →
        cond b (with_note (newest (own_note s) before) s.message (paired None ss))
        (paired (newest (own_note s) before) ss) ≡ cond b (with_note (own_note s) s.message (own_pairs ss))
        (own_pairs ss)
    go true next rest = same s.said s.committed before s.message (paired None ss)
        ∙ ap (λ (l : List (Option ℕ × PeerMessage P)). with_note (own_note s) s.message l) next
    go false next rest = rest
